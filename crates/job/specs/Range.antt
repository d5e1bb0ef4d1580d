-- The ranges of a job (rules 1.2 to 1.5); one that is out of them is refused with 1 (rule 7.1).
use Rattle.std.specs.Prelude.{◌≤◌}
use Rattle.cutting.specs.Limits.{side_max, pieces_max}
use Rattle.cutting.specs.Piece.{InRange}
use Rattle.job.specs.declared.Job.{Job}
use Rattle.job.specs.Job.{lay_of}

-- The job is in range: its sides, n, and its pieces.
pub record JobInRange (job : Job) : Type 0 where
  -- The sides of the sheet (rule 1.2).
  pub width_least : 1 ≤ job.width
  pub width_most : job.width ≤ side_max
  pub height_least : 1 ≤ job.height
  pub height_most : job.height ≤ side_max
  -- The number of pieces (rule 1.3).
  pub count_most : job.count ≤ pieces_max
  pub pieces : InRange (lay_of job)
