-- The job after an add, a correct or a remove (rules 4.5 to 4.7).
use Rattle.std.specs.Prelude.{ℕ}
use Rattle.cutting.specs.Change.{added, corrected, removed}
use Rattle.job.specs.declared.Piece.{Piece as Record}
use Rattle.job.specs.declared.Job.{Job}
use Rattle.job.specs.Job.{piece_of, pieces_of, job_of}

-- With one more piece, behind the others (rule 4.5).
unfoldable pub with_added : Job → Record → Job
with_added job new = job_of job.width job.height (added (pieces_of job) (piece_of new))

-- With another piece k (rule 4.6).
unfoldable pub with_corrected : Job → ℕ → Record → Job
with_corrected job k new = job_of job.width job.height (corrected (pieces_of job) k (piece_of new))

-- Without piece k (rule 4.7).
unfoldable pub with_removed : Job → ℕ → Job
with_removed job k = job_of job.width job.height (removed (pieces_of job) k)
