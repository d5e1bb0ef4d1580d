-- What the program prints is a best plan, in the words of the rules.
use Rattle.std.specs.Prelude.{ℕ, ◌*◌, ◌≤◌, ◌<◌, List, ◌++◌, ◌≡◌, length}
use Rattle.cutting.specs.Piece.{Inside}
use Rattle.cutting.specs.Dissection.{Best}
use Rattle.cutting.specs.Tree.{Tree, Valid, earning}
use Rattle.cells.specs.Cells.{cell_of}
use Rattle.job.specs.declared.Job.{Job}
use Rattle.job.specs.Job.{pieces_of, lay_of}
use Rattle.job.specs.Block.{job_in}
use Rattle.refusals.specs.Refusals.{short_buffer}
use Rattle.plan.specs.File.{TreeFor, file_of}
use Rattle.listing.specs.Line.{head_text, refused_text}
use Rattle.listing.specs.Listing.{listing}
use Rattle.program.specs.Sizes.{plan_room}
use Rattle.program.specs.Program.{program_text}

-- The tree of the whole sheet by rules 6.1 to 6.5, on a table that holds the best value of every rectangle inside it (rule 2.6).
pub record BestTree (job : Job) (tree : Tree) : Type 0 where
  pub table : List ℕ
  pub cells : (u w : ℕ) → Inside u w job.width job.height → Best (lay_of job) u w (cell_of job.width table u w)
  pub by_rules : TreeFor job table job.width job.height tree

-- The length of its plan file, which the program's plan buffer holds or not (rule 9.2).
abbrev pub file_length : Job → Tree → ℕ
file_length job tree = length (file_of job job.width job.height tree)

-- An answer (rule 9.5): the best value, all cells of the sheet worked out, and the lines of a tree that dissects the sheet into the
-- block's own pieces and earns that value.
pub record PrintsBest (block : List ℕ) : Type 0 where
  pub value : ℕ
  pub tree : Tree
  pub valid : Valid (pieces_of (job_in block)) tree (job_in block).width (job_in block).height
  pub earns : earning (pieces_of (job_in block)) tree ≡ value
  pub best : Best (lay_of (job_in block)) (job_in block).width (job_in block).height value
  pub prints : program_text block
      ≡ head_text value ((job_in block).width * (job_in block).height) ++ listing (pieces_of (job_in block)) 1 tree (job_in block).width (job_in block).height
  -- It is the tree by the rules, and its file is no longer than the plan buffer.
  pub traced : BestTree (job_in block) tree
  pub room : file_length (job_in block) tree ≤ plan_room

-- Refusal 8 (rules 7.8 and 9.2): the file of the tree by the rules is longer than the plan buffer.
pub record PlanTooLong (block : List ℕ) : Type 0 where
  pub tree : Tree
  pub valid : Valid (pieces_of (job_in block)) tree (job_in block).width (job_in block).height
  pub traced : BestTree (job_in block) tree
  pub long : plan_room < file_length (job_in block) tree
  pub prints : program_text block ≡ refused_text short_buffer
