-- The file that plan writes: that of the tree by rules 6.1 to 6.5, with no note.
use Rattle.std.specs.Prelude.{ℕ, List, []}
use Rattle.cutting.specs.Tree.{Tree}
use Rattle.cells.specs.Cells.{cell_of}
use Rattle.job.specs.declared.Job.{Job}
use Rattle.job.specs.Job.{pieces_of}
use Rattle.tracer.specs.Rules.{TreeBy}
use Rattle.checker.specs.PlanFile.{plan_bytes}

-- The tree for x by y, by rules 6.1 to 6.5 on the table's cells, with the job's pieces and its P and Q.
abbrev pub TreeFor : Job → List ℕ → ℕ → ℕ → Tree → Type 0
TreeFor job t x y tree = TreeBy (pieces_of job) job.width job.height (cell_of job.width t) x y tree

-- The block of a plan file says the rectangle that was planned (rule 8.4).
abbrev pub sheet_of : Job → ℕ → ℕ → Job
sheet_of job x y = record { width = x; height = y; count = job.count; pieces = job.pieces }

-- The tree's file, with no note before it (rule 8.3). The format itself is check's.
abbrev pub file_of : Job → ℕ → ℕ → Tree → List ℕ
file_of job x y tree = plan_bytes [] (sheet_of job x y) tree
