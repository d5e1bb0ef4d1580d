-- Planning what was asked: the plan earns the best value.
use Rattle.std.specs.Prelude.{ℕ, List, ◌≡◌, length, take}
use Rattle.cutting.specs.Dissection.{Best}
use Rattle.cutting.specs.Tree.{Tree, Valid, earning}
use Rattle.job.specs.declared.Job.{Job}
use Rattle.job.specs.Job.{pieces_of, lay_of}
use Rattle.plan.specs.File.{file_of}
use Rattle.plan.specs.Planning.{Planned, Written}

-- A best plan of x by y is in the buffer p, and r is the answer.
pub record PlansBest (job : Job) (x y : ℕ) (r : Planned) (p : List ℕ) : Type 0 where
  -- A tree that dissects x by y into the job's pieces and earns the value, which is the best value.
  pub tree : Tree
  pub value : ℕ
  pub valid : Valid (pieces_of job) tree x y
  pub earns : earning (pieces_of job) tree ≡ value
  pub best : Best (lay_of job) x y value
  -- Its file on the job, with the sides x and y, stands at the start of the buffer; the answer is its length and the value.
  pub written : r ≡ Written (length (file_of job x y tree)) value
  pub file : take (length (file_of job x y tree)) p ≡ file_of job x y tree
