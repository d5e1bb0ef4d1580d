-- Plan (rule 4.10): the answer and all bytes of the lent buffer.
use Rattle.std.specs.Prelude.{ℕ, suc, ◌≤◌, List, length, Result, Ok, Err}
use Rattle.refusals.specs.declared.Refusal.{Refusal}
use Rattle.refusals.specs.Refusals.{number}
use Rattle.laws.specs.Put.{put}
use Rattle.cutting.specs.Tree.{Tree}
use Rattle.cells.specs.Cells.{cell_of}
use Rattle.job.specs.declared.Job.{Job}
use Rattle.plan.specs.File.{TreeFor, file_of}
use Rattle.plan.specs.Refusals.{Readable, PlanRefusal}
use Rattle.plan.specs.declared.Written.{Written as Values}

-- The answer of plan: the file's length and its value, or the refusal's number.
pub data Planned : Type 0 where
  Written : ℕ → ℕ → Planned
  Refused : ℕ → Planned

-- The code's answer as that.
abbrev pub planned_from : Result Values Refusal → Planned
planned_from (Ok written) = Planned.Written written.length written.value
planned_from (Err refusal) = Planned.Refused (number refusal)

-- The number and the values of each case of the answer (rule 4.15).
pub record PlannedNumbers : Type 0 where
  pub refusal : ℕ
  pub length : ℕ
  pub value : ℕ

-- A written plan has number 0, a refusal the length and the value 0 (rule 4.15).
abbrev pub planned_numbers : Planned → PlannedNumbers
planned_numbers (Written bytes value) = record { refusal = 0; length = bytes; value = value }
planned_numbers (Refused refusal) = record { refusal = refusal; length = 0; value = 0 }

-- The answer, and what the buffer o holds then.
pub data Plans (job : Job) (t : List ℕ) (x y : ℕ) (o : List ℕ) : Planned → List ℕ → Type 0 where
  -- Rule 4.10: the tree's file at the buffer's start; the answer is its length, and the number in cell (x, y).
  written : {tree : Tree} → Readable job t x y → TreeFor job t x y tree → length (file_of job x y tree) ≤ length o
      → Plans job t x y o (Written (length (file_of job x y tree)) (cell_of job.width t x y)) (put o 0 (file_of job x y tree))
  -- Rule 4.15: the refusal's number, and the buffer as it was.
  refused : {k : ℕ} → PlanRefusal job t x y (length o) (suc k) → Plans job t x y o (Refused (suc k)) o
