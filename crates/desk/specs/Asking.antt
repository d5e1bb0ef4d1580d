-- Ask (rules 4.8 and 4.9): the answer and all cells.
use Rattle.std.specs.Prelude.{ℕ, suc, List}
use Rattle.cells.specs.Cells.{cell_of}
use Rattle.cells.specs.Box.{is_empty, count_in_box}
use Rattle.fill.specs.Filled.{Fills}
use Rattle.job.specs.declared.Job.{Job}
use Rattle.job.specs.Job.{lay_of}
use Rattle.desk.specs.Refusals.{AskRefusal}

-- The answer of ask: the value and the cells worked out, or the refusal's number.
pub data Asked : Type 0 where
  Answered : ℕ → ℕ → Asked
  Refused : ℕ → Asked

-- The number and the values of each case of the answer (rule 4.15).
pub record AskedNumbers : Type 0 where
  pub refusal : ℕ
  pub value : ℕ
  pub worked : ℕ

-- An answer has number 0, a refusal the value and the count 0 (rule 4.15).
abbrev pub asked_numbers : Asked → AskedNumbers
asked_numbers (Asked.Answered value worked) = record { refusal = 0; value = value; worked = worked }
asked_numbers (Asked.Refused refusal) = record { refusal = refusal; value = 0; worked = 0 }

-- What the question x by y on a job and the table t answers, and what the table holds then.
pub data Asks (job : Job) (t : List ℕ) (x y : ℕ) : Asked → List ℕ → Type 0 where
  -- Rule 4.9: the number in cell (x, y) of the filled table, and how many cells of the box were empty before.
  answered : {t' : List ℕ} → AskRefusal job t x y 0 → Fills (lay_of job) job.width job.height x y t t'
      → Asks job t x y (Asked.Answered (cell_of job.width t' x y) (count_in_box x y (is_empty job.width t))) t'
  -- Rule 4.15: the refusal's number, and the table as it was.
  refused : {k : ℕ} → AskRefusal job t x y (suc k) → Asks job t x y (Asked.Refused (suc k)) t
