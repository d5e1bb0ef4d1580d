-- Open, add, correct and remove (rules 4.4 to 4.7): answer, job and all cells.
use Rattle.std.specs.Prelude.{ℕ, suc, ◌-◌, List, [], ◌⊎◌, get_or}
use Rattle.cutting.specs.Piece.{Fits}
use Rattle.cells.specs.Emptied.{Empties}
use Rattle.job.specs.declared.Piece.{Piece as Record}
use Rattle.job.specs.declared.Job.{Job}
use Rattle.job.specs.Job.{no_record, job_of, zero_job}
use Rattle.job.specs.Change.{with_added, with_corrected, with_removed}
use Rattle.desk.specs.Refusals.{OpenRefusal, AddRefusal, CorrectRefusal, RemoveRefusal}

-- The answer of open, add, correct and remove: the refusal's number, 0 where there is none, and the job.
pub record Changed : Type 0 where
  pub refusal : ℕ
  pub job : Job

-- What a change of the sheet a by b and of the table t answers, and what the table holds then. `refusal` says which number the
-- call has, `hit` which cells it empties, `after` is the job after it, and `left` the job where it is refused.
pub data Changes (a b : ℕ) (refusal : ℕ → Type 0) (hit : ℕ → ℕ → Type 0) (after left : Job) (t : List ℕ) : Changed → List ℕ → Type 0 where
  -- Number 0 (rule 4.15), and the cells that are hit are emptied, no other (rule 5.3).
  accepted : {t' : List ℕ} → refusal 0 → Empties a b hit t t' → Changes a b refusal hit after left t (record { refusal = 0; job = after }) t'
  -- The refusal's number, the job that is left, and the table as it was (rule 4.15).
  refused : {k : ℕ} → refusal (suc k) → Changes a b refusal hit after left t (record { refusal = suc k; job = left }) t

-- Every cell is hit.
abbrev pub Everywhere : ℕ → ℕ → Type 0
Everywhere x y = Unit {0}

-- Rule 4.4: the whole sheet is emptied, for a job with no piece; rule 4.17: where it is refused, the job of zeros.
abbrev pub Opens : ℕ → ℕ → List ℕ → Changed → List ℕ → Type 0
Opens a b t = Changes a b (OpenRefusal a b t) Everywhere (job_of a b []) zero_job t

-- A size fits in the cell (x, y) (rule 5.1).
abbrev pub SizeFits : Record → ℕ → ℕ → Type 0
SizeFits size x y = Fits size.width size.height x y

-- The record of piece k.
unfoldable pub record_of_piece : Job → ℕ → Record
record_of_piece job k = get_or job.pieces (k - 1) no_record

-- Rule 4.5: one more piece; the cells where its size fits are emptied (rule 5.2).
abbrev pub Adds : Job → List ℕ → Record → Changed → List ℕ → Type 0
Adds job t piece = Changes job.width job.height (AddRefusal job t piece) (SizeFits piece) (with_added job piece) job t

-- Rule 4.6: another piece k; the cells where the old or the new size fits are emptied, even where both are alike (rule 5.2).
abbrev pub Corrects : Job → List ℕ → ℕ → Record → Changed → List ℕ → Type 0
Corrects job t k piece =
    Changes job.width job.height (CorrectRefusal job t k piece)
    (λ x y. SizeFits (record_of_piece job k) x y ⊎ SizeFits piece x y) (with_corrected job k piece) job t

-- Rule 4.7: piece k is out; the cells where its size fits are emptied (rule 5.2).
abbrev pub Removes : Job → List ℕ → ℕ → Changed → List ℕ → Type 0
Removes job t k =
    Changes job.width job.height (RemoveRefusal job t k) (SizeFits (record_of_piece job k)) (with_removed job k) job t
