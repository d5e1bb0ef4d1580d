-- The refusals, call by call: when each number is given, exactly, in the order in which the call looks (rule 4.16).
use Rattle.std.specs.Prelude.{ℕ, ◌*◌, ◌≤◌, List, [], ◌∷◌, ◌≡◌, length}
use Rattle.laws.specs.Refusal.{Row, unless, when, Gives}
use Rattle.cutting.specs.Limits.{side_max, pieces_max}
use Rattle.cutting.specs.Piece.{PieceInRange, Inside}
use Rattle.cells.specs.Cells.{cell_of}
use Rattle.fill.specs.Filled.{Bounded}
use Rattle.job.specs.declared.Piece.{Piece as Record}
use Rattle.job.specs.declared.Job.{Job}
use Rattle.job.specs.Range.{JobInRange}
use Rattle.refusals.specs.Refusals.{bad_job, short_table, not_inside, bad_piece, full_job, alien_table}

-- The number of cells of a job's sheet.
abbrev pub cells_of : Job → ℕ
cells_of job = job.width * job.height

-- The job is in range and the table has its cells: what every accepted call on a job is granted.
pub record Usable (job : Job) (t : List ℕ) : Type 0 where
  pub range : JobInRange job
  pub room : cells_of job ≤ length t

-- k is a piece number of the job: 1 to n.
pub record IsNumber (job : Job) (k : ℕ) : Type 0 where
  pub least : 1 ≤ k
  pub most : k ≤ job.count

-- Open: a side (rule 7.1), the table (rule 7.2).
unfoldable pub open_refusals : ℕ → ℕ → List ℕ → List Row
open_refusals a b t =
    unless bad_job (Inside a b side_max side_max)
    ∷ unless short_table (a * b ≤ length t)
    ∷ []

-- Add: the job (rule 7.1), the table (rule 7.2), the new piece (rule 7.4), a full job (rule 7.5).
unfoldable pub add_refusals : Job → List ℕ → Record → List Row
add_refusals job t piece =
    unless bad_job (JobInRange job)
    ∷ unless short_table (cells_of job ≤ length t)
    ∷ unless bad_piece (PieceInRange piece.width piece.height piece.value)
    ∷ when full_job (job.count ≡ pieces_max)
    ∷ []

-- Correct: the job, the table, the piece's number, the new piece (rules 7.1 to 7.4).
unfoldable pub correct_refusals : Job → List ℕ → ℕ → Record → List Row
correct_refusals job t k piece =
    unless bad_job (JobInRange job)
    ∷ unless short_table (cells_of job ≤ length t)
    ∷ unless not_inside (IsNumber job k)
    ∷ unless bad_piece (PieceInRange piece.width piece.height piece.value)
    ∷ []

-- Remove: the job, the table, the piece's number (rules 7.1 to 7.3).
unfoldable pub remove_refusals : Job → List ℕ → ℕ → List Row
remove_refusals job t k =
    unless bad_job (JobInRange job)
    ∷ unless short_table (cells_of job ≤ length t)
    ∷ unless not_inside (IsNumber job k)
    ∷ []

-- Ask: the job, the table, the rectangle (rules 7.1 to 7.3), a filled cell with too large a number (rule 7.7).
unfoldable pub ask_refusals : Job → List ℕ → ℕ → ℕ → List Row
ask_refusals job t x y =
    unless bad_job (JobInRange job)
    ∷ unless short_table (cells_of job ≤ length t)
    ∷ unless not_inside (Inside x y job.width job.height)
    ∷ unless alien_table (Bounded (cell_of job.width t) x y)
    ∷ []

-- The number of each call: of open.
abbrev pub OpenRefusal : ℕ → ℕ → List ℕ → ℕ → Type 0
OpenRefusal a b t = Gives (open_refusals a b t)

-- Of add.
abbrev pub AddRefusal : Job → List ℕ → Record → ℕ → Type 0
AddRefusal job t piece = Gives (add_refusals job t piece)

-- Of correct.
abbrev pub CorrectRefusal : Job → List ℕ → ℕ → Record → ℕ → Type 0
CorrectRefusal job t k piece = Gives (correct_refusals job t k piece)

-- Of remove.
abbrev pub RemoveRefusal : Job → List ℕ → ℕ → ℕ → Type 0
RemoveRefusal job t k = Gives (remove_refusals job t k)

-- Of ask.
abbrev pub AskRefusal : Job → List ℕ → ℕ → ℕ → ℕ → Type 0
AskRefusal job t x y = Gives (ask_refusals job t x y)
