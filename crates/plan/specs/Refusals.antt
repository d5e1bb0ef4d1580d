-- The refusals of plan: when each number is given, exactly, in the order in which plan looks (rule 4.16).
use Rattle.std.specs.Prelude.{ℕ, ◌≤◌, List, [], ◌∷◌, length}
use Rattle.laws.specs.Refusal.{Row, unless, Gives}
use Rattle.cutting.specs.Piece.{Inside}
use Rattle.cutting.specs.Tree.{Tree}
use Rattle.cells.specs.Cells.{cell_of}
use Rattle.fill.specs.Filled.{Full, Bounded}
use Rattle.job.specs.declared.Job.{Job}
use Rattle.job.specs.Range.{JobInRange}
use Rattle.refusals.specs.Refusals.{bad_job, short_table, not_inside, not_asked, alien_table, short_buffer}
use Rattle.desk.specs.Refusals.{cells_of, Usable}
use Rattle.plan.specs.File.{TreeFor, file_of}

-- The job is usable, the rectangle lies inside its sheet, and each cell of the box is filled and within its bound.
pub record Readable (job : Job) (t : List ℕ) (x y : ℕ) : Type 0 where
  pub usable : Usable job t
  pub inside : Inside x y job.width job.height
  pub full : Full job.width t x y
  pub bounded : Bounded (cell_of job.width t) x y

-- There is a tree by the rules: rule 6.6 strikes nowhere.
abbrev pub HasTree : Job → List ℕ → ℕ → ℕ → Type 0
HasTree job t x y = (tree : Tree) × TreeFor job t x y tree

-- Its file is no longer than the buffer.
abbrev pub HasRoom : Job → List ℕ → ℕ → ℕ → ℕ → Type 0
HasRoom job t x y room = (tree : Tree) × TreeFor job t x y tree × (length (file_of job x y tree) ≤ room)

-- The job, the table, the rectangle (rules 7.1 to 7.3), an empty cell (rule 7.6), a filled one with too large a number, then
-- rule 6.6 (both rule 7.7), and the buffer (rule 7.8).
unfoldable pub plan_refusals : Job → List ℕ → ℕ → ℕ → ℕ → List Row
plan_refusals job t x y room =
    unless bad_job (JobInRange job)
    ∷ unless short_table (cells_of job ≤ length t)
    ∷ unless not_inside (Inside x y job.width job.height)
    ∷ unless not_asked (Full job.width t x y)
    ∷ unless alien_table (Bounded (cell_of job.width t) x y)
    ∷ unless alien_table (HasTree job t x y)
    ∷ unless short_buffer (HasRoom job t x y room)
    ∷ []

-- The number of plan.
abbrev pub PlanRefusal : Job → List ℕ → ℕ → ℕ → ℕ → ℕ → Type 0
PlanRefusal job t x y room = Gives (plan_refusals job t x y room)
