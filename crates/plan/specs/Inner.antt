-- Plan as it computes; nobody has to believe it: `plan_exactly` says that it is `Plans`.
use Rattle.std.specs.Prelude.{ℕ, suc, ◌≤◌, zero, ◌+◌, ◌*◌, Bool, cond, not, ◌&&◌, true, List, [], ◌∷◌, ◌≡◌, leb, length, take, drop, Option, Some, None}
use Rattle.laws.specs.Inner.{number_given}
use Rattle.cutting.specs.Tree.{Tree}
use Rattle.cells.specs.Cells.{cell_of, empty}
use Rattle.job.specs.declared.Job.{Job}
use Rattle.job.specs.Job.{lay_of}
use Rattle.tracer.specs.Inner.{whole, traced, traces}
use Rattle.desk.specs.Inner.{job_rows, accepted}
use Rattle.cutting.specs.Piece.{Inside}
use Rattle.cells.specs.Box.{is_empty}
use Rattle.cells.specs.Inner.{exceeds, any_in_box}
use Rattle.job.specs.Inner.{within, job_in_range}
use Rattle.refusals.specs.Refusals.{alien_table, short_buffer}
use Rattle.desk.specs.Refusals.{cells_of}
use Rattle.fields.specs.Format.{trailer_length}
use Rattle.job.specs.Block.{block_length}
use Rattle.laws.specs.Put.{put}
use Rattle.checker.specs.Checked.{Checked}
use Rattle.checker.specs.Inner.{checked}
use Rattle.cutting.specs.Dissection.{Best}
use Rattle.plan.specs.File.{file_of}
use Rattle.plan.specs.Refusals.{Readable, plan_refusals}
use Rattle.plan.specs.Planning.{Planned, Written, Refused}

-- The tree with what the board holds of the job, whether rule 6.6 strikes nowhere in it, and its
-- file. `rules_tree` and `tree_by_rules` say that it is the tree by the rules.
abbrev pub tree_for : Job → List ℕ → ℕ → ℕ → Tree
tree_for job t x y = traced (job_rows job) (cell_of job.width t) (whole x y)

abbrev pub traces_for : Job → List ℕ → ℕ → ℕ → Bool
traces_for job t x y = traces (job_rows job) (cell_of job.width t) (whole x y)

abbrev pub plan_file : Job → List ℕ → ℕ → ℕ → List ℕ
plan_file job t x y = file_of job x y (tree_for job t x y)

-- The refusals of plan (rule 4.16): a test for each row, and the number that they compute.

-- The buffer has room for so many bytes.
unfoldable pub plan_tests : Job → List ℕ → ℕ → ℕ → ℕ → List Bool
plan_tests job t x y room =
    job_in_range job
    ∷ leb (cells_of job) (length t)
    ∷ (within x job.width && within y job.height)
    ∷ not (any_in_box x y (is_empty job.width t))
    ∷ not (any_in_box x y (exceeds job.width t))
    ∷ traces_for job t x y
    ∷ leb (length (plan_file job t x y)) room
    ∷ []

unfoldable pub plan_refused : Job → List ℕ → ℕ → ℕ → ℕ → ℕ
plan_refused job t x y room = number_given (plan_refusals job t x y room) (plan_tests job t x y room)

-- The rows before the tree, 1, 2, 3, 6 and 7, whatever the room ..
abbrev pub box_rows : ℕ
box_rows = 5

unfoldable pub box_refused : Job → List ℕ → ℕ → ℕ → ℕ
box_refused job t x y = number_given (take box_rows (plan_refusals job t x y 0)) (take box_rows (plan_tests job t x y 0))

-- .. and those of the tree and its file: 7, where rule 6.6 strikes, and 8.
unfoldable pub file_refused : Job → List ℕ → ℕ → ℕ → ℕ → ℕ
file_refused job t x y room = number_given (drop box_rows (plan_refusals job t x y room)) (drop box_rows (plan_tests job t x y room))

-- The same by the length of the nodes, none where rule 6.6 strikes.
unfoldable pub file_number : ℕ → Option ℕ → ℕ → ℕ
file_number count (Some nodes) room = cond (leb (block_length count + nodes + trailer_length) room) 0 short_buffer
file_number count None room = alien_table

-- The answer with these numbers.
abbrev pub planned_with : ℕ → ℕ → ℕ → Planned
planned_with zero bytes value = Written bytes value
planned_with (suc k) bytes value = Refused (suc k)

unfoldable pub planned : Job → List ℕ → ℕ → ℕ → ℕ → Planned
planned job t x y room = planned_with (plan_refused job t x y room) (length (plan_file job t x y)) (cell_of job.width t x y)

unfoldable pub planned_bytes : Job → List ℕ → ℕ → ℕ → List ℕ → List ℕ
planned_bytes job t x y o = accepted (plan_refused job t x y (length o)) (put o 0 (plan_file job t x y)) o

-- What the writing may rely on.
pub record Ready (job : Job) (t : List ℕ) (x y : ℕ) (o : List ℕ) : Type 0 where
  pub readable : Readable job t x y
  pub traces : traces_for job t x y ≡ true
  pub room : length (plan_file job t x y) ≤ length o

-- The promise of plan, for all input: r is its answer, and o' is what the buffer o holds then. `plan_exactly` says that this is
-- `Plans`.

abbrev pub PlanPromise : Job → List ℕ → ℕ → ℕ → List ℕ → Planned → List ℕ → Type 0
PlanPromise job t x y o r o' = (r ≡ planned job t x y (length o)) × (o' ≡ planned_bytes job t x y o)

-- What check makes of a planned file.

-- Check accepts the file, with no note, this value, and areas that together make x by y (rules 2.7 and 4.11).
pub record AcceptedAs (file : List ℕ) (x y value : ℕ) : Type 0 where
  pub piece_area_of : ℕ
  pub scrap_area_of : ℕ
  pub answer : checked file ≡ Checked.Accepted value 0 piece_area_of scrap_area_of
  pub areas : piece_area_of + scrap_area_of ≡ x * y

-- Every filled cell of the sheet holds its best value.
abbrev pub HoldsBest : Job → List ℕ → Type 0
HoldsBest job t =
    (u w : ℕ) → Inside u w job.width job.height → (cell_of job.width t u w ≡ empty → ⊥) → Best (lay_of job) u w (cell_of job.width t u w)
