-- The board of a job serves the filling: what is worked out from it is the worth, and its box can be filled.
use Prim.Native.Nat.{ℕ, ◌≤◌}
use mathlib.Core.Bool.{Bool, not, false}
use mathlib.Core.List.{List}
use mathlib.Core.Path.{◌≡◌, sym, ap, ◌∙◌, subst}
use Rattle.cutting.specs.Limits.{pieces_max}
use Rattle.cutting.specs.Piece.{Inside}
use Rattle.cells.specs.Cells.{cell_of}
use Rattle.cells.specs.Box.{is_empty, count_in_box}
use Rattle.cells.specs.Inner.{any_in_box}
use Rattle.board.specs.declared.Board.{Board}
use Rattle.board.specs.Inner.{width_on, height_on, rows_on, board_of}
use Rattle.board.proofs.Holds.{row_lays, board_width, board_height, board_listed, board_holds}
use Rattle.fill.specs.Filled.{Full, Bounded}
use Rattle.fill.specs.Inner.{filled, Valued, BoxReady}
use Rattle.fill.proofs.Worth.{GivesWorth, worth_of_worth}
use Rattle.fill.proofs.Growing.{full_says}
use Rattle.fill.proofs.Rounds.{box_full}
use Rattle.job.specs.declared.Job.{Job}
use Rattle.job.specs.Job.{pieces_of, lay_of}
use Rattle.job.specs.Range.{JobInRange}
use Rattle.desk.specs.Refusals.{Usable}
use Rattle.desk.specs.Inner.{job_rows, filled_for}
use Rattle.desk.proofs.Exactly.{usable_holds}

pub job_hold : (job : Job) → JobInRange job → GivesWorth (job_rows job) (lay_of job) job.width job.height
unfolding job_rows
job_hold job r = worth_of_worth (rows_on (board_of job)) (pieces_of job) job.width job.height (board_holds job r)

-- The values of a job in range are in range.
valued : (job : Job) → JobInRange job → Valued (rows_on (board_of job))
valued job r k h = (r.pieces _ _ _ (row_lays (board_listed job r.count_most) k h)).value_most

pub box_ready : (job : Job) (t : List ℕ) (x y : ℕ) {board : Board}
    → Usable job t → Inside x y job.width job.height → Bounded (cell_of job.width t) x y → board ≡ board_of job
    → BoxReady (rows_on board) (width_on board) (height_on board) x y t
box_ready job t x y u i bounded e =
    subst (λ (b : Board). BoxReady (rows_on b) (width_on b) (height_on b) x y t) (sym e)
    (subst (λ (m : ℕ). BoxReady (rows_on (board_of job)) m (height_on (board_of job)) x y t) (sym (board_width job few))
    (subst (λ (m : ℕ). BoxReady (rows_on (board_of job)) job.width m x y t) (sym (board_height job few)) ready))
  where
    few : job.count ≤ pieces_max
    few = u.range.count_most

    ready : BoxReady (rows_on (board_of job)) job.width job.height x y t
    ready = record { holds = usable_holds job t u; inside = i; bounded = bounded; valued = valued job u.range }

-- What the box holds once it is filled.
pub box_filled : (job : Job) (t : List ℕ) (x y : ℕ) {r : ℕ} {board : Board} {t' : List ℕ} → JobInRange job → board ≡ board_of job
    → r ≡ count_in_box x y (is_empty (width_on board) t) → t' ≡ filled (rows_on board) (width_on board) (height_on board) x y t
    → (r ≡ count_in_box x y (is_empty job.width t)) × (t' ≡ filled_for job t x y)
unfolding filled_for job_rows
box_filled job t x y {board = board} range e h k =
    let wide : width_on board ≡ job.width = ap width_on e ∙ board_width job range.count_most in
    let high : height_on board ≡ job.height = ap height_on e ∙ board_height job range.count_most in
    (h ∙ ap (λ (m : ℕ). count_in_box x y (is_empty m t)) wide, k ∙ (λ i. filled (rows_on (e i)) (wide i) (high i) x y t))

-- A box without an empty cell, looked for with the code's width, is as it was, and nothing is counted.
pub box_still : (job : Job) (t : List ℕ) (x y : ℕ) {a : ℕ} {r : Bool} → a ≡ job.width → r ≡ any_in_box x y (is_empty a t) → r ≡ false
    → (0 ≡ count_in_box x y (is_empty job.width t)) × (t ≡ filled_for job t x y)
unfolding filled_for
box_still job t x y {a = a} wide e none =
    box_full (job_rows job) job.width job.height x y t
    (subst (λ (m : ℕ). Full m t x y) wide ((full_says a t x y).means (ap not (sym e ∙ none))))
