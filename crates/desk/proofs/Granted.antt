-- What an accepted call may count on: number 0 grants every fact of its list, asked for by number.
use Prim.Native.Nat.{ℕ, ◌-◌, ◌<◌}
use mathlib.Core.List.{List}
use mathlib.Core.Path.{◌≡◌, refl, sym, ap, ◌∙◌, subst}
use native.Mathlib.Omega.{arith}
use lib.ListN.{length}
use Rattle.laws.specs.Inner.{every_number, PassesAt}
use Rattle.laws.proofs.Refusal.{granted}
use Rattle.cutting.specs.Limits.{pieces_max}
use Rattle.cutting.specs.Piece.{Inside, PieceInRange}
use Rattle.cells.specs.Cells.{cell_of}
use Rattle.cells.specs.Inner.{Holds}
use Rattle.cells.proofs.Places.{holds_lower}
use Rattle.fill.specs.Filled.{Bounded}
use Rattle.fill.proofs.Growing.{filled-length}
use Rattle.job.specs.declared.Piece.{Piece as Record}
use Rattle.job.specs.declared.Job.{Job}
use Rattle.job.specs.Job.{pieces_of}
use Rattle.job.proofs.Range.{RecordIn, in_range_each}
use Rattle.job.proofs.Pieces.{pieces-length, pieces_at}
use Rattle.refusals.specs.Refusals.{bad_job, short_table, not_inside, bad_piece, full_job, alien_table}
use Rattle.desk.specs.Refusals.{Usable, IsNumber, open_refusals, add_refusals, remove_refusals, correct_refusals, ask_refusals}
use Rattle.desk.specs.Inner.{open_refused, add_refused, remove_refused, correct_refused, ask_refused, job_rows, filled_for}
use Rattle.desk.specs.Changing.{record_of_piece}
use Rattle.desk.proofs.Exactly.{open_number, add_number, remove_number, correct_number, ask_number, usable_holds}

pub open_granted : (a b : ℕ) (t : List ℕ) {r : ℕ} → r ≡ open_refused a b t → r ≡ 0 → Holds a b t
unfolding open_refusals PassesAt every_number
open_granted a b t e z =
    let fact = granted (open_refusals a b t) refl ((open_number a b t).1 (sym z ∙ e)) in
    let i = (fact bad_job).0 in
    record { width_least = i.width_least; width_most = i.width_most; height_least = i.height_least; height_most = i.height_most; room = (fact short_table).0 }

pub record AddGranted (job : Job) (t : List ℕ) (piece : Record) : Type 0 where
  pub usable : Usable job t
  pub range : PieceInRange piece.width piece.height piece.value
  pub space : job.count < pieces_max

pub add_granted : (job : Job) (t : List ℕ) (piece : Record) {r : ℕ} → r ≡ add_refused job t piece → r ≡ 0 → AddGranted job t piece
unfolding add_refusals PassesAt every_number
add_granted job t piece e z =
    let fact = granted (add_refusals job t piece) refl ((add_number job t piece).1 (sym z ∙ e)) in
    let range = (fact bad_job).0 in
    record { usable = record { range = range; room = (fact short_table).0 }; range = (fact bad_piece).0; space = omega (arith, range.count_most, (fact full_job).0) }

-- Piece number k of a usable job, with its record in range.
pub record RemoveGranted (job : Job) (t : List ℕ) (k : ℕ) : Type 0 where
  pub usable : Usable job t
  pub number : IsNumber job k

pub remove_granted : (job : Job) (t : List ℕ) (k : ℕ) {r : ℕ} → r ≡ remove_refused job t k → r ≡ 0 → RemoveGranted job t k
unfolding remove_refusals PassesAt every_number
remove_granted job t k e z =
    let fact = granted (remove_refusals job t k) refl ((remove_number job t k).1 (sym z ∙ e)) in
    record { usable = record { range = (fact bad_job).0; room = (fact short_table).0 }; number = (fact not_inside).0 }

pub record CorrectGranted (job : Job) (t : List ℕ) (k : ℕ) (piece : Record) : Type 0 where
  pub usable : Usable job t
  pub number : IsNumber job k
  pub range : PieceInRange piece.width piece.height piece.value

pub correct_granted : (job : Job) (t : List ℕ) (k : ℕ) (piece : Record) {r : ℕ} → r ≡ correct_refused job t k piece → r ≡ 0 → CorrectGranted job t k piece
unfolding correct_refusals PassesAt every_number
correct_granted job t k piece e z =
    let fact = granted (correct_refusals job t k piece) refl ((correct_number job t k piece).1 (sym z ∙ e)) in
    record { usable = record { range = (fact bad_job).0; room = (fact short_table).0 }; number = (fact not_inside).0; range = (fact bad_piece).0 }

pub record AskGranted (job : Job) (t : List ℕ) (x y : ℕ) : Type 0 where
  pub usable : Usable job t
  pub inside : Inside x y job.width job.height
  pub bounded : Bounded (cell_of job.width t) x y

pub ask_granted : (job : Job) (t : List ℕ) (x y : ℕ) {r : ℕ} → r ≡ ask_refused job t x y → r ≡ 0 → AskGranted job t x y
unfolding ask_refusals PassesAt every_number
ask_granted job t x y e z =
    let fact = granted (ask_refusals job t x y) refl ((ask_number job t x y).1 (sym z ∙ e)) in
    record { usable = record { range = (fact bad_job).0; room = (fact short_table).0 }; inside = (fact not_inside).0; bounded = (fact alien_table).0 }

-- The cell that is read, with the code's width.
pub cell_there : (job : Job) (t : List ℕ) (x y : ℕ) {a : ℕ} {t' : List ℕ} → AskGranted job t x y → t' ≡ filled_for job t x y → a ≡ job.width
    → Holds a y t' × Inside x y a y
unfolding filled_for
cell_there job t x y {a} {t'} g e f =
    let h = usable_holds job t g.usable in
    let i = g.inside in
    let l = ap length e ∙ filled-length (job_rows job) job.width job.height x y t in
    subst (λ (m : ℕ). Holds m y t' × Inside x y m y) (sym f)
    (holds_lower {t = t'} y (omega (arith, h, l)) i.height_least i.height_most, omega (arith, i))

-- The record of piece k is in range.
pub record_in : (job : Job) (t : List ℕ) (k : ℕ) {old : Record} → Usable job t → IsNumber job k → old ≡ record_of_piece job k → RecordIn old
unfolding record_of_piece
record_in job t k u n e =
    let m = in_range_each (pieces_of job) u.range.pieces (k - 1) (omega (arith, pieces-length job, n.least, n.most)) in
    subst RecordIn (sym e) (subst (λ p. PieceInRange p.width p.height p.value) (pieces_at job (k - 1) (omega (arith, n.least, n.most))) m)
