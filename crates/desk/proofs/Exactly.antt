-- Each refusal number is given exactly when the list says.
use Prim.Native.Nat.{ℕ, ◌*◌, ◌≤◌}
use mathlib.Core.Bool.{Bool, false, not, ◌&&◌, true}
use mathlib.Core.List.{List}
use mathlib.Core.Path.{◌≡◌, refl, sym, ◌∙◌, subst}
use native.Mathlib.Omega.{arith}
use mathlib.Core.Logic.{◌↔◌, ⊎_elim}
use lib.Dec.{leb}
use lib.ListN.{length}
use Rattle.laws.specs.Refusal.{Gives}
use Rattle.laws.specs.Inner.{Says, says, end, every_number, PassesAt}
use Rattle.laws.proofs.Says.{says_le, says_eq, says_false, says_and, says_iff, says_not, says_no}
use Rattle.laws.proofs.Refusal.{gives_exactly, granted}
use Rattle.laws.proofs.Order.{le_or_lt}
use Rattle.cutting.proofs.Bound.{most}
use Rattle.cutting.specs.Limits.{side_max, pieces_max}
use Rattle.cutting.specs.Piece.{Inside}
use Rattle.cells.specs.Cells.{cell_of}
use Rattle.cells.specs.Inner.{exceeds, any_in_box, Holds}
use Rattle.cells.proofs.Places.{area_fits, holds_lower}
use Rattle.cells.proofs.Box.{any_in_box_says, exceeds_says}
use Rattle.fill.specs.Filled.{Bounded}
use Rattle.job.specs.declared.Piece.{Piece as Record}
use Rattle.job.specs.declared.Job.{Job}
use Rattle.job.specs.Inner.{within, job_in_range}
use Rattle.job.proofs.Range.{within_says, piece_says, job_says}
use Rattle.refusals.specs.Refusals.{bad_job, short_table}
use Rattle.desk.specs.Refusals.{cells_of, Usable, IsNumber, open_refusals, add_refusals, correct_refusals, remove_refusals, ask_refusals, OpenRefusal, AddRefusal, RemoveRefusal, CorrectRefusal, AskRefusal}
use Rattle.desk.specs.Inner.{job_refusals, job_tests, job_refused, open_tests, open_refused, add_tests, add_refused, remove_tests, remove_refused, correct_tests, correct_refused, ask_tests, ask_refused}

pub inside_says : (x y a b : ℕ) → Says (within x a && within y b) (Inside x y a b)
inside_says x y a b = says_iff ((λ t. omega arith), (λ i. omega arith)) (says_and (within_says x a) (within_says y b))

-- The test of refusal 7 in the list's words: some non-empty cell exceeds its bound, or none does.
pub bounded : (a : ℕ) (t : List ℕ) (x y : ℕ) → any_in_box x y (exceeds a t) ≡ false → Bounded (cell_of a t) x y
bounded a t x y e u w i h =
    ⊎_elim (λ l. l) (λ l. absurd (says_false (any_in_box_says x y (exceeds a t)) e (u, w, i, (exceeds_says a t u w).found (h, l))))
    (le_or_lt (cell_of a t u w) (most u w))

pub bounded_says : (a : ℕ) (t : List ℕ) (x y : ℕ) → Says (not (any_in_box x y (exceeds a t))) (Bounded (cell_of a t) x y)
bounded_says a t x y =
    says_iff (
      (λ none. bounded a t x y (says_no (any_in_box_says x y (exceeds a t)) none)),
      (λ b k. let m = (exceeds_says a t k.0 k.1).means k.3 in omega (arith, b k.0 k.1 k.2 m.0, m.1)),
    )
    (says_not (any_in_box_says x y (exceeds a t)))

-- A job in range has a sheet of at most 240 by 240 cells.
pub sides_fit : (job : Job) {r : Bool} {m n : ℕ} → r ≡ job_in_range job → r ≡ true → m ≡ job.width → n ≡ job.height → m * n ≤ side_max * side_max
sides_fit job e h f g =
    let range = (job_says job).means (sym e ∙ h) in
    area_fits (omega (arith, range.width_most)) (omega (arith, range.height_most))

pub open_fits : (a b : ℕ) {r : Bool} → r ≡ (within a side_max && within b side_max) → r ≡ true → a * b ≤ side_max * side_max
open_fits a b e h =
    let i = (inside_says a b side_max side_max).means (sym e ∙ h) in
    area_fits i.width_most i.height_most

-- The tests of each call say the facts of its list, so that the number it computes is exactly the one that the list gives.

pub open_number : (a b : ℕ) (t : List ℕ) {k : ℕ} → OpenRefusal a b t k ↔ (k ≡ open_refused a b t)
unfolding open_refusals open_tests open_refused
open_number a b t {k} =
    gives_exactly (open_refusals a b t) (open_tests a b t)
    (says (inside_says a b side_max side_max) (λ _. says (says_le (a * b) (length t)) (λ _. end)))
    k

module _ (job : Job) (t : List ℕ) where
  room_says : Says (leb (cells_of job) (length t)) (cells_of job ≤ length t)
  room_says = says_le (cells_of job) (length t)

  pub job_number : {k : ℕ} → Gives (job_refusals job t) k ↔ (k ≡ job_refused job t)
  unfolding job_refusals job_tests job_refused
  job_number {k} =
      gives_exactly (job_refusals job t) (job_tests job t)
      (says (job_says job) (λ _. says room_says (λ _. end)))
      k

  pub add_number : (piece : Record) {k : ℕ} → AddRefusal job t piece k ↔ (k ≡ add_refused job t piece)
  unfolding add_refusals add_tests add_refused
  add_number piece {k} =
      gives_exactly (add_refusals job t piece) (add_tests job t piece)
      (says (job_says job) (λ _. says room_says (λ _. says (piece_says piece) (λ _. says (says_eq job.count pieces_max) (λ _. end)))))
      k

  module _ (number : ℕ) where
    number_says : Says (within number job.count) (IsNumber job number)
    number_says = says_iff ((λ h. record { least = h.0; most = h.1 }), (λ n. (n.least, n.most))) (within_says number job.count)

    pub correct_number : (piece : Record) {k : ℕ} → CorrectRefusal job t number piece k ↔ (k ≡ correct_refused job t number piece)
    unfolding correct_refusals correct_tests correct_refused
    correct_number piece {k} =
        gives_exactly (correct_refusals job t number piece) (correct_tests job t number piece)
        (says (job_says job) (λ _. says room_says (λ _. says number_says (λ _. says (piece_says piece) (λ _. end)))))
        k

    pub remove_number : {k : ℕ} → RemoveRefusal job t number k ↔ (k ≡ remove_refused job t number)
    unfolding remove_refusals remove_tests remove_refused
    remove_number {k} =
        gives_exactly (remove_refusals job t number) (remove_tests job t number)
        (says (job_says job) (λ _. says room_says (λ _. says number_says (λ _. end))))
        k

  pub ask_number : (x y : ℕ) {k : ℕ} → AskRefusal job t x y k ↔ (k ≡ ask_refused job t x y)
  unfolding ask_refusals ask_tests ask_refused
  ask_number x y {k} =
      gives_exactly (ask_refusals job t x y) (ask_tests job t x y)
      (says (job_says job) (λ _. says room_says
      (λ _. says (inside_says x y job.width job.height) (λ _. says (bounded_says job.width t x y) (λ _. end)))))
      k

-- What number 0 grants, asked for by number.
pub usable_of : (job : Job) (t : List ℕ) {first : ℕ} → first ≡ job_refused job t → first ≡ 0 → Usable job t
unfolding job_refusals PassesAt every_number
usable_of job t e z =
    let fact = granted (job_refusals job t) refl ((job_number job t).1 (sym z ∙ e)) in
    record { range = (fact bad_job).0; room = (fact short_table).0 }

-- A usable table holds its sheet, and the box of a question inside it.
pub usable_holds : (job : Job) (t : List ℕ) → Usable job t → Holds job.width job.height t
usable_holds job t u =
    let r = u.range in
    record { width_least = r.width_least; width_most = r.width_most; height_least = r.height_least; height_most = r.height_most; room = u.room }

pub usable_box : (job : Job) (t : List ℕ) (x y : ℕ) {a : ℕ} → Usable job t → Inside x y job.width job.height → a ≡ job.width → Holds a y t × (x ≤ a)
usable_box job t x y u i g =
    subst (λ (m : ℕ). Holds m y t × (x ≤ m)) (sym g) (holds_lower y (usable_holds job t u) i.height_least i.height_most, i.width_most)

pub box_holds : (job : Job) (t : List ℕ) (x y : ℕ) {first a : ℕ} {r : Bool} → first ≡ job_refused job t → first ≡ 0
    → r ≡ (within x job.width && within y job.height) → r ≡ true → a ≡ job.width → Holds a y t × (x ≤ a)
box_holds job t x y e z f h g =
    usable_box job t x y (usable_of job t e z) ((inside_says x y job.width job.height).means (sym f ∙ h)) g
