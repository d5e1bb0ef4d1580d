-- How a call joins its refusal and its work, over the definitions.
use Prim.Native.Nat.{ℕ, zero, suc}
use mathlib.Core.Bool.{◌||◌}
use mathlib.Core.List.{List}
use mathlib.Core.Path.{◌≡◌, refl, sym, ap, ap₂, ◌∙◌}
use native.Mathlib.Omega.{arith}
use lib.ListN.{length}
use Rattle.cells.specs.Cells.{cell_of}
use Rattle.cells.specs.Inner.{fits, emptied_where}
use Rattle.cells.proofs.Emptied.{emptied-length, emptied_twice}
use Rattle.job.specs.declared.Piece.{Piece as Record}
use Rattle.job.specs.declared.Job.{Job}
use Rattle.std.specs.Prelude.{Result, Ok, Err, IsErrAnd}
use Rattle.refusals.specs.declared.Refusal.{Refusal}
use Rattle.refusals.specs.Refusals.{number}
use Rattle.refusals.proofs.Numbers.{never_zero}
use Rattle.desk.specs.declared.question.Answer.{Answer}
use Rattle.desk.specs.Changing.{Changed}
use Rattle.desk.specs.Asking.{Answered, Refused}
use Rattle.desk.specs.Refusals.{Usable}
use Rattle.desk.specs.Inner.{accepted, changed, changed_from, emptied_size, asked_with, asked_from}

pub given {ℓ} : {A : Type ℓ} {r refusal : ℕ} (after left : A) → r ≡ refusal → r ≡ 0 → after ≡ accepted refusal after left
unfolding accepted
given after left e z = ap (λ (k : ℕ). accepted k after left) (sym z ∙ e)

pub left-as-it-was {ℓ} : {A : Type ℓ} {r refusal : ℕ} (after left : A) → r ≡ refusal → (r ≡ 0 → ⊥) → left ≡ accepted refusal after left
unfolding accepted
left-as-it-was {r = zero} after left e h = absurd (h refl)
left-as-it-was {r = suc k} after left e h = ap (λ (n : ℕ). accepted n after left) e

-- A refused change: its number, the job that is left, and no cell changed.
pub change_refused : {r refusal : ℕ} {left job : Job} {t : List ℕ} (after : Job) (cells : List ℕ) → r ≡ refusal → (r ≡ 0 → ⊥) → job ≡ left
    → (◌≡◌ {A = Changed} (record { refusal = r; job = job }) (changed refusal after left)) × (t ≡ accepted refusal cells t)
change_refused {left = left} {t = t} after cells e h f =
    (λ i. record { refusal = e i; job = (f ∙ left-as-it-was after left e h) i }, left-as-it-was cells t e h)

-- So where `?` hands a refusal on.
pub change_left : (r : Result Job Refusal) (refusal : Refusal) (after left : Job) (cells t : List ℕ) {n : ℕ} → IsErrAnd r (λ e. e ≡ refusal)
    → number refusal ≡ n → (changed_from left r ≡ changed n after left) × (t ≡ accepted n cells t)
change_left (Ok job) refusal after left cells t e f = absurd e
change_left (Err other) refusal after left cells t e f = change_refused after cells (ap number e ∙ f) (never_zero other) refl

-- An accepted change: the job after it, and the cells that it empties.
pub change_given : {r refusal : ℕ} {after job : Job} {t' cells : List ℕ} (left : Job) (t : List ℕ) → r ≡ refusal → r ≡ 0 → job ≡ after → t' ≡ cells
    → (◌≡◌ {A = Changed} (record { refusal = 0; job = job }) (changed refusal after left)) × (t' ≡ accepted refusal cells t)
change_given {after = after} {cells = cells} left t e z f g =
    (λ i. record { refusal = (sym z ∙ e) i; job = (f ∙ given after left e z) i }, g ∙ given cells t e z)

pub usable_still : (job : Job) (size : Record) (t : List ℕ) {t' : List ℕ} → t' ≡ emptied_size job size t → Usable job t → Usable job t'
unfolding emptied_size
usable_still job size t e u =
    record { range = u.range; room = omega (arith, u.room, ap length e, emptied-length job.width job.height size.width size.height t) }

-- The old size and then the new one: the cells where either fits.
pub emptied_both : (job : Job) (old new : Record) (t : List ℕ) {first next : List ℕ} → Usable job t → first ≡ emptied_size job old t
    → next ≡ emptied_size job new first
    → next ≡ emptied_where job.width job.height (λ x y. fits old.width old.height x y || fits new.width new.height x y) t
unfolding emptied_size
emptied_both job old new t u e f =
    f ∙ (ap (emptied_size job new) e ∙ emptied_twice job.width job.height old.width old.height new.width new.height t u.room)

pub asked_refused : {r refusal : ℕ} {t : List ℕ} (value worked : ℕ) (cells : List ℕ) → r ≡ refusal → (r ≡ 0 → ⊥)
    → (Refused r ≡ asked_with refusal value worked) × (t ≡ accepted refusal cells t)
asked_refused {r = zero} value worked cells e h = absurd (h refl)
asked_refused {r = suc k} {t = t} value worked cells e h = (ap (λ (n : ℕ). asked_with n value worked) e, left-as-it-was cells t e h)

-- So where `?` hands a refusal on.
pub asked_left : (r : Result Answer Refusal) (refusal : Refusal) (value worked : ℕ) (cells t : List ℕ) {n : ℕ} → IsErrAnd r (λ e. e ≡ refusal)
    → number refusal ≡ n → (asked_from r ≡ asked_with n value worked) × (t ≡ accepted n cells t)
asked_left (Ok answer) refusal value worked cells t e f = absurd e
asked_left (Err other) refusal value worked cells t e f = asked_refused value worked cells (ap number e ∙ f) (never_zero other)

pub asked_given : {r refusal value worked v n : ℕ} {t' cells : List ℕ} (t : List ℕ) → r ≡ refusal → r ≡ 0 → v ≡ value → n ≡ worked → t' ≡ cells
    → (Answered v n ≡ asked_with refusal value worked) × (t' ≡ accepted refusal cells t)
asked_given {value = value} {worked = worked} {cells = cells} t e z f g h =
    (ap₂ Answered f g ∙ ap (λ (k : ℕ). asked_with k value worked) (sym z ∙ e), h ∙ given cells t e z)

-- The cell that is read, with the code's width and row.
pub read_at : (x y : ℕ) {v a width : ℕ} {t' t : List ℕ} → v ≡ cell_of a t' x y → a ≡ width → t' ≡ t → v ≡ cell_of width t x y
read_at x y e f g = e ∙ (λ i. cell_of (f i) (g i) x y)
