-- Two answers that keep one promise are equal (rule 11.2): answer, job and all cells, for every call.
use Prim.Native.Nat.{ℕ}
use mathlib.Core.List.{List}
use mathlib.Core.Path.{◌≡◌, sym, ap, ◌∙◌}
use Rattle.std.specs.Prelude.{Result, Ok, Err}
use Rattle.job.specs.declared.Piece.{Piece as Record}
use Rattle.job.specs.declared.Job.{Job}
use Rattle.refusals.specs.declared.Refusal.{Refusal}
use Rattle.refusals.proofs.Numbers.{never_zero, number_only}
use Rattle.desk.specs.declared.question.Answer.{Answer}
use Rattle.desk.specs.Changing.{Changed}
use Rattle.desk.specs.Asking.{Asked, asked_numbers}
use Rattle.desk.specs.Inner.{changed_from, asked_from, OpenPromise, AddPromise, CorrectPromise, RemovePromise, AskPromise}

pub open_unique : (a b : ℕ) (t : List ℕ) {r s : Changed} {t' s' : List ℕ} → OpenPromise a b t r t' → OpenPromise a b t s s' → (r ≡ s) × (t' ≡ s')
open_unique a b t p q = (p.0 ∙ sym q.0, p.1 ∙ sym q.1)

pub add_unique : (job : Job) (t : List ℕ) (piece : Record) {r s : Changed} {t' s' : List ℕ} → AddPromise job t piece r t' → AddPromise job t piece s s'
    → (r ≡ s) × (t' ≡ s')
add_unique job t piece p q = (p.0 ∙ sym q.0, p.1 ∙ sym q.1)

pub correct_unique : (job : Job) (t : List ℕ) (k : ℕ) (piece : Record) {r s : Changed} {t' s' : List ℕ} → CorrectPromise job t k piece r t'
    → CorrectPromise job t k piece s s' → (r ≡ s) × (t' ≡ s')
correct_unique job t k piece p q = (p.0 ∙ sym q.0, p.1 ∙ sym q.1)

pub remove_unique : (job : Job) (t : List ℕ) (k : ℕ) {r s : Changed} {t' s' : List ℕ} → RemovePromise job t k r t' → RemovePromise job t k s s'
    → (r ≡ s) × (t' ≡ s')
remove_unique job t k p q = (p.0 ∙ sym q.0, p.1 ∙ sym q.1)

pub ask_unique : (job : Job) (t : List ℕ) (x y : ℕ) {r s : Asked} {t' s' : List ℕ} → AskPromise job t x y r t' → AskPromise job t x y s s' → (r ≡ s) × (t' ≡ s')
ask_unique job t x y p q = (p.0 ∙ sym q.0, p.1 ∙ sym q.1)

-- The code's answers are read as what the promises speak of; two that are read alike are one.
pub changed_from_only : (left : Job) (r s : Result Job Refusal) → changed_from left r ≡ changed_from left s → r ≡ s
changed_from_only left (Ok a) (Ok b) e = ap (λ (c : Changed). Ok c.job) e
changed_from_only left (Ok a) (Err f) e = absurd (never_zero f (sym (ap (λ (c : Changed). c.refusal) e)))
changed_from_only left (Err f) (Ok a) e = absurd (never_zero f (ap (λ (c : Changed). c.refusal) e))
changed_from_only left (Err f) (Err g) e = ap Err (number_only f g (ap (λ (c : Changed). c.refusal) e))

pub asked_from_only : (r s : Result Answer Refusal) → asked_from r ≡ asked_from s → r ≡ s
asked_from_only (Ok a) (Ok b) e =
    λ i. Ok (record { value = (asked_numbers (e i)).value; worked = (asked_numbers (e i)).worked })
asked_from_only (Ok a) (Err f) e = absurd (never_zero f (sym (ap (λ (c : Asked). (asked_numbers c).refusal) e)))
asked_from_only (Err f) (Ok a) e = absurd (never_zero f (ap (λ (c : Asked). (asked_numbers c).refusal) e))
asked_from_only (Err f) (Err g) e = ap Err (number_only f g (ap (λ (c : Asked). (asked_numbers c).refusal) e))
