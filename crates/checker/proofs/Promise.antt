-- The promise determines the answer.
use Prim.Native.Nat.{ℕ}
use mathlib.Core.Path.{◌≡◌, sym, ap, ◌∙◌}
use Rattle.std.specs.Prelude.{Result, Ok, Err}
use Rattle.refusals.specs.declared.Refusal.{Refusal}
use Rattle.refusals.proofs.Numbers.{never_zero, number_only}
use Rattle.checker.specs.declared.Accepted.{Accepted as Values}
use mathlib.Core.List.{List}
use Rattle.checker.specs.Inner.{CheckPromise}
use Rattle.checker.specs.Checked.{Checked, checked_from, answer}

-- Any two answers that satisfy the promise are equal.
pub check_unique : (file : List ℕ) (r q : Checked) → CheckPromise file r → CheckPromise file q → r ≡ q
check_unique file r q e f = e ∙ sym f

-- Two answers of the code that are read alike are one.
pub checked_from_only : (r s : Result Values Refusal) → checked_from r ≡ checked_from s → r ≡ s
checked_from_only (Ok a) (Ok b) e =
    λ i. Ok (record {
      value = (answer (e i)).value;
      note = (answer (e i)).note;
      piece_area = (answer (e i)).piece_area_of;
      scrap_area = (answer (e i)).scrap_area_of;
    })
checked_from_only (Ok a) (Err f) e = absurd (never_zero f (sym (ap (λ (c : Checked). (answer c).number) e)))
checked_from_only (Err f) (Ok a) e = absurd (never_zero f (ap (λ (c : Checked). (answer c).number) e))
checked_from_only (Err f) (Err g) e = ap Err (number_only f g (ap (λ (c : Checked). (answer c).number) e))
