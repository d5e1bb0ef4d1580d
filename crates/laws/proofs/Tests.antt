-- Early returns with one test each, and the chain of tests, joined by &&, that they answer.
use Prim.Native.Nat.{ℕ, ◌+◌, ◌<◌}
use mathlib.Core.Bool.{Bool, true, false, not, ◌&&◌}
use mathlib.Core.Path.{◌≡◌, refl, sym, ap, ap₂, ◌∙◌}
use Rattle.laws.specs.Inner.{Says, all_below}
use Rattle.laws.proofs.Says.{true≢false, says_no}
use Rattle.laws.proofs.Below.{all_below_more, all_below_says}

pub not_true : {b : Bool} → not b ≡ true → b ≡ false
not_true {b = true} e = sym e
not_true {b = false} e = refl

pub not_false : {b : Bool} → not b ≡ false → b ≡ true
not_false {b = true} e = refl
not_false {b = false} e = sym e

-- The code left because its test failed (d are the tests that were to come), or went on because it held: here the test stands for a fact.
pub fact_no : {b : Bool} {P : Type 0} → Says b P → (d : Bool) → (P → ⊥) → false ≡ (b && d)
fact_no s d h = ap (λ (a : Bool). a && d) (sym (says_no s h))

pub fact_yes : {b d r : Bool} {P : Type 0} → Says b P → P → r ≡ d → r ≡ (b && d)
fact_yes {d = d} s h f = f ∙ ap (λ (a : Bool). a && d) (sym (s.found h))

-- The same in a loop over the numbers below n.
pub all_no : (f : ℕ → Bool) (n k : ℕ) {r : Bool} → k < n → r ≡ f k → r ≡ false → false ≡ all_below f n
all_no f n k l e h = sym (says_no (all_below_says f n) (λ a. true≢false (sym (a k l) ∙ (sym e ∙ h))))

pub all_yes : (f : ℕ → Bool) (n : ℕ) {r : Bool} → all_below f n ≡ true → r ≡ f n → r ≡ true → all_below f (n + 1) ≡ true
all_yes f n a e h = all_below_more f n ∙ ap₂ ◌&&◌ a (sym e ∙ h)
