-- Tests and the facts that they stand for: what a refused test tells, and how tests are joined.
use Prim.Native.Nat.{ℕ, ◌≤◌, ◌<◌}
use mathlib.Core.Bool.{Bool, true, false, not, ◌&&◌, ◌||◌}
use mathlib.Core.Path.{◌≡◌, refl, sym, ◌∙◌}
use mathlib.Core.Logic.{◌⊎◌, inl, inr, ◌↔◌}
use native.Mathlib.Omega.{arith}
use lib.Dec.{leb, ltb, eqb}
use borrow.Author.Tests.{ltb-true, leb-true, eqb-true, lt-ltb, le-leb, eq-eqb}
use Rattle.laws.specs.Inner.{Says}

pub true≢false : true ≡ false → ⊥
true≢false e = let z : ◌≡◌ {A = ℕ} 0 1 = cc in omega arith

-- The test is false where the fact does not hold, and the other way round.
pub says_no : {b : Bool} {P : Type 0} → Says b P → (P → ⊥) → b ≡ false
says_no {b = true} s h = absurd (h (s.means refl))
says_no {b = false} s h = refl

pub says_false : {b : Bool} {P : Type 0} → Says b P → b ≡ false → P → ⊥
says_false s e p = true≢false (sym (s.found p) ∙ e)

pub says_iff : {b : Bool} {P Q : Type 0} → P ↔ Q → Says b P → Says b Q
says_iff i s = record { means = λ e. i.0 (s.means e); found = λ q. s.found (i.1 q) }

pub says_itself : (b : Bool) → Says b (b ≡ true)
says_itself b = record { means = λ e. e; found = λ e. e }

pub says_le : (m n : ℕ) → Says (leb m n) (m ≤ n)
says_le m n = record { means = leb-true m n; found = le-leb m n }

pub says_lt : (m n : ℕ) → Says (ltb m n) (m < n)
says_lt m n = record { means = ltb-true m n; found = lt-ltb m n }

pub says_eq : (m n : ℕ) → Says (eqb m n) (m ≡ n)
says_eq m n = record { means = eqb-true m n; found = eq-eqb m n }

pub says_not : {b : Bool} {P : Type 0} → Says b P → Says (not b) (P → ⊥)
says_not {b = true} s = record { means = λ e. absurd (true≢false (sym e)); found = λ h. absurd (h (s.means refl)) }
says_not {b = false} s = record { means = λ e. says_false s refl; found = λ h. refl }

pub says_and : {b d : Bool} {P Q : Type 0} → Says b P → Says d Q → Says (b && d) (P × Q)
says_and {b = true} s r = record { means = λ e. (s.means refl, r.means e); found = λ h. r.found h.1 }
says_and {b = false} s r = record { means = λ e. absurd (true≢false (sym e)); found = λ h. s.found h.0 }

pub says_or : {b d : Bool} {P Q : Type 0} → Says b P → Says d Q → Says (b || d) (P ⊎ Q)
says_or {b = true} s r = record { means = λ e. inl (s.means refl); found = λ h. refl }
says_or {b = false} s r =
    record { means = λ e. inr (r.means e); found = elim [ inl p ↦ absurd (says_false s refl p) | inr q ↦ r.found q ] }

-- Two tests of one fact are the same test.
pub says_same : {b d : Bool} {P : Type 0} → Says b P → Says d P → b ≡ d
says_same {b = true} s r = sym (r.found (s.means refl))
says_same {b = false} s r = sym (says_no r (says_false s refl))

-- Both tests hold where they hold together.
pub both : (b d : Bool) → (b && d) ≡ true → (b ≡ true) × (d ≡ true)
both true d e = (refl, e)
both false d e = absurd (true≢false (sym e))
