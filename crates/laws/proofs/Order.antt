-- Two numbers stand one way or the other: a sum to take apart, not a mere proposition.
use Prim.Native.Nat.{ℕ, zero, suc, ◌≤◌, ◌<◌, max}
use mathlib.Core.Path.{◌≡◌, subst}
use mathlib.Core.Logic.{◌⊎◌, inl, inr, ⊎_elim}
use native.Mathlib.Omega.{arith}
use native.Mathlib.Nat.{eq-or-lt_of_le, le_of_suc-le-suc}

pub le_or_lt : (m n : ℕ) → (m ≤ n) ⊎ (n < m)
le_or_lt zero n = inl (omega arith)
le_or_lt (suc m) zero = inr (omega arith)
le_or_lt (suc m) (suc n) = step (le_or_lt m n)
  where
    step : (m ≤ n) ⊎ (n < m) → (suc m ≤ suc n) ⊎ (suc n < suc m)
    step (inl h) = inl (omega arith)
    step (inr h) = inr (omega arith)

-- An index below n + 1 is n or below n.
pub last_or_below : {k n : ℕ} → k < suc n → (k ≡ n) ⊎ (k < n)
last_or_below h = eq-or-lt_of_le (le_of_suc-le-suc h)

-- Where both numbers are in the set S, the larger is.
pub larger : (S : ℕ → Type 0) {m n : ℕ} → S m → S n → S (max m n)
larger S {m} {n} s r =
    ⊎_elim (λ h. subst S (omega arith) s) (λ h. subst S (omega arith) r) (le_or_lt n m)

pub eq_or_not : (m n : ℕ) → (m ≡ n) ⊎ (m ≡ n → ⊥)
eq_or_not zero zero = inl (omega arith)
eq_or_not zero (suc n) = inr (λ e. omega arith)
eq_or_not (suc m) zero = inr (λ e. omega arith)
eq_or_not (suc m) (suc n) = step (eq_or_not m n)
  where
    step : (m ≡ n) ⊎ (m ≡ n → ⊥) → (suc m ≡ suc n) ⊎ (suc m ≡ suc n → ⊥)
    step (inl h) = inl (omega arith)
    step (inr h) = inr (λ e. h (omega arith))
