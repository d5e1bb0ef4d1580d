-- Bounds of sum_below: by its largest part, and from below by each part.
use Prim.Native.Nat.{ℕ, zero, suc, ◌*◌, ◌≤◌, ◌<◌}
use mathlib.Core.Path.{◌≡◌, ap}
use mathlib.Core.Logic.{⊎_elim}
use native.Mathlib.Omega.{arith}
use native.Mathlib.Nat.{suc-mul}
use Rattle.laws.specs.Below.{sum_below}
use Rattle.laws.proofs.Order.{last_or_below}

pub sum_below_within : (f : ℕ → ℕ) (n m : ℕ) → ((k : ℕ) → k < n → f k ≤ m) → sum_below f n ≤ n * m
unfolding sum_below
sum_below_within f zero m h = omega arith
sum_below_within f (suc n) m h =
    let a = sum_below_within f n m (λ k l. h k (omega arith)) in
    omega (arith, suc-mul n m, h n (omega arith))

pub sum_below_part : (f : ℕ → ℕ) (n k : ℕ) → k < n → f k ≤ sum_below f n
unfolding sum_below
sum_below_part f zero k h = absurd (omega arith)
sum_below_part f (suc n) k h =
    ⊎_elim (λ e. omega (arith, ap f e)) (λ l. omega (arith, sum_below_part f n k l)) (last_or_below h)

-- A sum of equal numbers.
pub sum_below_each : (f : ℕ → ℕ) (n m : ℕ) → ((k : ℕ) → k < n → f k ≡ m) → sum_below f n ≡ n * m
unfolding sum_below
sum_below_each f zero m h = omega arith
sum_below_each f (suc n) m h = omega (arith, suc-mul n m, h n (omega arith), sum_below_each f n m (λ k l. h k (omega arith)))

pub sum_below_zero : (f : ℕ → ℕ) (n : ℕ) → ((k : ℕ) → k < n → f k ≡ 0) → sum_below f n ≡ 0
sum_below_zero f n h = omega (arith, sum_below_each f n 0 h)
