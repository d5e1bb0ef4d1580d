-- The sum over the numbers below n.
use Rattle.std.specs.Prelude.{ℕ, zero, suc, ◌+◌}

-- The sum of f 0, …, f (n − 1).
unfoldable pub sum_below : (ℕ → ℕ) → ℕ → ℕ
sum_below f zero = 0
sum_below f (suc n) = sum_below f n + f n
