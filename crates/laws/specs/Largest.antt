-- The largest number of a set of numbers.
use Rattle.std.specs.Prelude.{ℕ, ◌≤◌}

-- v is the largest of the numbers that S holds of.
pub record Largest (S : ℕ → Type 0) (v : ℕ) : Type 0 where
  pub attained : S v
  pub bound : (e : ℕ) → S e → e ≤ v
