-- A list given by what stands at each index.
use Rattle.std.specs.Prelude.{ℕ, zero, suc, List, [], ◌∷◌}

-- The list of f 0, …, f (n − 1).
unfoldable pub by_index {ℓ} : {A : Type ℓ} → (ℕ → A) → ℕ → List A
by_index f zero = []
by_index f (suc n) = f zero ∷ by_index (λ k. f (suc k)) n
