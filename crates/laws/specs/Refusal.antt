-- A list of refusals, row by row in the order in which a call looks at them; 0 where it is accepted (rules 4.15 and 4.16).
use Rattle.std.specs.Prelude.{ℕ, List, [], ◌∷◌, ◌⊎◌, ◌≡◌}

-- A row: the number that is given unless a fact holds, or when it holds.
pub data Row : Type 1 where
  unless : ℕ → Type 0 → Row
  when : ℕ → Type 0 → Row

-- Its number.
abbrev pub number_of : Row → ℕ
number_of (Row.unless k fact) = k
number_of (Row.when k fact) = k

-- The call goes past the row ..
abbrev pub Passes : Row → Type 0
Passes (Row.unless k fact) = fact
Passes (Row.when k fact) = fact → ⊥

-- .. or is refused there.
abbrev pub Stops : Row → Type 0
Stops (Row.unless k fact) = fact → ⊥
Stops (Row.when k fact) = fact

-- The list gives the number of the first row that refuses, and 0 where none does.
unfoldable pub Gives : List Row → ℕ → Type 0
Gives [] k = k ≡ 0
Gives (row ∷ rows) k = (Stops row × (k ≡ number_of row)) ⊎ (Passes row × Gives rows k)
