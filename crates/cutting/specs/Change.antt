-- What add, correct and remove do to the list of pieces (rules 4.5 to 4.7).
use Rattle.std.specs.Prelude.{ℕ, ◌-◌, List, [], ◌∷◌, ◌++◌, take, drop, set}
use Rattle.cutting.specs.Piece.{Piece, Lay, Fits}

-- The new piece comes last (rule 4.5).
unfoldable pub added : List Piece → Piece → List Piece
added pieces new = pieces ++ (new ∷ [])

-- Another piece has number k (rule 4.6).
unfoldable pub corrected : List Piece → ℕ → Piece → List Piece
corrected pieces k new = set pieces (k - 1) new

-- Piece k is left out, and those behind it come one number earlier (rule 4.7).
unfoldable pub removed : List Piece → ℕ → List Piece
removed pieces k = take (k - 1) pieces ++ drop k pieces

-- The size of the piece does not fit in x by y.
abbrev pub TooLarge : Piece → ℕ → ℕ → Type 0
TooLarge piece x y = Fits piece.width piece.height x y → ⊥

-- Every size of the one lay that fits in x by y may lie in the other too, for the same value.
abbrev pub CoveredBy : Lay → Lay → ℕ → ℕ → Type 0
CoveredBy lay other x y = (p q v : ℕ) → Fits p q x y → lay.lies p q v → other.lies p q v
