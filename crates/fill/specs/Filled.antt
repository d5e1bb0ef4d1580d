-- What a question makes of the table (rules 4.8 and 4.9).
use Rattle.std.specs.Prelude.{ℕ, ◌*◌, ◌≤◌, ◌≡◌, List, length, get_or}
use Rattle.cutting.specs.Limits.{value_max}
use Rattle.cutting.specs.Piece.{Lay, Fits, Inside}
use Rattle.cutting.specs.Candidate.{Worth}
use Rattle.cells.specs.Cells.{empty, cell_of}

-- t' is t once x by y has been asked on a sheet a by b, with the pieces of a lay, in the words of the rules:
pub record Fills (lay : Lay) (a b x y : ℕ) (t t' : List ℕ) : Type 0 where
  -- Each empty cell of the box gets the largest of its candidates, which are taken from t' (rule 4.8).
  pub worked : (u w : ℕ) → Inside u w x y → cell_of a t u w ≡ empty → Worth lay a b (cell_of a t') u w (cell_of a t' u w)
  -- A filled cell of the box stays, and so does each cell outside it (rule 4.9).
  pub stayed : (u w : ℕ) → Inside u w x y → (cell_of a t u w ≡ empty → ⊥) → cell_of a t' u w ≡ cell_of a t u w
  pub outside : (u w : ℕ) → Inside u w a b → (Fits u w x y → ⊥) → cell_of a t' u w ≡ cell_of a t u w
  -- So does every entry behind the cells (rule 4.3).
  pub beyond : (k : ℕ) → a * b ≤ k → get_or t' k empty ≡ get_or t k empty
  pub long : length t' ≡ length t

-- No filled cell of the box holds more than its area may earn (rule 7.7).
abbrev pub Bounded : (ℕ → ℕ → ℕ) → ℕ → ℕ → Type 0
Bounded cell x y = (u w : ℕ) → Inside u w x y → (cell u w ≡ empty → ⊥) → cell u w ≤ u * w * value_max

-- No cell of the box is empty.
abbrev pub Full : ℕ → List ℕ → ℕ → ℕ → Type 0
Full a t x y = (u w : ℕ) → Inside u w x y → cell_of a t u w ≡ empty → ⊥
