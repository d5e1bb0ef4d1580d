-- Emptying certain cells of the table and no others (rules 5.2 and 5.3).
use Rattle.std.specs.Prelude.{ℕ, ◌*◌, ◌≤◌, List, ◌≡◌, length, get_or}
use Rattle.cutting.specs.Piece.{Inside}
use Rattle.cells.specs.Cells.{empty, cell_of}

-- t' is t with exactly the cells (x, y) of a sheet a by b emptied that are hit, in the words of the rules:
pub record Empties (a b : ℕ) (hit : ℕ → ℕ → Type 0) (t t' : List ℕ) : Type 0 where
  -- Each cell that is hit is empty then (rule 5.2).
  pub emptied : (x y : ℕ) → Inside x y a b → hit x y → cell_of a t' x y ≡ empty
  -- Each cell that isn't hit holds what it held (rule 5.3).
  pub kept : (x y : ℕ) → Inside x y a b → (hit x y → ⊥) → cell_of a t' x y ≡ cell_of a t x y
  -- So does every entry behind the cells (rule 4.3).
  pub beyond : (k : ℕ) → a * b ≤ k → get_or t' k empty ≡ get_or t k empty
  pub long : length t' ≡ length t
