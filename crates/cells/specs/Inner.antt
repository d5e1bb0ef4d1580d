-- What only contracts inside and proofs need; nobody has to believe it. Rows that compute are tied to `Empties` by `empties_exactly`.
use Rattle.std.specs.Prelude.{ℕ, ◌+◌, ◌*◌, ◌/◌, ◌%◌, ◌≤◌, suc, cond, Bool, ◌&&◌, not, List, length, get_or, ltb, leb, eqb, ◌≡◌}
use Rattle.laws.specs.ByIndex.{by_index}
use Rattle.cutting.specs.Limits.{side_max, value_max}
use Rattle.laws.specs.Inner.{any_below}
use Rattle.cells.specs.Cells.{empty, cell_of}

-- The row in which each cell (x, y) of the sheet a by b holds `new x y`; the entries behind the cells stay (rule 4.3).
unfoldable pub redrawn : ℕ → ℕ → (ℕ → ℕ → ℕ) → List ℕ → List ℕ
redrawn a b new t = by_index (λ i. cond (ltb i (a * b)) (new (i % a + 1) (i / a + 1)) (get_or t i empty)) (length t)

-- The row t has room for the cells of a sheet a by b whose sides are in range. Every function of the crate asks for it.
pub record Holds (a b : ℕ) (t : List ℕ) : Type 0 where
  pub width_least : 1 ≤ a
  pub width_most : a ≤ side_max
  pub height_least : 1 ≤ b
  pub height_most : b ≤ side_max
  pub room : a * b ≤ length t

-- The row with the cells (x, y) emptied where `struck x y` is true, and no others.
unfoldable pub emptied_where : ℕ → ℕ → (ℕ → ℕ → Bool) → List ℕ → List ℕ
emptied_where a b struck t = redrawn a b (λ x y. cond (struck x y) empty (cell_of a t x y)) t

-- Does a size p by q fit in cell (x, y) (rule 5.1)?
unfoldable pub fits : ℕ → ℕ → ℕ → ℕ → Bool
fits p q x y = leb p x && leb q y

-- The row with the cells emptied where p by q fits (rule 5.2). Open is `emptied a b 1 1`: every cell has room for 1 by 1 (rule 4.4).
unfoldable pub emptied : ℕ → ℕ → ℕ → ℕ → List ℕ → List ℕ
emptied a b p q t = emptied_where a b (fits p q) t

-- How far the loops have come:

-- Is l ≤ k < h?
unfoldable pub between : ℕ → ℕ → ℕ → Bool
between l h k = leb l k && ltb k h

-- The columns from p and before x, of the rows from q and before y.
unfoldable pub patch : ℕ → ℕ → ℕ → ℕ → ℕ → ℕ → Bool
patch p x q y u w = between p x u && between q y w

-- The columns from p on, of row y.
abbrev pub row_from : ℕ → ℕ → ℕ → ℕ → ℕ → Bool
row_from a p y = patch p (a + 1) y (y + 1)

-- Tests over a box: the cells (u, w) with u ≤ x and w ≤ y.

-- Is the test true of some cell of row w, in columns 1 to x?
unfoldable pub any_in_row : ℕ → ℕ → (ℕ → ℕ → Bool) → Bool
any_in_row x w test = any_below (λ i. test (suc i) w) x

-- Is the test true of some cell of the box?
unfoldable pub any_in_box : ℕ → ℕ → (ℕ → ℕ → Bool) → Bool
any_in_box x y test = any_below (λ j. any_in_row x (suc j) test) y

-- Is v the number of a filled cell, and more than the m that the cell may earn?
unfoldable pub too_much : ℕ → ℕ → Bool
too_much v m = not (eqb v empty) && ltb m v

-- Is cell (u, w) filled, and does it hold more than its area may earn (rule 7.7)?
unfoldable pub exceeds : ℕ → List ℕ → ℕ → ℕ → Bool
exceeds a t u w = too_much (cell_of a t u w) (u * w * value_max)

-- The closure's answer is the test's, for a cell's number and the most that the cell may earn.
abbrev pub Answers : (ℕ → ℕ → Bool → Type 0) → (ℕ → ℕ → Bool) → Type 0
Answers post test = (value most : ℕ) (r : Bool) → post value most r → r ≡ test value most

-- That test at cell (u, w).
unfoldable pub asked : (ℕ → ℕ → Bool) → ℕ → List ℕ → ℕ → ℕ → Bool
asked test a t u w = test (cell_of a t u w) (u * w * value_max)
