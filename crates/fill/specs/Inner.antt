-- The filling as it computes; nobody has to believe it: `fills_exactly` says that it is `Fills`.
use Rattle.std.specs.Prelude.{ℕ, suc, ◌+◌, ◌≤◌, ◌<◌, max, ◌*◌, ◌-◌, Bool, true, cond, ◌&&◌, List, ◌≡◌, leb, eqb, get_or, set}
use Rattle.laws.specs.Inner.{best_below, deep}
use Rattle.cutting.specs.Inner.{half_of}
use Rattle.cutting.specs.Dissection.{rest, Line}
use Rattle.cells.specs.Cells.{cell_of, empty, place}
use Rattle.cells.specs.Inner.{Holds, fits, redrawn}
use Rattle.board.specs.declared.Board.{Board}
use Rattle.board.specs.Inner.{Rows, rows_on, width_on, height_on, count_on, width_at, height_at, value_at, marked_at}
use Rattle.cells.specs.Box.{is_empty}
use Rattle.cutting.specs.Limits.{value_max}
use Rattle.cutting.specs.Piece.{Inside}
use Rattle.cutting.specs.Candidate.{Smaller}
use Rattle.fill.specs.Filled.{Full, Bounded}

-- What an empty cell gets by rule 4.8. Executable; `worth_of_worth` ties it to the candidates.

-- The largest value of a piece that fits in u by w, over the pieces at index 0, …, n − 1 (rule 4.8).
unfoldable pub fitting_value : (ℕ → ℕ) → (ℕ → ℕ) → (ℕ → ℕ) → ℕ → ℕ → ℕ → ℕ
fitting_value width height value n u w = best_below (λ k. cond (fits (width k) (height k) u w) (value k) 0) n

-- What a line at c through a side x gives where c is marked, else 0; a part of size c has the number `part c` (rule 4.8).
unfoldable pub line_at : (ℕ → Bool) → (ℕ → ℕ) → ℕ → ℕ → ℕ
line_at marked part x c = cond (marked c) (part c + part (rest x c)) 0

-- The most that such a line gives up to the middle (rule 4.8).
unfoldable pub line_value : (ℕ → Bool) → (ℕ → ℕ) → ℕ → ℕ
line_value marked part x = best_below (λ i. line_at marked part x (suc i)) (half_of x)

unfoldable pub worth_of : Rows → (ℕ → ℕ → ℕ) → ℕ → ℕ → ℕ
worth_of rows cell u w =
    max (fitting_value rows.width rows.height rows.value rows.count u w)
    (max (line_value rows.in_p (λ c. cell c w) u) (line_value rows.in_q (λ d. cell u d) w))

-- The first x cells of row w are in the table, and no two parts of a line across them overflow 32 bits.
pub record RowLines (a : ℕ) (t : List ℕ) (w x : ℕ) : Type 0 where
  pub holds : Holds a w t
  pub wide : x ≤ a
  pub adds : (c r : ℕ) → Line x c r → cell_of a t c w + cell_of a t r w < 4_294_967_296

-- The floor of a row w: what a cell (u, w) is worth without a line across.

-- A piece's value where it fits in u by w, else 0.
abbrev pub value_in : ℕ → ℕ → ℕ → ℕ → ℕ → ℕ
value_in p q v u w = cond (fits p q u w) v 0

-- f' is f with the columns from..=x raised to g, the others as they were.
pub record Raises (from x : ℕ) (g : ℕ → ℕ) (f f' : List ℕ) : Type 0 where
  pub at : (u : ℕ) → get_or f' u 0 ≡ cond (leb from u && leb u x) (max (get_or f u 0) (g u)) (get_or f u 0)

-- The columns from..=x of the floor hold g.
pub record Columns (from x : ℕ) (g : ℕ → ℕ) (f : List ℕ) : Type 0 where
  pub at : (u : ℕ) → from ≤ u → u ≤ x → get_or f u 0 ≡ g u

-- What a piece or a line up gives: everything of rule 4.8 but the lines across.
unfoldable pub floor_by : (ℕ → ℕ) → (ℕ → ℕ) → (ℕ → ℕ) → ℕ → (ℕ → Bool) → (ℕ → ℕ → ℕ) → ℕ → ℕ → ℕ
floor_by width height value n in_q cell w u = max (fitting_value width height value n u w) (line_value in_q (λ d. cell u d) w)

-- The columns from..=x of a row w: their cells are in the table, and no two parts of a line up overflow 32 bits.
pub record LinesUp (a : ℕ) (t : List ℕ) (from x w : ℕ) : Type 0 where
  pub holds : Holds a w t
  pub least : 1 ≤ from
  pub wide : x ≤ a
  pub adds : (u d r : ℕ) → from ≤ u → u ≤ x → Line w d r → cell_of a t u d + cell_of a t u r < 4_294_967_296

-- One cell worked out from its floor and the lines across.
unfoldable pub cell_raised : ℕ → (ℕ → Bool) → ℕ → ℕ → ℕ → List ℕ → List ℕ
cell_raised floor in_p a u w t =
    cond (is_empty a t u w) (set t (place a u w) (max floor (line_value in_p (λ c. cell_of a t c w) u))) t

-- No cell of row w before column `from` is empty, and that is no further than the column after x.
pub record FullBefore (a : ℕ) (t : List ℕ) (x w from : ℕ) : Type 0 where
  pub least : 1 ≤ from
  pub most : from ≤ x + 1
  pub full : (u : ℕ) → 1 ≤ u → u < from → cell_of a t u w ≡ empty → ⊥

-- The table once x by y has been asked (rules 4.8 and 4.9).

-- No order of loops: a cell's final number is its own, or, where it is empty, its worth among the final numbers.

-- What a cell holds once it has been asked, from what it held and its worth.
abbrev pub settled : ℕ → ℕ → ℕ
settled old worth = cond (eqb old empty) worth old

-- `final_own` gives the equation.
unfoldable pub final : Rows → (ℕ → ℕ → ℕ) → ℕ → ℕ → ℕ
final rows cell u w = deep (λ (s : ℕ × ℕ). s.0 + s.1) 0 (λ part s. settled (cell s.0 s.1) (worth_of rows (λ x y. part (x, y)) s.0 s.1)) (u, w)

-- The table once x by y has been asked: cells (u, w) of the box hold their final number, the others stay.
unfoldable pub filled : Rows → ℕ → ℕ → ℕ → ℕ → List ℕ → List ℕ
filled rows a b x y t = redrawn a b (λ u w. cond (fits u w x y) (final rows (cell_of a t) u w) (cell_of a t u w)) t

-- What the filling asks of the table before it works out a cell, a row or a box.

-- The values are in range.
abbrev pub Valued : Rows → Type 0
Valued rows = (k : ℕ) → k < rows.count → rows.value k ≤ value_max

-- The cells that a cell's worth reads are there, and within their bounds.
pub record Around (a : ℕ) (t : List ℕ) (u w : ℕ) : Type 0 where
  pub holds : Holds a w t
  pub least : 1 ≤ u
  pub wide : u ≤ a
  pub below : (x y : ℕ) → Smaller x y u w → cell_of a t x y ≤ x * y * value_max

-- A row can be filled: the rows below it are full, and no cell of the box exceeds its bound.
pub record RowReady (rows : Rows) (a b x w : ℕ) (t : List ℕ) : Type 0 where
  pub holds : Holds a b t
  pub inside : Inside x w a b
  pub full : Full a t x (w - 1)
  pub bounded : Bounded (cell_of a t) x w
  pub valued : Valued rows

-- A box can be filled: no cell of it exceeds its bound (rule 7.7).
pub record BoxReady (rows : Rows) (a b x y : ℕ) (t : List ℕ) : Type 0 where
  pub holds : Holds a b t
  pub inside : Inside x y a b
  pub bounded : Bounded (cell_of a t) x y
  pub valued : Valued rows

-- The same, read off a board.

abbrev pub cell_on : Board → List ℕ → ℕ → ℕ → ℕ
cell_on board t = cell_of (width_on board) t

abbrev pub fitting_on : Board → ℕ → ℕ → ℕ
fitting_on board u w = fitting_value (width_at board) (height_at board) (value_at board) (count_on board) u w

abbrev pub floor_on : Board → List ℕ → ℕ → ℕ → ℕ
floor_on board t w = floor_by (width_at board) (height_at board) (value_at board) (count_on board) (marked_at board true) (cell_on board t) w

-- What the lines up give in column u, and the line at d.
abbrev pub lines_on : Board → List ℕ → ℕ → ℕ → ℕ
lines_on board t w u = line_value (marked_at board true) (λ d. cell_on board t u d) w

abbrev pub parts_on : Board → List ℕ → ℕ → ℕ → ℕ → ℕ
parts_on board t w d u = cell_on board t u d + cell_on board t u (rest w d)

abbrev pub filled_on : Board → ℕ → ℕ → List ℕ → List ℕ
filled_on board x y t = filled (rows_on board) (width_on board) (height_on board) x y t
