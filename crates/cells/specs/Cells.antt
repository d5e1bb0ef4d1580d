-- The table: where its cells stand, and what an empty one holds (rules 4.1 and 4.2).
use Rattle.std.specs.Prelude.{ℕ, ◌+◌, ◌-◌, ◌*◌, List, get_or}

-- The number that an empty cell holds (rule 4.2).
abbrev pub empty : ℕ
empty = 4_294_967_295

-- The index of cell (x, y) in the row, for a sheet of width a (rule 4.1).
unfoldable pub place : ℕ → ℕ → ℕ → ℕ
place a x y = (y - 1) * a + (x - 1)

-- The number in cell (x, y) of the row t, for a sheet of width a.
unfoldable pub cell_of : ℕ → List ℕ → ℕ → ℕ → ℕ
cell_of a t x y = get_or t (place a x y) empty
