-- Counting in a box: the cells (u, w) with u ≤ x and w ≤ y (rules 4.8 and 4.9).
use Rattle.std.specs.Prelude.{ℕ, suc, Bool, cond, List, eqb}
use Rattle.laws.specs.Below.{sum_below}
use Rattle.cells.specs.Cells.{empty, cell_of}

-- A cell counts 1 where the test is true, else 0.
abbrev pub counted : Bool → ℕ
counted c = cond c 1 0

-- Of how many cells of row w, in columns 1 to x, is the test true?
unfoldable pub count_in_row : ℕ → ℕ → (ℕ → ℕ → Bool) → ℕ
count_in_row x w test = sum_below (λ i. counted (test (suc i) w)) x

-- Of how many cells of the box is the test true?
unfoldable pub count_in_box : ℕ → ℕ → (ℕ → ℕ → Bool) → ℕ
count_in_box x y test = sum_below (λ j. count_in_row x (suc j) test) y

-- Is cell (u, w) empty?
unfoldable pub is_empty : ℕ → List ℕ → ℕ → ℕ → Bool
is_empty a t u w = eqb (cell_of a t u w) empty
