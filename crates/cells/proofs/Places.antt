-- Where cells lie: all division stands here. A cell inside the sheet has a place in the row, and each place its cell.
use Prim.Native.Nat.{ℕ, zero, suc, ◌+◌, ◌-◌, ◌*◌, ◌/◌, ◌%◌, ◌≤◌, ◌<◌}
use mathlib.Core.Path.{◌≡◌, sym, ap, ap₂, ◌∙◌}
use native.Mathlib.Omega.{arith}
use native.Mathlib.Nat.{suc-mul, mul_comm, zero-mul, mul-le-mul, mul-le-mul_left, mul-le-mul_right, mod-lt, mod-eq_of_lt, div-eq_of_lt, mul-add-mod_self_right, mul-add-div_right, div-add-mod', div-lt_iff_lt-mul}
use Rattle.cutting.specs.Limits.{side_max}
use Rattle.cutting.specs.Piece.{Inside}
use mathlib.Core.List.{List}
use Rattle.cells.specs.Cells.{place}
use Rattle.cells.specs.Inner.{Holds}

pub place_below : {x y a b : ℕ} → Inside x y a b → place a x y < a * b
unfolding place
place_below {x} {y} {a} {b} i =
    let h : suc (y - 1) * a ≤ b * a = mul-le-mul_right a (omega arith) in
    omega (arith, suc-mul (y - 1) a, mul_comm a b)

-- An area within the largest sheet.
pub area_fits : {u w : ℕ} → u ≤ side_max → w ≤ side_max → u * w ≤ side_max * side_max
area_fits h k = mul-le-mul h k

-- The rows above a sheet a by y lie beyond it.
pub place_above : {u w a b : ℕ} (y : ℕ) → Inside u w a b → y < w → a * y ≤ place a u w
unfolding place
place_above {u} {w} {a} y i h =
    let g : y * a ≤ (w - 1) * a = mul-le-mul_right a (omega arith) in
    omega (arith, mul_comm a y)

-- A row that holds a sheet holds each lower one.
pub holds_lower : {a b : ℕ} {t : List ℕ} (y : ℕ) → Holds a b t → 1 ≤ y → y ≤ b → Holds a y t
holds_lower {a} {b} y s l m =
    let g : a * y ≤ a * b = mul-le-mul_left a m in
    omega arith

-- The place gives the column and the row back.
pub place_column : {x y a b : ℕ} → Inside x y a b → place a x y % a + 1 ≡ x
unfolding place
place_column {x} {y} {a} i =
    let h : x - 1 < a = omega arith in
    omega (arith, mul-add-mod_self_right (y - 1) a (x - 1) ∙ mod-eq_of_lt h)

pub place_row : {x y a b : ℕ} → Inside x y a b → place a x y / a + 1 ≡ y
unfolding place
place_row {x} {y} {a} i =
    let h : x - 1 < a = omega arith in
    let g : zero < a = omega arith in
    omega (arith, mul-add-div_right g (y - 1) (x - 1), div-eq_of_lt h)

-- Every index below a·b is the place of a cell of the sheet.
pub cell_inside : (a b i : ℕ) → i < a * b → Inside (i % a + 1) (i / a + 1) a b
cell_inside zero b i h = absurd (omega (arith, zero-mul b))
cell_inside (suc a) b i h =
    let g : zero < suc a = omega arith in
    let k : i < b * suc a = omega (arith, mul_comm (suc a) b) in
    omega (arith, mod-lt i g, (div-lt_iff_lt-mul g).1 k)

pub cell_place : (a i : ℕ) → place a (i % a + 1) (i / a + 1) ≡ i
unfolding place
cell_place a i =
    let row : i / a + 1 - 1 ≡ i / a = omega arith in
    let column : i % a + 1 - 1 ≡ i % a = omega arith in
    ap₂ (λ k r. k * a + r) row column ∙ div-add-mod' i a

-- No two cells of a sheet have the same place (rule 4.1).
pub same_place : {x y u w a b : ℕ} → Inside x y a b → Inside u w a b → place a x y ≡ place a u w → (x ≡ u) × (y ≡ w)
same_place {a} i j e = (
  sym (place_column i) ∙ (ap (λ k. k % a + 1) e ∙ place_column j),
  sym (place_row i) ∙ (ap (λ k. k / a + 1) e ∙ place_row j),
)

-- The first x places of row w are in the table.
pub row_within : {a w : ℕ} {t : List ℕ} (x : ℕ) → Holds a w t → x ≤ a → place a 1 w + x ≤ a * w
unfolding place
row_within {a} {w} x s h =
    let k : suc (w - 1) * a ≤ w * a = mul-le-mul_right a (omega arith) in
    omega (arith, suc-mul (w - 1) a, mul_comm a w)
