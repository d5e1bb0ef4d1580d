-- Pieces in range earn at most 65,535 for each unit of area: no sum of cells overflows, no cell of a kept table exceeds it (rules 2.9 and 7.7).
use Prim.Native.Nat.{ℕ, ◌+◌, ◌*◌, ◌≤◌}
use native.Mathlib.Omega.{arith}
use native.Mathlib.Nat.{mul-le-mul}
use Rattle.cutting.specs.Limits.{value_max}
use Rattle.cutting.specs.Piece.{Lay, InRange}
use Rattle.cutting.specs.Dissection.{Earns, Best}

-- The most that x by y can earn.
abbrev pub most : ℕ → ℕ → ℕ
most x y = x * y * value_max

-- The two parts of a line have at most the area of the whole.
pub most_parts : (x y c r : ℕ) → c + r ≤ x → most c y + most r y ≤ most x y
most_parts x y c r h = omega (arith, mul-le-mul {n₁ = c + r} {m₁ = y} {n₂ = x} {m₂ = y} h (omega arith))

pub most_mono : (x y u w : ℕ) → x ≤ u → y ≤ w → most x y ≤ most u w
most_mono x y u w h k = omega (arith, mul-le-mul {n₁ = x} {m₁ = y} {n₂ = u} {m₂ = w} h k)

pub earning_bound : {lay : Lay} {x y e : ℕ} → InRange lay → Earns lay x y e → e ≤ most x y
earning_bound range Earns.scrap = omega arith
earning_bound {x = x} {y = y} {e = e} range (Earns.piece h) =
    let g = range x y e h in
    omega (arith, most_mono 1 1 x y g.width_least g.height_least, g.value_most)
earning_bound {x = x} {y = y} range (Earns.vertical {c = c} {r = r} l s t) =
    omega (arith, earning_bound range s, earning_bound range t, most_parts x y c r (omega arith))
earning_bound {x = x} {y = y} range (Earns.horizontal {d = d} {r = r} l s t) =
    omega (arith, earning_bound range s, earning_bound range t, most_parts y x d r (omega arith))

pub best_bound : {lay : Lay} {x y v : ℕ} → InRange lay → Best lay x y v → v ≤ most x y
best_bound range b = earning_bound range b.attained
