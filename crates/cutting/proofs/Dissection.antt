-- A dissection may be turned, and a rectangle enlarged: nothing is lost. Best values are unique.
use Prim.Native.Nat.{ℕ, ◌≤◌, ◌<◌}
use mathlib.Core.Path.{◌≡◌, refl, subst}
use mathlib.Core.Logic.{⊎_elim}
use native.Mathlib.Omega.{arith}
use native.Mathlib.Nat.{add-zero}
use Rattle.laws.proofs.Largest.{largest_unique, largest_mono}
use Rattle.laws.proofs.Order.{le_or_lt}
use Rattle.cutting.specs.Piece.{Lay, Turned}
use Rattle.cutting.specs.Dissection.{Earns, Best}

-- There is only one best value.
pub best_unique : {lay : Lay} {x y v w : ℕ} → Best lay x y v → Best lay x y w → v ≡ w
best_unique = largest_unique

-- Widths and heights are one theory, turned.
pub turned : {lay : Lay} {x y e : ℕ} → Earns lay x y e → Earns (Turned lay) y x e
turned Earns.scrap = Earns.scrap
turned (Earns.piece h) = Earns.piece h
turned (Earns.vertical l s t) = Earns.horizontal l (turned s) (turned t)
turned (Earns.horizontal l s t) = Earns.vertical l (turned s) (turned t)

pub best_turned : {lay : Lay} {x y v : ℕ} → Best lay x y v → Best (Turned lay) y x v
best_turned b = record { attained = turned b.attained; bound = λ e d. b.bound e (turned d) }

-- A line that cuts what is not wanted off as scrap.
pub trimmed : {lay : Lay} {x y e : ℕ} (z : ℕ) → 1 ≤ x → x < z → Earns lay x y e → Earns lay z y e
trimmed {lay} {x} {y} {e} z p h d =
    subst (Earns lay z y) (add-zero e)
    (Earns.vertical (record { least = p; most = omega arith; leaves = refl }) d Earns.scrap)

pub widened : {lay : Lay} {x y e : ℕ} (z : ℕ) → 1 ≤ x → x ≤ z → Earns lay x y e → Earns lay z y e
widened {lay} {x} {y} {e} z p h d =
    ⊎_elim (λ g. subst (λ (k : ℕ). Earns lay k y e) (omega arith) d) (λ g. trimmed z p g d) (le_or_lt z x)

-- Enlarging a rectangle loses nothing (rule 2.8).
pub enlarged : {lay : Lay} {x y e : ℕ} (u w : ℕ) → 1 ≤ x → x ≤ u → 1 ≤ y → y ≤ w → Earns lay x y e → Earns lay u w e
enlarged u w p h q k d = turned (widened w q k (turned (widened u p h d)))

pub best_enlarged : {lay : Lay} {x y u w v b : ℕ} → 1 ≤ x → x ≤ u → 1 ≤ y → y ≤ w → Best lay x y v → Best lay u w b → v ≤ b
best_enlarged {u = u} {w = w} p h q k = largest_mono (λ e d. enlarged u w p h q k d)
