-- Narrowing a rectangle to a point of P, or of Q, loses nothing (rule 3.4; Herz, Theorem 1). A point is reached from an earlier one (rule 3.6).
use Prim.Native.Nat.{ℕ, ◌+◌, ◌≤◌, ◌<◌}
use mathlib.Core.Logic.{◌⊎◌, inl, inr, ⊎_elim, ◌↔◌}
use mathlib.Core.Path.{◌≡◌, refl, sym, subst}
use native.Mathlib.Omega.{arith}
use Rattle.laws.proofs.Order.{le_or_lt}
use Rattle.cutting.specs.Piece.{Lay, Turned}
use Rattle.cutting.specs.Dissection.{Line, Earns}
use Rattle.cutting.specs.Points.{Width, Sum, P, Narrowed, FromEarlier}
use Rattle.cutting.proofs.Dissection.{turned, widened}

-- P is closed under adding: sums of sums are sums.
pub sum_add : {size : ℕ → Type 0} {s r t : ℕ} → Sum size s → Sum size r → t ≡ s + r → Sum size t
sum_add {t = t} (Sum.one h) q e = Sum.more {t = t} h q (omega arith)
sum_add {r = n} {t = t} (Sum.more {s = p} {r = m} h q e) w f =
    Sum.more {s = p} {r = m + n} {t = t} h (sum_add q w refl) (omega arith)

-- How a sum of at least 1 begins: it is a size, or a size on top of a smaller such sum.
pub data Apart (size : ℕ → Type 0) (t : ℕ) : Type 0 where
  alone : size t → Apart size t
  on_top : {p r : ℕ} → size p → Sum size r → 1 ≤ r → r < t → t ≡ p + r → Apart size t

pub sum_apart : {size : ℕ → Type 0} (t : ℕ) → Sum size t → 1 ≤ t → Apart size t
sum_apart t (Sum.one s) h = Apart.alone s
sum_apart {size} t (Sum.more {s = p} {r = r} s rest e) h = by (le_or_lt 1 p) (le_or_lt 1 r) (sum_apart r rest)
  where
    by : (1 ≤ p) ⊎ (p < 1) → (1 ≤ r) ⊎ (r < 1) → (1 ≤ r → Apart size r) → Apart size t
    by (inr none) y before = subst (Apart size) (omega arith) (before (omega arith))
    by (inl some) (inr none) before = Apart.alone (subst size (omega arith) s)
    by (inl some) (inl rests) before = Apart.on_top s rest rests (omega arith) e

pub P_add : {lay : Lay} {a b c d : ℕ} → P lay a c → P lay b d → P lay (a + b) (c + d)
P_add p q =
    record { sum = sum_add p.sum q.sum refl; within = omega arith; not_zero = omega arith }

pub P_wider : {lay : Lay} {a c : ℕ} (b : ℕ) → c ≤ b → P lay a c → P lay b c
P_wider b h p = record { sum = p.sum; within = h; not_zero = p.not_zero }

-- Two parts side by side, at a line.
beside : {lay : Lay} {x y c r e f : ℕ} → Line x c r → Narrowed lay c y e → Narrowed lay r y f → Narrowed lay x y (e + f)
beside l (Narrowed.worthless g) (Narrowed.worthless h) = Narrowed.worthless (omega arith)
beside {lay} {x} {y} l (Narrowed.worthless g) (Narrowed.at_point c p d) =
    Narrowed.at_point c (P_wider x (omega arith) p) (subst (Earns lay c y) (omega arith) d)
beside {lay} {x} {y} l (Narrowed.at_point c p d) (Narrowed.worthless g) =
    Narrowed.at_point c (P_wider x (omega arith) p) (subst (Earns lay c y) (omega arith) d)
beside {lay} {x} l (Narrowed.at_point b p d) (Narrowed.at_point c q k) =
    Narrowed.at_point (b + c) (P_wider x (omega arith) (P_add p q))
    (Earns.vertical {x = b + c} {r = c} (record { least = p.not_zero; most = omega arith; leaves = omega arith }) d k)

-- Two parts one above the other: the narrower is widened to the other.
above : {lay : Lay} {x y d r e f : ℕ} → Line y d r → Narrowed lay x d e → Narrowed lay x r f → Narrowed lay x y (e + f)
above l (Narrowed.worthless g) (Narrowed.worthless h) = Narrowed.worthless (omega arith)
above {lay} {d = d} l (Narrowed.worthless g) (Narrowed.at_point c p k) =
    Narrowed.at_point c p (Earns.horizontal l (subst (Earns lay c d) (sym g) Earns.scrap) k)
above {lay} {r = r} l (Narrowed.at_point c p k) (Narrowed.worthless g) =
    Narrowed.at_point c p (Earns.horizontal l k (subst (Earns lay c r) (sym g) Earns.scrap))
above l (Narrowed.at_point b p k) (Narrowed.at_point c q m) =
    ⊎_elim (λ h. Narrowed.at_point c q (Earns.horizontal l (widened c p.not_zero h k) m))
    (λ h. Narrowed.at_point b p (Earns.horizontal l k (widened b q.not_zero (omega arith) m)))
    (le_or_lt b c)

-- Narrowing loses nothing, for widths.
pub narrowed_width : {lay : Lay} {x y e : ℕ} → 1 ≤ x → Earns lay x y e → Narrowed lay x y e
narrowed_width h Earns.scrap = Narrowed.worthless refl
narrowed_width {x = x} h (Earns.piece {y = y} {v = v} g) =
    Narrowed.at_point x
    (record { sum = Sum.one (record { height = y; value = v; lies = g }); within = omega arith; not_zero = h })
    (Earns.piece g)
narrowed_width h (Earns.vertical l s t) = beside l (narrowed_width l.least s) (narrowed_width (omega arith) t)
narrowed_width h (Earns.horizontal l s t) = above l (narrowed_width h s) (narrowed_width h t)

-- The same for heights and Q, by turning.
pub narrowed_height : {lay : Lay} {x y e : ℕ} → 1 ≤ y → Earns lay x y e → Narrowed (Turned lay) y x e
narrowed_height h d = narrowed_width h (turned d)

-- A number in the range is a point exactly when a piece reaches it from 0 or from an earlier point; for Q, of the turned lay (rule 3.6).
pub points_earlier : (lay : Lay) (a c : ℕ) → P lay a c ↔ ((1 ≤ c) × (c ≤ a) × FromEarlier lay a c)
points_earlier lay a c = ((λ p. (p.not_zero, p.within, earlier p.within (sum_apart c p.sum p.not_zero))), back)
  where
    earlier : c ≤ a → Apart (Width lay) c → FromEarlier lay a c
    earlier l (Apart.alone w) = FromEarlier.from_zero w
    earlier l (Apart.on_top w rest h b e) = FromEarlier.from_point w (record { sum = rest; within = omega arith; not_zero = h }) b e

    back : (1 ≤ c) × (c ≤ a) × FromEarlier lay a c → P lay a c
    back (h, l, FromEarlier.from_zero w) = record { sum = Sum.one w; within = l; not_zero = h }
    back (h, l, FromEarlier.from_point w p b e) = record { sum = Sum.more w p.sum e; within = l; not_zero = h }
