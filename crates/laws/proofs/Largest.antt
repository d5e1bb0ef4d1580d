-- There is only one largest number, and sets that dominate each other have the same one.
use Prim.Native.Nat.{ℕ, ◌≤◌}
use mathlib.Core.Path.{◌≡◌}
use mathlib.Core.Logic.{◌↔◌}
use native.Mathlib.Omega.{arith}
use Rattle.laws.specs.Largest.{Largest}

pub largest_unique : {S : ℕ → Type 0} {v w : ℕ} → Largest S v → Largest S w → v ≡ w
largest_unique {v = v} {w = w} l m = omega (arith, l.bound w m.attained, m.bound v l.attained)

pub largest_mono : {S R : ℕ → Type 0} {v w : ℕ} → ((e : ℕ) → S e → R e) → Largest S v → Largest R w → v ≤ w
largest_mono {v = v} f l m = m.bound v (f v l.attained)

-- Sets with the same members have the same largest number.
pub largest_same : {S R : ℕ → Type 0} → ((e : ℕ) → S e ↔ R e) → (v : ℕ) → Largest S v ↔ Largest R v
largest_same {S} {R} f v = (over S R f v, over R S (λ e. ((f e).1, (f e).0)) v)
  where
    over : (S R : ℕ → Type 0) → ((e : ℕ) → S e ↔ R e) → (v : ℕ) → Largest S v → Largest R v
    over S R f v l = record { attained = (f v).0 l.attained; bound = λ e r. l.bound e ((f e).1 r) }
