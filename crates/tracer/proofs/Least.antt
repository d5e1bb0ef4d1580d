-- There is only one first, and only one least.
use Prim.Native.Nat.{ℕ, ◌<◌}
use mathlib.Core.Path.{◌≡◌}
use native.Mathlib.Omega.{arith}
use Rattle.tracer.specs.Rules.{Least}

pub least_unique : {S : ℕ → Type 0} {j k : ℕ} → Least S j → Least S k → j ≡ k
least_unique {j = j} {k = k} l m =
    let late : j < k → ⊥ = λ h. m.least j h l.holds in
    let early : k < j → ⊥ = λ h. l.least k h m.holds in
    omega arith
