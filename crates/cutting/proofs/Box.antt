-- The induction over a box: the smaller rectangles first.
use Prim.Native.Nat.{ℕ, ◌+◌}
use native.Mathlib.Omega.{arith}
use Rattle.laws.proofs.Depth.{by_size}
use Rattle.cutting.specs.Piece.{Inside}
use Rattle.cutting.specs.Candidate.{Smaller}

-- What holds of each rectangle of the box where it holds of the smaller ones inside it, holds of all.
pub box_induction : {a b : ℕ} (Holds : ℕ → ℕ → Type 0)
    → ((u w : ℕ) → Inside u w a b → ((x y : ℕ) → Smaller x y u w → Holds x y) → Holds u w)
    → (u w : ℕ) → Inside u w a b → Holds u w
box_induction {a} {b} Holds step u w =
    by_size (λ (s : ℕ × ℕ). s.0 + s.1) (λ s. Inside s.0 s.1 a b → Holds s.0 s.1)
    (λ s below i. step s.0 s.1 i (λ x y l. below (x, y) l.less (omega (arith, l.inside))))
    (u, w)
