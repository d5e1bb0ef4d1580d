-- The candidates of a cell, of which an empty one gets the largest (rule 4.8).
use Rattle.std.specs.Prelude.{ℕ, ◌+◌, ◌*◌, ◌≤◌, ◌<◌}
use Rattle.laws.specs.Largest.{Largest}
use Rattle.cutting.specs.Piece.{Lay, Fits, Inside}
use Rattle.cutting.specs.Dissection.{Line, Best}
use Rattle.cutting.specs.Points.{P, Q}

-- A line at c is not beyond the middle of a side u (rule 4.8).
abbrev pub UpToHalf : ℕ → ℕ → Type 0
UpToHalf c u = 2 * c ≤ u

-- A line that is tried through a side u: at a point c, up to half of it, where it leaves r (rule 4.8).
pub record Tried (Point : ℕ → Type 0) (u c r : ℕ) : Type 0 where
  pub point : Point c
  pub half : UpToHalf c u
  pub line : Line u c r

-- The candidates of cell (u, w) by rule 4.8. The sheet is a by b, and `cell x y` is the number in cell (x, y).
pub data Candidate (lay : Lay) (a b : ℕ) (cell : ℕ → ℕ → ℕ) (u w : ℕ) : ℕ → Type 0 where
  -- 0, whatever the job is.
  nothing : Candidate lay a b cell u w 0
  -- A piece that fits, for its value.
  fitting : {p q v : ℕ} → lay.lies p q v → Fits p q u w → Candidate lay a b cell u w v
  -- A vertical line at a point of P: the cells of the left and the right part.
  vertical : {c r : ℕ} → Tried (P lay a) u c r → Candidate lay a b cell u w (cell c w + cell r w)
  -- A horizontal line at a point of Q: the cells of the lower and the upper part.
  horizontal : {d r : ℕ} → Tried (Q lay b) w d r → Candidate lay a b cell u w (cell u d + cell u r)

-- v is what the rule puts into cell (u, w).
abbrev pub Worth : Lay → ℕ → ℕ → (ℕ → ℕ → ℕ) → ℕ → ℕ → ℕ → Type 0
Worth lay a b cell u w = Largest (Candidate lay a b cell u w)

-- x by y is a smaller rectangle inside u by w.
pub record Smaller (x y u w : ℕ) : Type 0 where
  pub inside : Inside x y u w
  pub less : x + y < u + w

-- The cell of each smaller rectangle inside u by w holds its best value (rule 2.6).
abbrev pub BestSmaller : Lay → (ℕ → ℕ → ℕ) → ℕ → ℕ → Type 0
BestSmaller lay cell u w = (x y : ℕ) → Smaller x y u w → Best lay x y (cell x y)
