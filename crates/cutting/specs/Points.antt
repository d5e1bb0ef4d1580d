-- The points of P and Q (rules 3.1 to 3.3), what narrowing a rectangle to one leaves (rule 3.4), and how a piece reaches one (rule 3.6).
use Rattle.std.specs.Prelude.{ℕ, ◌+◌, ◌≤◌, ◌<◌, ◌≡◌}
use Rattle.cutting.specs.Piece.{Lay, Turned}
use Rattle.cutting.specs.Dissection.{Earns}

-- p is the width of a piece.
pub record Width (lay : Lay) (p : ℕ) : Type 0 where
  pub height : ℕ
  pub value : ℕ
  pub lies : lay.lies p height value

-- A sum of one or more sizes, each as often as one likes (rule 3.1).
pub data Sum (size : ℕ → Type 0) : ℕ → Type 0 where
  one : {s : ℕ} → size s → Sum size s
  more : {s r t : ℕ} → size s → Sum size r → t ≡ s + r → Sum size t

-- c is in P, for a sheet of width a (rules 3.1 and 3.3).
pub record P (lay : Lay) (a c : ℕ) : Type 0 where
  pub sum : Sum (Width lay) c
  pub within : c ≤ a
  pub not_zero : 1 ≤ c

-- d is in Q, for a sheet of height b: in P of the turned lay (rule 3.2).
abbrev pub Q : Lay → ℕ → ℕ → Type 0
Q lay b d = P (Turned lay) b d

-- What narrowing x by y to a point of P leaves of an earning e: e is 0, or a dissection as wide as a point of P earns as much.
pub data Narrowed (lay : Lay) (x y e : ℕ) : Type 0 where
  worthless : e ≡ 0 → Narrowed lay x y e
  at_point : (c : ℕ) → P lay x c → Earns lay c y e → Narrowed lay x y e

-- A piece reaches c from 0, or from an earlier number in P (rule 3.6).
pub data FromEarlier (lay : Lay) (a c : ℕ) : Type 0 where
  from_zero : Width lay c → FromEarlier lay a c
  from_point : {p r : ℕ} → Width lay p → P lay a r → r < c → c ≡ p + r → FromEarlier lay a c
