-- What a dissection is and what it earns, for any lay and without any table (rules 2.1 to 2.6).
use Rattle.std.specs.Prelude.{ℕ, ◌+◌, ◌-◌, ◌≤◌, ◌≡◌, Bool, cond}
use Rattle.laws.specs.Largest.{Largest}
use Rattle.cutting.specs.Piece.{Lay}

-- What a line at c leaves of a side x beyond it: it takes no width itself (rules 2.4 and 2.5).
abbrev pub rest : ℕ → ℕ → ℕ
rest x c = x - c

-- A line crosses the width (a vertical one) or the height (a horizontal one: `tall`). The side that it crosses, ..
abbrev pub crossed : Bool → ℕ → ℕ → ℕ
crossed tall x y = cond tall y x

-- .. the width of a part of it that is c long ..
abbrev pub part_width : Bool → ℕ → ℕ → ℕ
part_width tall x c = cond tall x c

-- .. and the height: the side that isn't crossed stays.
abbrev pub part_height : Bool → ℕ → ℕ → ℕ
part_height tall y c = cond tall c y

-- A line at c inside a side x leaves parts of c and of x−c (rules 2.4 and 2.5).
pub record Line (x c far : ℕ) : Type 0 where
  pub least : 1 ≤ c
  pub most : c ≤ x - 1
  pub leaves : far ≡ rest x c

-- Some dissection of x by y earns e (rule 2.1).
pub data Earns (lay : Lay) : ℕ → ℕ → ℕ → Type 0 where
  -- Rule 2.2: scrap earns 0.
  scrap : {x y : ℕ} → Earns lay x y 0
  -- Rule 2.3: a piece of exactly this size earns its value.
  piece : {x y v : ℕ} → lay.lies x y v → Earns lay x y v
  -- Rule 2.4: a vertical line, with a dissection of the left part and one of the right.
  vertical : {x y c r e f : ℕ} → Line x c r → Earns lay c y e → Earns lay r y f → Earns lay x y (e + f)
  -- Rule 2.5: a horizontal line, with a dissection of the lower part and one of the upper.
  horizontal : {x y d r e f : ℕ} → Line y d r → Earns lay x d e → Earns lay x r f → Earns lay x y (e + f)

-- So a dissection earns what its leaves earn: e + f at each line (rules 2.4 and 2.5).

-- The best value: no dissection of x by y earns more, and one earns as much (rule 2.6).
abbrev pub Best : Lay → ℕ → ℕ → ℕ → Type 0
Best lay x y = Largest (Earns lay x y)
