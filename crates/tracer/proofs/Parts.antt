-- The parts of a line on the table: one law for both directions.
use Rattle.std.proofs.Common.{◌≡◌, sym, subst, ℕ, ◌≤◌, Bool, true, false, List, arith}
use Rattle.cutting.specs.Limits.{side_max}
use Rattle.cutting.specs.Dissection.{crossed, part_width, part_height}
use Rattle.cells.proofs.Places.{holds_lower}
use Rattle.tracer.specs.Inner.{OnTable}

module _ {a x y : ℕ} {t : List ℕ} (o : OnTable a t x y) where
  -- The largest sheet bounds the side that a line crosses.
  pub crossed_most : (tall : Bool) → crossed tall x y ≤ side_max
  crossed_most true = omega (arith, o.holds)
  crossed_most false = omega (arith, o.holds, o.inside)

  -- The table's width as the code read it.
  pub table_read : {r : ℕ} → r ≡ a → OnTable r t x y
  table_read e = subst (λ (k : ℕ). OnTable k t x y) (sym e) o

-- A part of a line inside its side is on the table too; w by h are its sides as the code found them.
pub part_table : {a x y : ℕ} {t : List ℕ} → OnTable a t x y → (tall : Bool) {c w h : ℕ} → 1 ≤ c → c ≤ crossed tall x y
    → w ≡ part_width tall x c → h ≡ part_height tall y c → OnTable a t w h
part_table o true {h = h} l m e f = record { holds = holds_lower h o.holds (omega arith) (omega arith); inside = omega (arith, o.inside) }
part_table o false {h = h} l m e f = record { holds = holds_lower h o.holds (omega (arith, o.inside)) (omega arith); inside = omega (arith, o.inside) }
