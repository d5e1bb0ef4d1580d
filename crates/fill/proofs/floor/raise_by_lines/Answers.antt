use Rattle.std.proofs.Common.{◌+◌, ◌-◌, ◌≡◌, arith}
use Rattle.fill.proofs.Floors.{lined_none, lined_marked, lined_unmarked, lined_end}
use Rattle.fill.proofs.floor.raise_by_lines.Goals as goal
use Rattle.fill.proofs.floor.raise_by_lines.Goals.{then-marked, else-marked}

pub loop-d-init : goal.loop-d-init
loop-d-init c = lined_none _ _ _ _ _ _

pub loop-d-preserved : goal.loop-d-preserved
loop-d-preserved c =
    let next : c.loop-d.d + 1 - 1 ≡ c.loop-d.d = omega arith in
    let tried = c.loop-d.invariant in
    rw next (elim c.if-marked.branch [
      | then-marked w ↦ rw w.floor-is (lined_marked _ _ _ _ _ _ _ (omega arith) tried c.marked.ensures w.if-marked.true w.raise_by_line.ensures)
      | else-marked w ↦ rw w.floor-is (lined_unmarked _ _ _ _ _ _ _ (omega arith) tried c.marked.ensures w.if-marked.false)
    ])

pub returns : goal.returns
returns c = lined_end _ _ _ _ _ _ _ c.loop-d.invariant (omega arith)
