use Rattle.std.proofs.Common.{◌+◌, ◌-◌, ◌≡◌, arith}
use Rattle.fill.proofs.Steps.{lines_none, lines_more, lines_end}
use Rattle.fill.proofs.value.line_value.Goals as goal

pub loop-c-init : goal.loop-c-init
loop-c-init c = lines_none _ _ _

pub loop-c-preserved : goal.loop-c-preserved
loop-c-preserved c =
    let next : c.loop-c.c + 1 - 1 ≡ c.loop-c.c = omega arith in
    rw next (lines_more _ _ _ _ (omega arith) c.loop-c.invariant c.line_at.ensures c.max-best.ensures)

pub returns : goal.returns
returns c = lines_end _ _ _ c.loop-c.invariant (omega arith)
