use Rattle.std.proofs.Common.{◌∙◌, inr, arith}
use Rattle.cells.proofs.Sweep.{sweep_none, rows_more, rows_end}
use Rattle.cells.proofs.empty_where_fits.Goals as goal

pub loop-y-init : goal.loop-y-init
loop-y-init c = sweep_none _ _ _ _ _ _ _ (inr (omega arith))

pub loop-y-preserved : goal.loop-y-preserved
loop-y-preserved c = rows_more _ _ _ _ _ _ c.requires.holds.room (omega arith) c.loop-y.auto.y c.loop-y.invariant c.empty_row.ensures

pub returns : goal.returns
returns c = c.loop-y.invariant ∙ rows_end _ _ _ _ _ _ (omega arith)
