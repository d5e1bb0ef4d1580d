use Rattle.std.proofs.Common.{◌∙◌, inl, arith}
use Rattle.cells.proofs.Sweep.{sweep_none, row_more, row_end}
use Rattle.cells.proofs.empty_row.Goals as goal

pub loop-x-init : goal.loop-x-init
loop-x-init c = sweep_none _ _ _ _ _ _ _ (inl (omega arith))

pub loop-x-preserved : goal.loop-x-preserved
loop-x-preserved c = row_more _ _ _ c.requires.holds.room (omega arith) c.loop-x.auto.x c.loop-x.invariant c.store.ensures

pub returns : goal.returns
returns c = c.loop-x.invariant ∙ row_end _ _ _ _ _ (omega arith)
