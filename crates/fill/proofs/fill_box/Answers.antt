use Rattle.std.proofs.Common.{◌+◌, ◌-◌, ◌≡◌, sym, inr, arith}
use Rattle.cells.proofs.Box.{count_in_box_none}
use Rattle.fill.proofs.Growing.{filled_none}
use Rattle.fill.proofs.Rounds.{box_row, box_more, box_count, box_within}
use Rattle.fill.proofs.fill_box.Goals as goal

pub loop-w-init : goal.loop-w-init
loop-w-init c = (filled_none _ _ _ _ _ _ (inr (omega arith)), sym (count_in_box_none _ _))

pub fill_row-worked-requires : goal.fill_row-worked-requires
fill_row-worked-requires c = box_row _ _ _ _ _ _ c.requires _ _ (omega arith) (omega arith) c.loop-w.invariant.0

pub overflow_add-worked : goal.overflow_add-worked
overflow_add-worked c =
    let inv = c.loop-w.invariant in
    omega (arith, box_within _ _ _ _ _ _ c.requires _ _ (omega arith) (omega arith) inv.0 inv.1 c.fill_row-worked.ensures.worked)

pub loop-w-preserved : goal.loop-w-preserved
loop-w-preserved c =
    let inv = c.loop-w.invariant in
    let ready = c.requires in
    let next : c.loop-w.w + 1 - 1 ≡ c.loop-w.w = omega arith in
    rw next (
      box_more _ _ _ _ _ _ ready _ _ (omega arith) (omega arith) inv.0 c.fill_row-worked.ensures.after,
      box_count _ _ _ _ _ _ ready _ _ (omega arith) (omega arith) inv.0 inv.1 c.fill_row-worked.ensures.worked,
    )
