use Rattle.std.proofs.Common.{◌+◌, ◌-◌, ◌≡◌, arith}
use Rattle.board.specs.Inner.{rows_on}
use Rattle.fill.proofs.Rounds.{entered, entered_count, row_around, row_more, row_count, row_within}
use Rattle.fill.proofs.fill_columns.Goals as goal

pub loop-u-init : goal.loop-u-init
loop-u-init c =
    let full = c.requires.full_before in
    (entered _ _ _ _ _ _ _ c.requires.row_ready full, entered_count _ _ _ _ _ _ _ c.requires.row_ready full)

pub fill_cell-worked-requires : goal.fill_cell-worked-requires
fill_cell-worked-requires c =
    row_around _ _ _ _ _ _ c.requires.row_ready _ _ (omega arith) (omega arith) c.loop-u.invariant.0

pub overflow_add-worked : goal.overflow_add-worked
overflow_add-worked c =
    let inv = c.loop-u.invariant in
    omega (arith, row_within _ _ _ _ _ _ c.requires.row_ready _ _ (omega arith) (omega arith) inv.0 inv.1 c.fill_cell-worked.ensures.worked)

pub loop-u-preserved : goal.loop-u-preserved
unfolding rows_on
loop-u-preserved c =
    let inv = c.loop-u.invariant in
    let ready = c.requires.row_ready in
    let floor = c.floor_of-floor.ensures.at _ c.loop-u.auto.u (omega arith) in
    let next : c.loop-u.u + 1 - 1 ≡ c.loop-u.u = omega arith in
    rw next (
      row_more _ _ _ _ _ _ ready _ _ (omega arith) (omega arith) inv.0 floor c.fill_cell-worked.ensures.after,
      row_count _ _ _ _ _ _ ready _ _ (omega arith) (omega arith) inv.0 inv.1 c.fill_cell-worked.ensures.worked,
    )
