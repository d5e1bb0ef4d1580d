use mathlib.Core.Bool.{false}
use Rattle.board.specs.Inner.{marked_at}
use Rattle.fill.proofs.Rounds.{cell_kept, cell_worked}
use Rattle.fill.proofs.fill_cell.Goals as goal

-- `fill_cell`: a filled cell is left, an empty one gets the larger of its floor and the lines across.
pub returns-then-cell : goal.returns-then-cell
returns-then-cell c =
    let both = cell_kept c.args.floor (marked_at c.args.board.now false) _ _ _ _ c.cell.ensures c.if-cell.true in
    record { worked = both.0; after = both.1 }

pub returns : goal.returns
returns c =
    let both = cell_worked c.args.floor (marked_at c.args.board.now false) _ _ _ _ _
    c.cell.ensures c.if-cell.false c.line_value-line.ensures c.max.ensures c.store.ensures in
    record { worked = both.0; after = both.1 }
