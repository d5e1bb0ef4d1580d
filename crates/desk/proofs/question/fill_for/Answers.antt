use Rattle.board.proofs.Holds.{pieces_unmarked, points_laid}
use Rattle.desk.proofs.Holding.{box_ready, box_filled, box_still}
use Rattle.desk.proofs.question.fill_for.Goals as goal

-- `fill_for`: the board that is laid out is the job's; a full box needs none.
pub returns-then-not-has_empty : goal.returns-then-not-has_empty
returns-then-not-has_empty c =
    let both = box_still c.args.job.now _ _ _ c.from.ensures c.has_empty.ensures c.if-not-has_empty.true in
    record { worked = both.0; after = both.1 }

pub of_pieces-board-requires : goal.of_pieces-board-requires
of_pieces-board-requires c = c.requires.usable.range.count_most

pub set_points-requires : goal.set_points-requires
set_points-requires c = pieces_unmarked _ c.requires.usable.range c.of_pieces-board.ensures

pub fill_box-requires : goal.fill_box-requires
fill_box-requires c =
    box_ready _ _ _ _ c.requires.usable c.requires.inside c.requires.bounded (points_laid _ c.of_pieces-board.ensures c.set_points.ensures)

pub returns : goal.returns
returns c =
    let laid = points_laid _ c.of_pieces-board.ensures c.set_points.ensures in
    let both = box_filled _ _ _ _ c.requires.usable.range laid c.fill_box.ensures.worked c.fill_box.ensures.after in
    record { worked = both.0; after = both.1 }
