use Rattle.program.proofs.Lines.{may_list, lists_plan}
use Rattle.program.proofs.whole.list_for.Goals as goal

-- `list_for` meets its contract.
pub list-requires : goal.list-requires
list-requires c =
    may_list _ c.of_pieces-board.ensures c.from.ensures c.block_length.ensures c.from-2.ensures c.from-3.ensures c.requires

pub returns : goal.returns
returns c =
    lists_plan _ c.of_pieces-board.ensures c.from.ensures c.block_length.ensures c.from-2.ensures c.from-3.ensures c.requires c.list.ensures
