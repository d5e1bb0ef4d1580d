use Rattle.fill.proofs.Floors.{zeros, floor_done}
use Rattle.fill.proofs.floor.floor_of.Goals as goal

-- `floor_of`: the pieces, then the lines.
pub raise_by_pieces-requires-clause-columns : goal.raise_by_pieces-requires-clause-columns
raise_by_pieces-requires-clause-columns c = zeros _ _ 241

pub returns : goal.returns
returns c = floor_done _ _ _ _ _ _ _ _ _ c.raise_by_pieces.ensures c.raise_by_lines.ensures
