use Rattle.cells.proofs.Redrawn.{read_cell}
use Rattle.cells.proofs.cell.Goals as goal

-- `cells::cell` reads the cell's place.
pub returns : goal.returns
returns c = read_cell _ c.requires.holds.room c.requires.inside _ c.place.ensures.is
