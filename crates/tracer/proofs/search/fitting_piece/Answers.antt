use Rattle.std.proofs.Common.{rules}
use Rattle.cells.specs.Inner.{fits}
use Rattle.board.specs.Inner.{rows_on}
use Rattle.tracer.specs.Inner.{fits_in}
use Rattle.tracer.proofs.search.fitting_piece.Goals as goal

pub returns : goal.returns
unfolding rows_on fits
returns c = c.first_piece.ensures (fits_in (rows_on c.args.table.now.board.now) c.args.width c.args.height) (λ k b l p. search rules)
