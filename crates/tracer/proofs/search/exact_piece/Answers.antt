use Rattle.std.proofs.Common.{arith}
use Rattle.board.specs.Inner.{rows_on}
use Rattle.tracer.specs.Inner.{is_size}
use Rattle.tracer.proofs.search.exact_piece.Goals as goal

-- By grind, so that a refused check shows a size at which they differ.
pub returns : goal.returns
unfolding rows_on
returns c = c.first_piece.ensures (is_size (rows_on c.args.table.now.board.now) c.args.width c.args.height) (λ k b l p. grind arith)
