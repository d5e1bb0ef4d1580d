use Rattle.std.proofs.Common.{arith}
use Rattle.cells.specs.Inner.{asked, exceeds, too_much}
use Rattle.cells.proofs.has_exceeding.Goals as goal

-- `cells::has_exceeding` is box_has with what it looks for. By grind, so that a refused check shows the numbers at which it is not.
pub returns : goal.returns
unfolding asked exceeds too_much
returns c = c.box_has.ensures too_much (λ value most r h. grind arith)
