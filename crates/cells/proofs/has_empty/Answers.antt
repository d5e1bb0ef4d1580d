use Rattle.std.proofs.Common.{eqb, rules}
use Rattle.cells.specs.Cells.{empty}
use Rattle.cells.specs.Box.{is_empty}
use Rattle.cells.specs.Inner.{asked}
use Rattle.cells.proofs.has_empty.Goals as goal

-- `cells::has_empty` is box_has with what it looks for.
pub returns : goal.returns
unfolding asked is_empty
returns c = c.box_has.ensures (λ value most. eqb value empty) (λ value most r h. search rules)
