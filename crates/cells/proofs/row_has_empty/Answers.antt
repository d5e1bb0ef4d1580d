use Rattle.std.proofs.Common.{eqb, rules}
use Rattle.cells.specs.Cells.{empty}
use Rattle.cells.specs.Box.{is_empty}
use Rattle.cells.specs.Inner.{asked}
use Rattle.cells.proofs.row_has_empty.Goals as goal

-- `cells::row_has_empty` is row_has with what it looks for.
pub returns : goal.returns
unfolding asked is_empty
returns c = c.row_has.ensures (λ value most. eqb value empty) (λ value most r h. search rules)
