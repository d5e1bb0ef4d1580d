use mathlib.Core.Path.{ap₂}
use native.Mathlib.Omega.{arith}
use Rattle.nodes.specs.Inner.{tally}
use Rattle.nodes.proofs.Entries.{entry_last, entry_value}
use Rattle.board.proofs.Laid.{count_few}
use Rattle.nodes.proofs.Nodes.piece_leaf.Goals as goal

-- `piece_leaf`: its value and its area.
pub piece-requires : goal.piece-requires
piece-requires c = omega (arith, entry_last _ c.requires.numbered, count_few c.args.self.now.board.now)

pub returns : goal.returns
returns c =
    ap₂ (λ v a. tally v a 0)
    (entry_value _ c.requires.numbered c.from-2.ensures c.piece.ensures.value (omega arith)) c.area.ensures
