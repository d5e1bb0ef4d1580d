use Rattle.std.proofs.Common.{arith, ◌∙◌, ap}
use Rattle.nodes.specs.Inner.{read_of}
use Rattle.checker.proofs.Stages.{may_read, nodes_told, leaves_none, leaves_left, leaves_some}
use Rattle.checker.proofs.trailer.Trailer.leaves.Goals as goal

-- `leaves` meets its contract.
pub read-requires : goal.read-requires
read-requires c = may_read c.args.job.now c.requires c.of_pieces-board.ensures c.from.ensures c.from-2.ensures

pub returns-in_err-reading : goal.returns-in_err-reading
returns-in_err-reading c =
    let self = c.args.self.now in
    let told = nodes_told _ _ c.requires c.of_pieces-board.ensures self.at_is self.d2_is c.saturating_sub-start.ensures c.from.ensures c.from-2.ensures in
    rw c.from_residual.ensures (leaves_none _ _ (c.in_err-reading.ensures ∙ ap read_of told))

pub returns-then-reading-self : goal.returns-then-reading-self
returns-then-reading-self c =
    let self = c.args.self.now in
    let told = nodes_told _ _ c.requires c.of_pieces-board.ensures self.at_is self.d2_is c.saturating_sub-start.ensures c.from.ensures c.from-2.ensures in
    leaves_left _ _ (c.in_ok-reading.ensures ∙ ap read_of told) (λ e. omega (arith, self.at_is))

pub returns : goal.returns
returns c =
    let self = c.args.self.now in
    let told = nodes_told _ _ c.requires c.of_pieces-board.ensures self.at_is self.d2_is c.saturating_sub-start.ensures c.from.ensures c.from-2.ensures in
    leaves_some _ _ (c.in_ok-reading.ensures ∙ ap read_of told) (omega (arith, self.at_is))
