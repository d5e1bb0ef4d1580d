use Rattle.std.proofs.Common.{refl}
use Rattle.checker.proofs.Stages.{sum_done}
use Rattle.checker.proofs.trailer.Trailer.sum_agrees.Goals as goal

-- `sum_agrees` meets its contract.
pub returns : goal.returns
returns c =
    sum_done _ c.args.self.now.framed c.note_length-start.ensures refl c.sum_of.ensures c.read.ensures
