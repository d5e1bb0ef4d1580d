use Rattle.std.proofs.Common.{arith, rules, ◌∙◌, ap}
use Rattle.job.specs.Inner.{from_block}
use Rattle.checker.specs.Inner.{agreed}
use Rattle.checker.proofs.Stages.{block_done, filtered}
use Rattle.checker.proofs.trailer.Trailer.job.Goals as goal

-- `job` meets its contract: the bytes are those of the job block.
pub returns : goal.returns
returns c =
    filtered _ _ (λ x b p. search (rules, p)) c.filter.ensures
    ∙ ap agreed (c.from_block.ensures ∙ ap from_block (block_done _ c.note_length-start.ensures (omega arith)))
