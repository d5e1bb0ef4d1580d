use Rattle.std.proofs.Common.{get_or, refl, ap, ◌∙◌, arith}
use Rattle.job.specs.Job.{no_record}
use Rattle.job.proofs.Changed.{removed_done}
use Rattle.job.proofs.Job.with_removed.Goals as goal

-- `Job::with_removed` meets its contract.
pub returns : goal.returns
returns c =
    removed_done c.args.self c.args.number c.copy_within.new.self c.requires.number.0 c.requires.number.1 refl c.copy_within.ensures.by_index.1
    (λ k h l. c.copy_within.ensures.by_index.0 k no_record h (omega arith) ∙ ap (λ i. get_or c.args.self.pieces i no_record) (omega arith))
    c.tidied.ensures
