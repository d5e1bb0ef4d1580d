use Rattle.std.proofs.Common.{rules}
use Rattle.job.proofs.Pieces.{is_no_record, tidied_done}
use Rattle.job.proofs.Job.tidied.Goals as goal

-- `Job::tidied` meets its contract.
pub returns : goal.returns
returns c = tidied_done c.args.self (search rules) c.requires c.from-count.ensures (is_no_record c.default.ensures) (c.fill.ensures.after (λ y h. h))
