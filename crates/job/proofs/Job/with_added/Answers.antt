use Rattle.std.proofs.Common.{rules}
use Rattle.job.proofs.Changed.{grown_done}
use Rattle.job.proofs.Job.with_added.Goals as goal

-- `Job::with_added` meets its contract.
pub returns : goal.returns
returns c = grown_done c.args.self _ (search rules) c.requires c.from.ensures c.tidied.ensures
