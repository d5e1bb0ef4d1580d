use Rattle.std.proofs.Common.{[]}
use Rattle.job.proofs.Pieces.{is_job_of, are_zeros}
use Rattle.job.proofs.Job.new.Goals as goal

-- `Job::new` meets its contract.
pub returns : goal.returns
returns c = is_job_of _ _ _ [] c.default.ensures.1.1.0 (are_zeros c.default.ensures.1.1.1)
