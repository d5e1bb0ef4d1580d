use Rattle.job.proofs.Changed.{corrected_done}
use Rattle.job.proofs.Job.with_corrected.Goals as goal

-- `Job::with_corrected` meets its contract.
pub returns : goal.returns
returns c = corrected_done c.args.self c.tidied-job.ensures _ _ c.requires.few c.requires.number.0 c.requires.number.1
