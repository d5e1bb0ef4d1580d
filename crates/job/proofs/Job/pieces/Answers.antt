use Rattle.std.proofs.Common.{ℕ, ap, take}
use Rattle.job.proofs.Job.pieces.Goals as goal

-- `Job::pieces` meets its contract.
pub returns-clause-records : goal.returns-clause-records
returns-clause-records c = ap (λ (n : ℕ). take n c.args.self.now.pieces) c.from.ensures
