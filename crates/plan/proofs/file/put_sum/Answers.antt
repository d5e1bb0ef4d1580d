use Rattle.plan.proofs.Writing.{sum-put}
use Rattle.plan.proofs.file.put_sum.Goals as goal

-- `put_sum` meets its contract.

pub returns : goal.returns
returns c = sum-put _ _ c.sum_of-sum.ensures c.put.ensures
