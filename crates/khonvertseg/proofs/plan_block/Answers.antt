use native.Mathlib.Omega.{arith}
use Rattle.job.proofs.Blocks.{from_block_none, from_block_some}
use Rattle.plan.proofs.Plans.{plan_exactly}
use Rattle.khonvertseg.specs.Calls.{WithBlock}
use Rattle.khonvertseg.proofs.plan_block.Goals as goal

-- `plan_block` meets its contract.
pub returns-in_err-ok_or : goal.returns-in_err-ok_or
returns-in_err-ok_or c = grind (arith, from_block_none, WithBlock.shapeless)

pub returns : goal.returns
returns c =
    let plans = (plan_exactly _ _ _ _ _).0 c.plan.ensures in
    grind (arith, plans, from_block_some, WithBlock.shaped)
