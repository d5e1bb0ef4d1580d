use Rattle.std.proofs.Common.{arith}
use Rattle.fields.specs.Number.{bytes2}
use Rattle.fields.specs.Inner.{bytes2-length}
use Rattle.fields.proofs.Number.{put_three}
use Rattle.job.proofs.block.put_three.Goals as goal

-- `block::put_three` meets its contract.
pub returns : goal.returns
returns c = put_three 2 bytes2 bytes2-length _ _ _ _ _ (omega arith) c.put.ensures c.put-2.ensures c.put-3.ensures
