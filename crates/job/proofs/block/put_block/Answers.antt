use Rattle.std.proofs.Common.{sym, arith}
use Rattle.job.specs.Job.{pieces_of}
use Rattle.job.proofs.Pieces.{pieces-length}
use Rattle.job.specs.Block.{bytes_of_head}
use Rattle.job.proofs.Blocks.{put_block_done}
use Rattle.job.proofs.block.put_block.Goals as goal

-- `block::put_block` meets its contract.
pub returns : goal.returns
unfolding bytes_of_head
returns c =
    let job = c.args.job.now in
    put_block_done _ _ _ (pieces_of job) (omega arith) (sym (pieces-length job)) c.put_three.ensures c.put_pieces.ensures
