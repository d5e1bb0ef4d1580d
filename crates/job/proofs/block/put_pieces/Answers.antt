use Rattle.std.proofs.Common.{arith}
use Rattle.job.specs.Block.{bytes_of_piece}
use Rattle.job.proofs.Blocks.{put_pieces_none, put_piece_more, put_pieces_end}
use Rattle.job.proofs.block.put_pieces.Goals as goal

pub loop-k-init : goal.loop-k-init
loop-k-init c = put_pieces_none _ _

pub loop-k-preserved : goal.loop-k-preserved
unfolding bytes_of_piece
loop-k-preserved c = put_piece_more _ _ c.loop-k.k (omega arith) c.block_length.ensures c.loop-k.invariant c.put_three.ensures

pub returns : goal.returns
returns c = put_pieces_end _ c.args.job.now c.loop-k.invariant c.pieces-piece-items.ensures.records (omega arith)
