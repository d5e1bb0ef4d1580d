use Rattle.std.proofs.Common.{◌∙◌, ap, arith}
use Rattle.laws.specs.ByIndex.{by_index}
use Rattle.job.specs.Block.{piece_in, BlockShape}
use Rattle.job.specs.Inner.{records_of}
use Rattle.job.proofs.Blocks.{from_block_no, from_block_yes, job_in_done}
use Rattle.job.proofs.block.from_block.Goals as goal

-- `block::from_block` meets its contract: there is a head, n is at most 64, the length is 6 + 6n.
pub returns-then-s-lt-HEAD_BYTES : goal.returns-then-s-lt-HEAD_BYTES
returns-then-s-lt-HEAD_BYTES c = from_block_no _ (λ h. absurd (omega (arith, h.head, c.if-s-lt-HEAD_BYTES.true)))

pub returns-then-count-gt-PIECES_MAX : goal.returns-then-count-gt-PIECES_MAX
returns-then-count-gt-PIECES_MAX c = from_block_no _ (λ h. absurd (omega (arith, h.most, c.read-count.ensures, c.if-count-gt-PIECES_MAX.true)))

pub returns-then-s-block_length : goal.returns-then-s-block_length
returns-then-s-block_length c =
    from_block_no _ (λ h. absurd (c.if-s-block_length.true (omega (arith, h.whole, c.block_length.ensures, c.from.ensures, c.read-count.ensures))))

pub returns : goal.returns
returns c =
    let s = c.args.s.now in
    let n = c.read-count.ensures in
    let shape : BlockShape s =
    record {
      head = omega arith;
      most = omega (arith, n);
      whole = omega (arith, c.if-s-block_length.false, c.block_length.ensures, c.from.ensures, n);
    } in
    from_block_yes s shape
    (job_in_done s c.read.ensures c.read-2.ensures n
    (c.records_in.ensures ∙ ap (λ n. records_of (by_index (piece_in s) n)) c.from-2.ensures))
