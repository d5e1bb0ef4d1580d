use Rattle.std.proofs.Common.{rules, ◌≢◌, ◌<◌, length, ◌∙◌, arith, below_more, length-set, get_or-set_other, get_or-set_same}
use Rattle.job.proofs.Blocks.{piece_in_lem, records_read, zeros_left}
use Rattle.job.proofs.Pieces.{is_no_record}
use Rattle.job.proofs.block.records_in.Goals as goal

pub loop-k-init : goal.loop-k-init
loop-k-init c = (search rules, λ k h. absurd (omega arith))

pub loop-k-preserved : goal.loop-k-preserved
loop-k-preserved c =
    let items = c.loop-k.record-items in
    let long = c.loop-k.invariant.0 in (
      length-set items c.loop-k.k c.piece_from.result ∙ long,
      below_more _ _
          (λ k h. let other : k ≢ c.loop-k.k = omega arith in rw get_or-set_other (c.loop-k.invariant.1 k h))
          (let inside : c.loop-k.k < length items = omega arith in
          rw get_or-set_same (piece_in_lem _ c.loop-k.k c.block_length.ensures c.piece_from.ensures)),
    )

pub returns : goal.returns
returns c =
    records_read c.args.s.now c.args.count c.loop-k.record-items _ c.requires.few c.loop-k.invariant.0
    (λ k h. c.loop-k.invariant.1 k (omega arith))
    (zeros_left 64 c.args.count (is_no_record c.default-records.ensures))
