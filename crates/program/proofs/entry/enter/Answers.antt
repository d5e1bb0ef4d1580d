use Rattle.std.proofs.Common.{◌≡◌, ◌∙◌, ◌+◌, ap, arith}
use Rattle.program.specs.Entry.{begun, entered}
use Rattle.program.proofs.Entered.{entered_stopped, begun_more, begun_none, piece_read}
use Rattle.program.proofs.entry.enter.Goals as goal

-- `enter` meets its contract.
pub returns-in_err-job : goal.returns-in_err-job
returns-in_err-job c =
    let first = begun_none c.args.from.now c.args.cells.now c.from.ensures c.from-2.ensures in
    let given = c.in_err-job.ensures in
    let both = entered_stopped _ _ 0 _ _ (omega arith) (ap (λ k. k.refusal) (given.0 ∙ first.0)) (given.1 ∙ first.1) c.from_residual.ensures.1 in
    record { answer = both.0; cells_after = both.1 }

pub loop-piece-init : goal.loop-piece-init
loop-piece-init c =
    let first = begun_none c.args.from.now c.args.cells.now c.from.ensures c.from-2.ensures in
    (c.in_ok-job.ensures.0 ∙ first.0, c.in_ok-job.ensures.1 ∙ first.1)

pub loop-piece-preserved : goal.loop-piece-preserved
loop-piece-preserved c =
    let inv = c.loop-piece.invariant in
    let piece = piece_read c.args.from.now c.loop-piece.piece-index c.pieces-piece-items.ensures.records c.loop-piece-test.true in
    let more = begun_more c.args.from.now c.args.cells.now c.loop-piece.piece-index inv.0 inv.1 piece in
    (c.in_ok-job-2.ensures.0 ∙ more.0, c.in_ok-job-2.ensures.1 ∙ more.1)

pub returns-in_err-job-2 : goal.returns-in_err-job-2
returns-in_err-job-2 c =
    let inv = c.loop-piece.invariant in
    let piece = piece_read c.args.from.now c.loop-piece.piece-index c.pieces-piece-items.ensures.records c.loop-piece-test.true in
    let more = begun_more c.args.from.now c.args.cells.now c.loop-piece.piece-index inv.0 inv.1 piece in
    let given = c.in_err-job-2.ensures in
    let refusal = ap (λ k. k.refusal) (given.0 ∙ more.0) in
    let both = entered_stopped _ _ (c.loop-piece.piece-index + 1) _ _ (omega arith) refusal (given.1 ∙ more.1) c.from_residual-in_err-job-2.ensures.1 in
    record { answer = both.0; cells_after = both.1 }

pub returns : goal.returns
unfolding entered
returns c =
    let all : c.loop-piece.piece-index ≡ c.args.from.now.count = omega (arith, c.pieces-piece-items.ensures.many) in
    let after = ap (begun c.args.from.now c.args.cells.now) all in
    record { answer = c.loop-piece.invariant.0 ∙ ap (λ s. s.answer) after; cells_after = c.loop-piece.invariant.1 ∙ ap (λ s. s.cells) after }
