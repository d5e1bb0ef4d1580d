use Rattle.std.proofs.Common.{ℕ, ◌+◌, ◌*◌, sym, ap, ◌∙◌, arith}
use Rattle.cells.proofs.Box.{any_in_row_none, column_more, row_asked}
use Rattle.cells.proofs.row_has.Goals as goal

pub loop-value-init : goal.loop-value-init
loop-value-init g c = (λ test answers. sym (any_in_row_none _ _), omega arith)

pub loop-value-preserved : goal.loop-value-preserved
loop-value-preserved g c =
    let cell = c.row-value-items.ensures.cells c.loop-value.value-index (omega arith) in
    let most = ap (λ (n : ℕ). c.loop-value.most + c.args.w * n) c.from.ensures ∙ column_more _ c.args.w c.loop-value.invariant.1 in (
      λ test answers. row_asked test _ _ _ _ (c.loop-value.invariant.0 test answers) (answers _ _ _ c.sought-found.ensures) cell most,
      most,
    )
