use Rattle.std.proofs.Common.{sym, ◌∙◌, arith}
use Rattle.std.proofs.lemmas.Result.{err_from_is_err_and}
use Rattle.refusals.proofs.Numbers.{refused_with}
use Rattle.job.proofs.Blocks.{from_block_none, from_block_some}
use Rattle.desk.proofs.Words.{ask_exactly}
use Rattle.khonvertseg.specs.Calls.{WithBlock}
use Rattle.khonvertseg.proofs.ask_block.Goals as goal

-- `ask_block` meets its contract.
pub returns-in_err-ok_or : goal.returns-in_err-ok_or
returns-in_err-ok_or c =
    let p = err_from_is_err_and c.from_residual.result c.from_residual.ensures.1 in
    let none = c.in_err-ok_or.ensures in
    rw (p.1, p.2, refused_with _ none.value) (WithBlock.shapeless (from_block_none _ (sym none.ok_part ∙ c.from_block.ensures)))

pub returns : goal.returns
returns c =
    let asks = (ask_exactly _ _ _ _).0 c.ask.ensures in
    grind (arith, asks, from_block_some, WithBlock.shaped)
