use mathlib.Core.Path.{refl}
use Rattle.desk.proofs.Answers.{asked_left, asked_given, read_at}
use Rattle.desk.specs.Inner.{asked, asked_cells}
use Rattle.desk.proofs.question.ask.Goals as goal

-- `ask` answers and fills as it promises.
pub returns-in_err-of_ask : goal.returns-in_err-of_ask
unfolding asked asked_cells
returns-in_err-of_ask c = asked_left _ _ _ _ _ _ c.from_residual.ensures.1 c.in_err-of_ask.ensures

pub returns : goal.returns
unfolding asked asked_cells
returns c =
    asked_given _ c.in_ok-of_ask.ensures refl
    (read_at _ _ c.cell-value.ensures c.from.ensures c.fill_for-worked.ensures.after) c.fill_for-worked.ensures.worked c.fill_for-worked.ensures.after
