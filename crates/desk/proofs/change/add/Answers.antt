use mathlib.Core.Path.{refl}
use Rattle.desk.proofs.Answers.{change_left, change_given}
use Rattle.desk.specs.Inner.{added_job, added_cells}
use Rattle.desk.proofs.change.add.Goals as goal

-- `add` answers and empties as it promises.
pub returns-in_err-of_add : goal.returns-in_err-of_add
unfolding added_job added_cells
returns-in_err-of_add c = change_left _ _ _ _ _ _ c.from_residual.ensures.1 c.in_err-of_add.ensures

pub returns : goal.returns
unfolding added_job added_cells
returns c = change_given _ _ c.in_ok-of_add.ensures refl c.with_added-after.ensures c.empty_size.ensures
