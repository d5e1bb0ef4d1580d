use mathlib.Core.Path.{refl}
use Rattle.desk.proofs.Answers.{change_left, change_given}
use Rattle.desk.specs.Inner.{opened, opened_cells}
use Rattle.desk.proofs.change.open.Goals as goal

-- `open` answers and empties as it promises.
pub returns-in_err-of_open : goal.returns-in_err-of_open
unfolding opened opened_cells
returns-in_err-of_open c = change_left _ _ _ _ _ _ c.from_residual.ensures.1 c.in_err-of_open.ensures

pub returns : goal.returns
unfolding opened opened_cells
returns c = change_given _ _ c.in_ok-of_open.ensures refl c.new-fresh.ensures c.empty_where_fits.ensures
