use mathlib.Core.Path.{refl, ap, ◌∙◌}
use Rattle.desk.proofs.Answers.{change_left, change_given}
use Rattle.desk.specs.Inner.{emptied_size, removed_job, removed_cells}
use Rattle.desk.proofs.change.remove.Goals as goal

-- `remove` answers and empties as it promises.
pub returns-in_err-of_remove : goal.returns-in_err-of_remove
unfolding removed_job removed_cells
returns-in_err-of_remove c = change_left _ _ _ _ _ _ c.from_residual.ensures.1 c.in_err-of_remove.ensures

pub returns : goal.returns
unfolding removed_job removed_cells
returns c =
    change_given _ _ c.in_ok-of_remove.ensures refl c.with_removed.ensures
    (c.empty_size.ensures ∙ ap (λ r. emptied_size c.args.job r c.args.t.now) c.piece_of.ensures)
