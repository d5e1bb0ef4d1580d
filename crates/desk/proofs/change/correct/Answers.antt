use mathlib.Core.Path.{refl, ap, ◌∙◌}
use Rattle.desk.proofs.Granted.{correct_granted}
use Rattle.desk.proofs.Answers.{change_left, change_given, emptied_both}
use Rattle.desk.specs.Inner.{emptied_size, corrected_job, corrected_cells}
use Rattle.desk.proofs.change.correct.Goals as goal

-- `correct` answers and empties as it promises: the old size, then the new one.
pub returns-in_err-of_correct : goal.returns-in_err-of_correct
unfolding corrected_job corrected_cells
returns-in_err-of_correct c = change_left _ _ _ _ _ _ c.from_residual.ensures.1 c.in_err-of_correct.ensures

pub returns : goal.returns
unfolding corrected_job corrected_cells
returns c =
    let g = correct_granted _ _ _ _ c.in_ok-of_correct.ensures refl in
    let emptied = c.empty_size.ensures ∙ ap (λ r. emptied_size c.args.job r c.args.t.now) c.piece_of.ensures in
    change_given _ _ c.in_ok-of_correct.ensures refl c.with_corrected.ensures
    (emptied_both _ _ _ _ g.usable emptied c.empty_size-2.ensures)
