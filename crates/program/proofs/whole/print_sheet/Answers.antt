use Rattle.std.proofs.Common.{ℕ, refl, sym, ap, ◌∙◌}
use Rattle.std.proofs.lemmas.List.{length-replicate}
use Rattle.refusals.specs.declared.Refusal.{Refusal}
use Rattle.refusals.specs.Refusals.{number}
use Rattle.listing.specs.Line.{refused_text}
use Rattle.refusals.proofs.Numbers.{refused_with}
use Rattle.printing.proofs.Printed.{writes_as}
use Rattle.program.specs.Sizes.{plan_room}
use Rattle.program.specs.Program.{new_table, plan_text, tree_lines}
use Rattle.program.proofs.Texts.{text_left, block_none, block_some, block_few, entered_refused_text, entered_text_lem, ask_refused_text, ask_answered_text, plan_refused_text, plan_range, plan_held, plan_written_text}
use Rattle.program.proofs.whole.print_sheet.Goals as goal

-- `print_sheet` meets its contract.
pub returns-in_err-from : goal.returns-in_err-from
returns-in_err-from c =
    let none = c.in_err-from.ensures in
    let text = block_none _ (sym c.from_block.ensures ∙ none.ok_part) in
    text_left _ _ _ c.from_residual.ensures.1 (text ∙ ap (λ (r : Refusal). refused_text (number r)) (sym (refused_with _ none.value)))

pub enter-requires : goal.enter-requires
enter-requires c = block_few _ (sym c.in_ok-from.ensures.ok_part ∙ c.from_block.ensures)

pub returns-in_err-job : goal.returns-in_err-job
unfolding new_table
returns-in_err-job c =
    let from = block_some _ (sym c.from_block.ensures ∙ c.in_ok-from.ensures.ok_part) in
    text_left _ _ _ c.from_residual-in_err-job.ensures.1 (sym from ∙ entered_refused_text _ _ c.in_err-job.ensures.answer refl)

pub returns-in_err-answer : goal.returns-in_err-answer
unfolding new_table
returns-in_err-answer c =
    let from = block_some _ (sym c.from_block.ensures ∙ c.in_ok-from.ensures.ok_part) in
    let entered = entered_text_lem _ c.in_ok-job.ensures.answer c.in_ok-job.ensures.cells_after refl ∙ from in
    text_left _ _ _ c.from_residual-in_err-answer.ensures.1
    (sym entered ∙ sym (ask_refused_text _ _ c.from-width.ensures c.from-height.ensures c.in_err-answer.ensures.0))

pub returns-in_err-plan : goal.returns-in_err-plan
unfolding new_table
returns-in_err-plan c =
    let from = block_some _ (sym c.from_block.ensures ∙ c.in_ok-from.ensures.ok_part) in
    let entered = entered_text_lem _ c.in_ok-job.ensures.answer c.in_ok-job.ensures.cells_after refl ∙ from in
    let asked = ask_answered_text _ _ c.from-width.ensures c.from-height.ensures c.in_ok-answer.ensures.0 c.in_ok-answer.ensures.1 ∙ entered in
    let room = length-replicate {A = ℕ} plan_room 0 in
    text_left _ _ _ c.from_residual-in_err-plan.ensures.1
    (sym asked ∙ sym (plan_refused_text _ _ c.from-width.ensures c.from-height.ensures _ _ c.in_err-plan.ensures.0 room))

pub print_plan-requires : goal.print_plan-requires
print_plan-requires c =
    plan_range _ _ c.from-width.ensures c.from-height.ensures c.in_ok-plan.ensures.0 (length-replicate {A = ℕ} plan_room 0)

pub returns : goal.returns
unfolding new_table plan_text tree_lines
returns c =
    let from = block_some _ (sym c.from_block.ensures ∙ c.in_ok-from.ensures.ok_part) in
    let entered = entered_text_lem _ c.in_ok-job.ensures.answer c.in_ok-job.ensures.cells_after refl ∙ from in
    let asked = ask_answered_text _ _ c.from-width.ensures c.from-height.ensures c.in_ok-answer.ensures.0 c.in_ok-answer.ensures.1 ∙ entered in
    let plan = c.in_ok-plan.ensures in
    let room = length-replicate {A = ℕ} plan_room 0 in
    let held = plan_held _ _ c.from-width.ensures c.from-height.ensures plan.0 room _ refl plan.1 in
    writes_as (plan_written_text _ _ c.from-width.ensures c.from-height.ensures plan.0 room _ _ ∙ asked) (c.print_plan.ensures _ held)
