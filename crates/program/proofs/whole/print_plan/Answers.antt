use Rattle.printing.proofs.Printed.{writes_both}
use Rattle.program.proofs.whole.print_plan.Goals as goal

-- `print_plan` meets its contract.
pub returns : goal.returns
returns c tree held = writes_both _ _ c.put_head.ensures (c.list_for.ensures tree held)
