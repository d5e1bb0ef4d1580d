use mathlib.Core.Path.{refl}
use native.Mathlib.Omega.{arith}
use Rattle.printing.proofs.Printed.{printed_one, printed_none}
use Rattle.printing.proofs.Text.put_byte.Goals as goal

-- `put_byte`: one byte, or no room.
pub returns-then-self : goal.returns-then-self
returns-then-self c = record { row = refl; printed = printed_one _ (omega arith) refl }

pub returns-else-self : goal.returns-else-self
returns-else-self c = record { row = refl; printed = printed_none _ (omega arith) }
