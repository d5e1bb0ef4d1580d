use Rattle.printing.proofs.Printed.{writes_both}
use Rattle.listing.proofs.line.put_number.Goals as goal

pub returns : goal.returns
returns c = writes_both _ _ c.put_decimal.ensures c.put_byte.ensures
