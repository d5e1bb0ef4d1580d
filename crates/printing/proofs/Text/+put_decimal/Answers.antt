use native.Mathlib.Omega.{arith}
use Rattle.printing.proofs.Decimal.{writes_digit, writes_digits}
use Rattle.printing.proofs.Text.+put_decimal.Goals as goal

pub returns-then-n-lt10 : goal.returns-then-n-lt10
returns-then-n-lt10 t c = writes_digit _ (omega arith) c.digit.ensures c.put_byte.ensures

pub returns : goal.returns
returns t c = writes_digits _ (omega arith) c.digit-2.ensures c.put_decimal.ensures c.put_byte-2.ensures
