use native.Mathlib.Omega.{arith}
use lib.Seq.{take_all}
use Rattle.printing.proofs.Printed.{writes_nothing, writes_as, writes_more}
use Rattle.printing.proofs.Text.put_word.Goals as goal

pub loop-byte-init : goal.loop-byte-init
loop-byte-init c = writes_nothing _

pub loop-byte-preserved : goal.loop-byte-preserved
loop-byte-preserved c = writes_more _ _ (omega arith) c.loop-byte.invariant c.put_byte.ensures

pub returns : goal.returns
returns c = writes_as (take_all _ _ (omega arith)) c.loop-byte.invariant
