use Rattle.std.proofs.Common.{sym}
use Rattle.fields.proofs.Sum.{sum_none, sum_more}
use Rattle.fields.proofs.sum_over.Goals as goal

pub loop-byte-init : goal.loop-byte-init
loop-byte-init c = sym (sum_none _)

pub loop-byte-preserved : goal.loop-byte-preserved
loop-byte-preserved c = sum_more _ c.args.s.now _ c.loop-byte-test.true c.loop-byte.invariant c.sum_step-sum.ensures
