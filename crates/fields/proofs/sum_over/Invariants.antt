use Rattle.std.proofs.Common.{◌≡◌, take}
use Rattle.fields.specs.Sum.{running_sum}
use Rattle.fields.proofs.sum_over.Given as goal

-- `sum_over` meets its contract. The invariant: the sum is that of the bytes so far.
abbrev pub invariant-loop-byte : goal.invariant-loop-byte
invariant-loop-byte l = l.sum ≡ running_sum l.start (take l.byte-index l.s)
