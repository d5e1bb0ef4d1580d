use lib.ListN.{take}
use Rattle.printing.specs.Inner.{Writes}
use Rattle.printing.proofs.Text.put_word.Given as goal

-- The bytes before the index are written.
abbrev pub invariant-loop-byte : goal.invariant-loop-byte
invariant-loop-byte l = Writes l.initial.self (take l.byte-index l.word) l.self
