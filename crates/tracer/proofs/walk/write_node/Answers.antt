use lib.ListN.{length-set}
use native.Mathlib.Omega.{arith}
use Rattle.tracer.proofs.Wrote.{wrote_node}
use Rattle.tracer.proofs.walk.write_node.Goals as goal

-- `write_node`: the letter, and behind it the number. The first is answered so that the edit past_its_length is refused there.
pub put-requires : goal.put-requires
put-requires c = simp length-set (omega arith)

pub returns : goal.returns
returns c = wrote_node _ _ c.requires c.put.ensures
