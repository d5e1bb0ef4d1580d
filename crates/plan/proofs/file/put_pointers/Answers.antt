use native.Mathlib.Omega.{arith}
use Rattle.fields.specs.Number.{bytes4}
use Rattle.fields.proofs.Number.{bytes4-length, put_three}
use Rattle.plan.proofs.file.put_pointers.Goals as goal

-- `put_pointers` meets its contract: three numbers of four bytes, one behind the other.
pub returns : goal.returns
returns c =
    put_three 4 bytes4 bytes4-length _ _ _ _ _ (omega arith) c.put.ensures c.put-2.ensures c.put-3.ensures
