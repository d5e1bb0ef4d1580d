use Rattle.fields.specs.Number.{number2_of}
use Rattle.fields.proofs.U16Field.read.Goals as goal

-- `u16::read` meets its contract.
pub returns : goal.returns
unfolding number2_of
returns c = c.from_le_bytes.ensures
