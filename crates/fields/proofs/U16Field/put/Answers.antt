use Rattle.std.proofs.Common.{◌∙◌}
use Rattle.fields.proofs.Number.{put_bytes2}
use Rattle.fields.proofs.U16Field.put.Goals as goal

-- `u16::put` meets its contract.
pub returns : goal.returns
returns c = put_bytes2 _ _ _ (c.copy_from_slice.ensures.after ∙ c.to_le_bytes.ensures)
