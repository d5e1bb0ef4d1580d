use Rattle.std.proofs.Common.{◌∙◌}
use Rattle.fields.proofs.Number.{put_bytes4}
use Rattle.fields.proofs.U32Field.put.Goals as goal

-- `u32::put` meets its contract.
pub returns : goal.returns
returns c = put_bytes4 _ _ _ (c.copy_from_slice.ensures.after ∙ c.to_le_bytes.ensures)
