use Rattle.std.proofs.Common.{refl}
use Rattle.listing.proofs.Section.below.Goals as goal

-- `Section::below` meets its contract.
pub returns : goal.returns
returns c = rw (c.part_width.ensures, c.part_height.ensures) refl
