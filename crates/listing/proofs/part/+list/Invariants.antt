use Prim.Native.Nat.{◌+◌}
use Rattle.listing.proofs.part.+list.Given as goal

-- Width plus height falls at each line.
abbrev pub decreases-list : goal.decreases-list
decreases-list l = l.section.width + l.section.height
