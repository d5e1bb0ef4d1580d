use Rattle.std.proofs.Common.{arith, rules}
use Rattle.cutting.specs.Piece.{Inside}
use Rattle.cells.specs.Cells.{place}
use Rattle.cells.proofs.Places.{place_below}
use Rattle.cells.proofs.place.Goals as goal

-- `cells::place` is the index of rule 4.1, and nothing overflows within 240 by 240.
pub returns : goal.returns
unfolding place
returns c =
    let last : Inside c.args.x c.args.y c.args.a c.args.y = omega arith in
    record { is = search rules; below = place_below last }
