-- The area falls at each line: a part's measure is twice its area and 1, a line's is twice its area.
use Prim.Native.Nat.{◌+◌, ◌*◌}
use Rattle.nodes.proofs.Nodes.+read_line_read_part.Given as goal

abbrev pub decreases-read_line : goal.decreases-read_line
decreases-read_line l = 2 * (l.width * l.height)

abbrev pub decreases-read_part : goal.decreases-read_part
decreases-read_part l = 2 * (l.width * l.height) + 1
