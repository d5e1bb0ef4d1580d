use Prim.Native.Nat.{ℕ, ◌+◌, ◌≤◌}
use lib.ListN.{length}
use Rattle.board.specs.Inner.{Gives}
use Rattle.board.proofs.Marking.{Ascending, PassBefore}
use Rattle.board.proofs.points.mark.Given as goal

-- `mark`: the sizes, then the pass over the numbers up to the side.
abbrev pub invariant-loop-last : goal.invariant-loop-last
invariant-loop-last g l =
    (l.last ≤ l.side + 1) × Ascending l.last l.steps
    × ((of : ℕ → ℕ) → Gives (goal.F-post g l.fn.size) l.pieces of → PassBefore of (length l.pieces) l.side l.last l.marks l.steps)
