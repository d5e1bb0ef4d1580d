use Prim.Native.Nat.{ℕ}
use mathlib.Core.Path.{◌≡◌}
use Rattle.board.specs.Inner.{Gives, mark_row, is_size}
use Rattle.board.proofs.points.mark_sizes.Given as goal

-- `mark_sizes`: the sizes so far are marked.
abbrev pub invariant-loop-piece : goal.invariant-loop-piece
invariant-loop-piece g l = (of : ℕ → ℕ) → Gives (goal.F-post g l.fn.size) l.pieces of → l.marks ≡ mark_row (is_size of l.piece-index l.side)
