use mathlib.Core.Path.{ap, ◌∙◌}
use Prim.Native.Nat.{max}
use native.Mathlib.Omega.{arith}
use Rattle.fill.proofs.Floors.{piece_low, piece_high}
use Rattle.fill.proofs.floor.raise_by_piece.Goals as goal

-- `raise_by_piece`: from the piece's width on, where its height fits.
pub returns-then-from-w : goal.returns-then-from-w
returns-then-from-w c =
    piece_high _ _ _ _ _ _ _ (c.max.ensures ∙ ap (max c.args.from) c.from-then-from-w.ensures)
    c.from-then-from-w-2.ensures (omega arith) c.raise_to.ensures

pub returns-else-from-w : goal.returns-else-from-w
returns-else-from-w c = piece_low _ _ _ _ _ _ _ (omega arith)
