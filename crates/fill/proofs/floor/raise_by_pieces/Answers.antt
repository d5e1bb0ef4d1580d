use native.Mathlib.Omega.{arith}
use Rattle.fill.proofs.Floors.{pieces_none, pieces_more}
use Rattle.fill.proofs.floor.raise_by_pieces.Goals as goal

pub loop-piece-init : goal.loop-piece-init
loop-piece-init c = pieces_none c.args.board.now _ _ _ _ c.requires.columns

pub loop-piece-preserved : goal.loop-piece-preserved
loop-piece-preserved c = pieces_more c.args.board.now _ _ _ _ c.pieces-piece-items.ensures.records (omega arith) c.loop-piece.invariant c.raise_by_piece.ensures
