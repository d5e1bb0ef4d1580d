use Rattle.fill.specs.Inner.{Columns}
use Rattle.fill.proofs.Floors.{pieces_up_to}
use Rattle.fill.proofs.floor.raise_by_pieces.Given as goal

-- `raise_by_pieces`: the pieces so far have been laid.
abbrev pub invariant-loop-piece : goal.invariant-loop-piece
invariant-loop-piece l = Columns l.from l.x (pieces_up_to l.board l.w l.piece-index) l.floor
