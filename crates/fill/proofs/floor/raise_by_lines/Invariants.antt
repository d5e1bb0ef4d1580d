use Rattle.std.proofs.Common.{◌-◌, true}
use Rattle.board.specs.Inner.{marked_at}
use Rattle.fill.specs.Inner.{cell_on, Columns}
use Rattle.fill.proofs.Floors.{lined}
use Rattle.fill.proofs.floor.raise_by_lines.Given as goal

-- `raise_by_lines`: the lines before d have been tried.
abbrev pub invariant-loop-d : goal.invariant-loop-d
invariant-loop-d l = Columns l.from l.x (lined (marked_at l.board true) (cell_on l.board l.t) l.w l.initial.floor (l.d - 1)) l.floor
