use Rattle.std.proofs.Common.{◌-◌, ◌≡◌}
use Rattle.cells.specs.Box.{is_empty, count_in_row}
use Rattle.board.specs.Inner.{width_on}
use Rattle.fill.specs.Inner.{filled_on}
use Rattle.fill.proofs.fill_columns.Given as goal

-- `fill_columns`: the cells of the row before column u are done.
abbrev pub invariant-loop-u : goal.invariant-loop-u
invariant-loop-u l =
    (l.t ≡ filled_on l.board (l.u - 1) l.w l.initial.t) × (l.worked ≡ count_in_row (l.u - 1) l.w (is_empty (width_on l.board) l.initial.t))
