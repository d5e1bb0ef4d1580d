use Rattle.std.proofs.Common.{◌-◌, ◌≡◌}
use Rattle.cells.specs.Box.{is_empty, count_in_box}
use Rattle.board.specs.Inner.{width_on}
use Rattle.fill.specs.Inner.{filled_on}
use Rattle.fill.proofs.fill_box.Given as goal

-- `fill_box`: the loop's invariant is that the rows of the box before w are done.
abbrev pub invariant-loop-w : goal.invariant-loop-w
invariant-loop-w l =
    (l.t ≡ filled_on l.board l.x (l.w - 1) l.initial.t) × (l.worked ≡ count_in_box l.x (l.w - 1) (is_empty (width_on l.board) l.initial.t))
