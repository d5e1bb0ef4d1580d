use Rattle.std.proofs.Common.{◌+◌, ◌≡◌}
use Rattle.cells.specs.Inner.{emptied_where, patch}
use Rattle.cells.proofs.empty_row.Given as goal

-- `cells::empty_row` empties row y from column p on. The loop's invariant: so it is before column x.
abbrev pub invariant-loop-x : goal.invariant-loop-x
invariant-loop-x l = l.t ≡ emptied_where l.a l.y (patch l.p l.x l.y (l.y + 1)) l.initial.t
