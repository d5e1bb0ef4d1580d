use Rattle.std.proofs.Common.{◌+◌, ◌≡◌}
use Rattle.cells.specs.Inner.{emptied_where, patch}
use Rattle.cells.proofs.empty_where_fits.Given as goal

-- `cells::empty_where_fits` empties the cells where p by q fits. The loop's invariant: so it is in the rows before y.
abbrev pub invariant-loop-y : goal.invariant-loop-y
invariant-loop-y l = l.t ≡ emptied_where l.a l.b (patch l.p (l.a + 1) l.q l.y) l.initial.t
