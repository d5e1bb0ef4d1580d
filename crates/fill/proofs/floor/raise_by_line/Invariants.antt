use Prim.Native.Nat.{◌+◌, ◌≤◌, max}
use Rattle.fill.specs.Inner.{parts_on}
use Rattle.fill.proofs.Floors.{RaisedTo}
use Rattle.fill.proofs.floor.raise_by_line.Given as goal

-- `raise_by_line`: the columns before u have been raised.
abbrev pub invariant-loop-u : goal.invariant-loop-u
invariant-loop-u l =
    (l.u ≤ max l.from (l.x + 1)) × RaisedTo l.from l.u (parts_on l.board l.t l.w l.d) l.initial.floor l.floor
