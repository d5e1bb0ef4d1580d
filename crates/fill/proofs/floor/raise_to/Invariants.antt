use Prim.Native.Nat.{◌+◌, ◌≤◌, max}
use Rattle.fill.proofs.Floors.{RaisedTo}
use Rattle.fill.proofs.floor.raise_to.Given as goal

-- `raise_to`: the columns before u have been raised.
abbrev pub invariant-loop-u : goal.invariant-loop-u
invariant-loop-u l =
    (l.u ≤ max l.from (l.x + 1)) × RaisedTo l.from l.u (λ j. l.value) l.initial.floor l.floor
