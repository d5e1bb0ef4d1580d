use Rattle.board.specs.Inner.{mark_at, step_at}
use Rattle.board.proofs.Passing.{Unled}
use Rattle.board.proofs.points.led.Given as goal

-- `led`: none of the steps so far leads to c.
abbrev pub invariant-loop-step : goal.invariant-loop-step
invariant-loop-step l = Unled (mark_at l.marks) (step_at l.steps) l.step-index l.c
