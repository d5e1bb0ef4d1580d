use native.Mathlib.Omega.{arith}
use mathlib.Core.Path.{◌≡◌, sym}
use Rattle.laws.proofs.Says.{says_no}
use Rattle.board.proofs.Passing.{leads_says, unled_stop}
use lib.ListN.{length}
use Rattle.board.proofs.points.led.Goals as goal

-- `led`: the first step that is too large ends the search.
pub returns-then-c-step : goal.returns-then-c-step
returns-then-c-step c =
    sym (says_no (leads_says _ _ _ _) (unled_stop _ _ _ _ _ c.requires.rising c.loop-step.invariant (omega (arith, c.from-step.ensures))))

pub returns-then-marks-c : goal.returns-then-marks-c
returns-then-marks-c c =
    let read = c.from-step.ensures in
    sym
    ((leads_says _ _ _ _).found
    (record { index = c.loop-step.step-index; among = omega arith; tried = omega (arith, read); leaves = rw (← read) c.if-marks-c.true }))

pub returns : goal.returns
returns c =
    let end : c.loop-step.step-index ≡ length c.args.steps.now = omega arith in
    sym (says_no (leads_says _ _ _ _) (rw end at c.loop-step.invariant))
