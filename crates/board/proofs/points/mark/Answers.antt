use Prim.Native.Nat.{ℕ}
use native.Mathlib.Omega.{arith}
use mathlib.Core.Path.{◌∙◌}
use lib.ListN.{length}
use Rattle.board.specs.Inner.{Gives}
use Rattle.board.proofs.Marking.{Further, passing_start, passing_end, pass_on, ascending_none, ascending_same, ascending_more}
use Rattle.board.proofs.points.mark.Goals as goal
use Rattle.board.proofs.points.mark.Goals.{then-led, else-led+then-marks-last, else-led+else-marks-last}

-- `mark`: a turn goes on where a step leads to the number, where it is a size, or where it is neither.
pub loop-last-init : goal.loop-last-init
loop-last-init g c = rw c.new-steps.ensures (omega arith, ascending_none, λ of gives. passing_start (c.mark_sizes.ensures of gives))

pub loop-last-preserved : goal.loop-last-preserved
loop-last-preserved g c =
    let further : (of : ℕ → ℕ) → Gives (goal.F-post g c.args.size) c.args.pieces.now of
    → Further of (length c.args.pieces.now) c.args.side c.loop-last.last c.loop-last.marks c.loop-last.steps c.led.result =
    λ of gives. pass_on c.requires.within (c.loop-last.invariant.2 of gives) (omega arith) c.as_slice.ensures c.led.ensures in
    elim c.if-led.branch [
      | then-led w ↦ (omega arith, ascending_same c.loop-last.invariant.1 w.steps-is, λ of gives. (further of gives).led w.if-led.true w.marks-is w.steps-is)
      | else-led+then-marks-last w ↦
          let grown = w.steps-is ∙ w.push.ensures in
          (omega arith, ascending_more c.loop-last.invariant.1 grown, λ of gives. (further of gives).size w.if-led.false w.if-marks-last.true w.marks-is grown)
      | else-led+else-marks-last w ↦
          let none = w.if-marks-last.false in
          (omega arith, ascending_same c.loop-last.invariant.1 w.steps-is, λ of gives. (further of gives).none w.if-led.false none w.marks-is w.steps-is)
    ]

pub returns : goal.returns
returns g c of gives = passing_end (c.loop-last.invariant.2 of gives) (omega (arith, c.loop-last.invariant.0))

pub returns-after-led : goal.returns-after-led
returns-after-led g c of gives =
    let further = pass_on c.requires.within (c.loop-last.invariant.2 of gives) (omega arith) c.as_slice.ensures c.led.ensures in
    elim c.if-led.branch [
      | then-led w ↦ passing_end (further.led w.if-led.true w.marks-is w.steps-is) (omega arith)
      | else-led+then-marks-last w ↦ passing_end (further.size w.if-led.false w.if-marks-last.true w.marks-is (w.steps-is ∙ w.push.ensures)) (omega arith)
      | else-led+else-marks-last w ↦ passing_end (further.none w.if-led.false w.if-marks-last.false w.marks-is w.steps-is) (omega arith)
    ]
