use native.Mathlib.Omega.{arith}
use mathlib.Core.Logic.{⊎_elim}
use mathlib.Core.Path.{◌≡◌, ◌∙◌}
use lib.ListN.{length}
use Rattle.board.specs.Inner.{size_marks}
use Rattle.board.proofs.Marking.{sizes_none, sizes_set, sizes_skip}
use Rattle.board.proofs.points.mark_sizes.Goals as goal
use Rattle.board.proofs.points.mark_sizes.Goals.{then-own-ge1+then-own-side, else-own-ge1}

-- `mark_sizes`: a size that is no number of the side leaves the marks.
pub loop-piece-init : goal.loop-piece-init
loop-piece-init g c of gives = c.requires.blank ∙ sizes_none of _ c.requires.within

pub loop-piece-preserved : goal.loop-piece-preserved
loop-piece-preserved g c of gives =
    let is : c.from-own.result ≡ of c.loop-piece.piece-index = c.from-own.ensures ∙ gives _ _ (omega arith) c.size.ensures in
    let was = c.loop-piece.invariant of gives in
    elim c.if-own-ge1.branch [
      | then-own-ge1+then-own-side w ↦ w.marks-is ∙ sizes_set of _ c.requires.within _ was is (omega arith) (omega arith)
      | else-own-ge1 w ↦
          w.marks-is ∙ sizes_skip of _ c.requires.within _ was is (λ l m. ⊎_elim (λ h. omega (arith, h.1, m)) (λ h. omega (arith, h, l)) w.else-own-ge1.either)
    ]

pub returns : goal.returns
unfolding size_marks
returns g c of gives =
    let end : c.loop-piece.piece-index ≡ length c.args.pieces.now = omega arith in
    rw end at c.loop-piece.invariant of gives
