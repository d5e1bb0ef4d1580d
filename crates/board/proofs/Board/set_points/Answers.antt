use native.Mathlib.Omega.{arith}
use mathlib.Core.Path.{◌≡◌, refl, ap, ◌∙◌}
use lib.ListN.{length, take}
use Rattle.std.proofs.Common.{rules}
use Rattle.std.proofs.lemmas.List.{length-take-le}
use Rattle.job.specs.declared.Piece.{Piece as Record}
use Rattle.board.specs.declared.Board.{Board}
use Rattle.board.specs.Inner.{count_on, width_at, height_at, marks_of, with_points}
use Rattle.board.proofs.Laid.{same_board, first_record}
use Rattle.board.proofs.Board.set_points.Goals as goal

-- `set_points`: the sizes for P are the widths of the pieces, and those for Q the heights.
pub returns : goal.returns
unfolding with_points
returns c =
    let board : Board = c.args.self.now in
    let n = c.count-n.result in
    let many : length (take n board.pieces) ≡ count_on board = length-take-le n board.pieces (omega (arith, c.count-n.ensures)) ∙ c.count-n.ensures in
    let across : c.mark.new.marks ≡ (with_points board).across =
    c.mark.ensures (width_at board) (λ k r h p. (search rules) ∙ ap (λ (t : Record). t.width) (first_record n board.pieces k h))
    ∙ (λ i. marks_of (width_at board) (many i) (c.width-width.ensures i)) in
    let up : c.mark-2.new.marks ≡ (with_points board).up =
    c.mark-2.ensures (height_at board) (λ k r h p. (search rules) ∙ ap (λ (t : Record). t.height) (first_record n board.pieces k h))
    ∙ (λ i. marks_of (height_at board) (many i) (c.height-height.ensures i)) in
    same_board _ (with_points board) refl refl refl refl across up
