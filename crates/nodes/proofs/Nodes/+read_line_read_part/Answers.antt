-- `read_part`: a leaf by itself, a line with its two parts. `read_line`: the near part, and the far one from where it ends.
use Prim.Native.Nat.{◌-◌}
use mathlib.Core.Path.{refl, sym, ap, ap₂, ◌∙◌}
use native.Mathlib.Omega.{arith}
use Rattle.std.specs.Prelude.{Some}
use Rattle.nodes.specs.Inner.{ReadsTo, part_by, tally, behind_leaf}
use Rattle.nodes.proofs.Rules.{node_tells}
use Rattle.nodes.proofs.Room.{part_is, piece_room}
use Rattle.nodes.proofs.Answers.{near_broken, far_ready, far_answers, node_answers}
use Rattle.nodes.proofs.Nodes.+read_line_read_part.Goals as goal

pub read_line-returns-in_err-read_part : goal.read_line-returns-in_err-read_part
read_line-returns-in_err-read_part t c =
    rw c.from_residual.ensures
    (near_broken _ _ (part_is c.from-near.ensures c.part_width.ensures c.part_height.ensures) _ _ c.in_err-read_part.ensures)

pub read_line-read_part-requires-2 : goal.read_line-read_part-requires-2
read_line-read_part-requires-2 t c =
    let far = c.rest-far.ensures ∙ ap₂ ◌-◌ c.crossed.ensures c.from-near.ensures in
    far_ready _ _ (part_is c.from-near.ensures c.part_width.ensures c.part_height.ensures) _ _ c.in_ok-read_part.ensures
    (part_is far c.part_width-2.ensures c.part_height-2.ensures) c.requires c.decreases

pub read_line-returns : goal.read_line-returns
read_line-returns t c =
    let far = c.rest-far.ensures ∙ ap₂ ◌-◌ c.crossed.ensures c.from-near.ensures in
    far_answers _ _ (part_is c.from-near.ensures c.part_width.ensures c.part_height.ensures) _ _ c.in_ok-read_part.ensures
    (part_is far c.part_width-2.ensures c.part_height-2.ensures) c.read_part-2.ensures

pub read_part-returns-in_err-node : goal.read_part-returns-in_err-node
unfolding part_by
read_part-returns-in_err-node t c =
    rw c.from_residual.ensures (node_answers _ _ _ (sym c.in_err-node.ensures) (ReadsTo.broken refl))

pub read_part-overflow_add-reading : goal.read_part-overflow_add-reading
read_part-overflow_add-reading t c =
    let found = sym c.in_ok-node.ensures ∙ ap Some c.in-Line.is in
    omega (arith, (node_tells _ _ _ found).0.whole)

pub read_part-read_line-requires : goal.read_part-read_line-requires
read_part-read_line-requires t c =
    let found = sym c.in_ok-node.ensures ∙ ap Some c.in-Line.is in
    (omega arith, record { part = c.requires; line = (node_tells _ _ _ found).1 })

pub read_part-piece_leaf-requires-clause-numbered : goal.read_part-piece_leaf-requires-clause-numbered
read_part-piece_leaf-requires-clause-numbered t c =
    let found = sym c.in_ok-node.ensures ∙ ap Some c.in-Piece.is in
    (node_tells _ _ _ found).1

pub read_part-add_leaf-requires-clause-place : goal.read_part-add_leaf-requires-clause-place
read_part-add_leaf-requires-clause-place t c =
    let found = sym c.in_ok-node.ensures ∙ ap Some c.in-Piece.is in
    omega (arith, (node_tells _ _ _ found).0.whole)

pub read_part-add_leaf-requires-clause-room : goal.read_part-add_leaf-requires-clause-room
read_part-add_leaf-requires-clause-room t c =
    let found = sym c.in_ok-node.ensures ∙ ap Some c.in-Piece.is in
    rw c.piece_leaf.ensures (piece_room c.requires (node_tells _ _ _ found).1)

pub read_part-add_leaf-requires-in-Scrap-clause-place : goal.read_part-add_leaf-requires-in-Scrap-clause-place
read_part-add_leaf-requires-in-Scrap-clause-place t c =
    let found = sym c.in_ok-node.ensures ∙ ap Some c.in-Scrap.is in
    omega (arith, (node_tells _ _ _ found).whole)

pub read_part-returns-in-Line : goal.read_part-returns-in-Line
unfolding part_by
read_part-returns-in-Line t c =
    let found = sym c.in_ok-node.ensures ∙ ap Some c.in-Line.is in
    node_answers _ _ _ found c.read_line.ensures

pub read_part-returns-in-Piece : goal.read_part-returns-in-Piece
unfolding part_by
read_part-returns-in-Piece t c =
    let found = sym c.in_ok-node.ensures ∙ ap Some c.in-Piece.is in
    node_answers _ _ _ found (ReadsTo.read refl (c.add_leaf.ensures ∙ ap (behind_leaf _) c.piece_leaf.ensures))

pub read_part-returns-in-Scrap : goal.read_part-returns-in-Scrap
unfolding part_by
read_part-returns-in-Scrap t c =
    let found = sym c.in_ok-node.ensures ∙ ap Some c.in-Scrap.is in
    node_answers _ _ _ found (ReadsTo.read refl (c.add_leaf-in-Scrap.ensures ∙ ap (λ a. behind_leaf c.args.reading.now (tally 0 0 a)) c.area.ensures))
