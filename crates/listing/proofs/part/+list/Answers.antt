use mathlib.Core.Path.{sym, ap, ◌∙◌}
use mathlib.Core.Logic.{⊎_elim}
use native.Mathlib.Omega.{arith}
use Rattle.std.specs.Prelude.{Some}
use Rattle.nodes.proofs.Rules.{node_tells}
use Rattle.printing.proofs.Printed.{writes_as}
use Rattle.listing.specs.Inner.{node_text}
use Rattle.listing.proofs.Parts.{near_may, far_may}
use Rattle.listing.proofs.Texts.{lists_none, lists_unread, lists_piece, lists_scrap, lists_line, lists_near_none}
use Rattle.listing.proofs.part.+list.Goals as goal

pub returns-in_err-node : goal.returns-in_err-node
returns-in_err-node t c = lists_none _ _ c.requires (sym c.in_err-node.ensures)

pub returns-in_err-read : goal.returns-in_err-read
returns-in_err-read t c = lists_unread _ _ c.requires c.in_err-read.ensures

pub rest-far-requires : goal.rest-far-requires
rest-far-requires t c =
    let found = sym c.in_ok-node.ensures ∙ ap Some c.in-Line.is in
    omega (arith, (node_tells _ _ _ found).1.most, c.from-near.ensures, c.crossed.ensures)

pub overflow_add-section : goal.overflow_add-section
overflow_add-section t c =
    let found = sym c.in_ok-node.ensures ∙ ap Some c.in-Line.is in
    omega (arith, (node_tells _ _ _ found).0.whole)

pub list-requires : goal.list-requires
list-requires t c =
    let found = sym c.in_ok-node.ensures ∙ ap Some c.in-Line.is in
    near_may c.requires _ _ c.decreases (node_tells _ _ _ found).1 c.from-near.ensures c.below.ensures

pub returns-in_err-middle-in-Line : goal.returns-in_err-middle-in-Line
returns-in_err-middle-in-Line t c =
    let found = sym c.in_ok-node.ensures ∙ ap Some c.in-Line.is in
    lists_near_none _ _ c.requires c.in_ok-read.ensures found c.from-near.ensures c.below.ensures c.list.ensures (sym c.in_err-middle-in-Line.was)

pub list-requires-in-Line : goal.list-requires-in-Line
list-requires-in-Line t c =
    let found = sym c.in_ok-node.ensures ∙ ap Some c.in-Line.is in
    far_may c.requires _ _ c.decreases (node_tells _ _ _ found).1
    c.from-near.ensures c.crossed.ensures c.rest-far.ensures c.below-in-Line.ensures

pub returns-in_ok-middle-in-Line : goal.returns-in_ok-middle-in-Line
returns-in_ok-middle-in-Line t c =
    let found = sym c.in_ok-node.ensures ∙ ap Some c.in-Line.is in
    lists_line _ _ c.requires c.in_ok-read.ensures found c.from-near.ensures c.below.ensures c.list.ensures
    c.in_ok-middle-in-Line.was c.crossed.ensures c.rest-far.ensures c.below-in-Line.ensures
    (writes_as (ap (node_text _ _) c.in-Line.is) c.put_node.ensures) c.list-in-Line.ensures

pub returns-in-Piece : goal.returns-in-Piece
returns-in-Piece t c =
    ⊎_elim
    (λ is.
    lists_piece _ _ c.requires c.in_ok-read.ensures (sym c.in_ok-node.ensures ∙ ap Some is.1) (writes_as (ap (node_text _ _) is.1) c.put_node.ensures))
    (λ is.
    lists_scrap _ _ c.requires c.in_ok-read.ensures (sym c.in_ok-node.ensures ∙ ap Some is) (writes_as (ap (node_text _ _) is) c.put_node.ensures))
    c.in-Piece.is
