use native.Mathlib.Omega.{arith}
use mathlib.Core.Path.{refl, ◌∙◌}
use mathlib.Core.List.{◌++◌}
use Prim.Native.Nat.{◌-◌}
use lib.ListN.{replicate}
use Rattle.std.proofs.lemmas.List.{drop-replicate}
use Rattle.job.proofs.Pieces.{is_no_record}
use Rattle.board.specs.Inner.{entries, pieces_board}
use Rattle.board.proofs.Laid.{same_board}
use Rattle.board.proofs.Board.of_pieces.Goals as goal

-- `of_pieces`: the job's first records, and blank ones behind.
pub returns : goal.returns
unfolding pieces_board
returns c =
    let blank = drop-replicate c.from.result entries c.default-pieces.result ∙ (λ i. replicate (entries - c.from.ensures i) (is_no_record c.default-pieces.ensures i)) in
    same_board _ _ refl refl (omega (arith, c.requires)) (λ i. (c.copy_from_slice.ensures.after ∙ c.pieces.ensures.records) i ++ blank i) refl refl
