use Rattle.std.proofs.Common.{◌∙◌, arith}
use Rattle.std.proofs.lemmas.List.Edits.{length-between}
use Rattle.cells.proofs.Places.{row_within}
use Rattle.cells.proofs.Redrawn.{row_cell}
use Rattle.cells.proofs.row.Goals as goal

-- `cells::row`: the cells of a row stand beside one another.
pub slice_bounds-result-end : goal.slice_bounds-result-end
slice_bounds-result-end c = omega (arith, row_within c.args.x c.requires.holds c.requires.within)

pub returns : goal.returns
returns c = record {
  long = length-between c.args.t.now _ _ (omega (arith, row_within c.args.x c.requires.holds c.requires.within)) ∙ omega arith;
  cells = λ k h. row_cell c.args.t.now c.args.x k c.requires.holds c.requires.within c.place-first.ensures.is h;
}
