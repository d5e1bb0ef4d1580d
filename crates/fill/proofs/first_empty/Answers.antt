use Rattle.std.proofs.Common.{ℕ, ◌+◌, ◌≡◌, eqb, false, rules}
use Rattle.std.proofs.lemmas.Iterator.{first_from_Range}
use Rattle.cells.specs.Cells.{empty, cell_of}
use Rattle.board.specs.Inner.{width_on}
use Rattle.fill.proofs.Rounds.{Found, found_before}
use Rattle.fill.proofs.first_empty.Goals as goal

pub returns : goal.returns
returns c =
    let filled : ℕ → Type 0 = λ k. eqb (cell_of (width_on c.args.board.now) c.args.t.now k c.args.w) empty ≡ false in
    let found : Found (width_on c.args.board.now) c.args.t.now c.args.x c.args.w c.find.result =
    first_from_Range (record { start = 1; end = c.args.x + 1 }) _ _ _ (λ k. Unit {0}) filled c.find.ensures.ran (λ k q h. tt) (λ k q h. search rules) in
    found_before _ _ _ _ _ found c.unwrap_or.ensures
