use Rattle.std.proofs.Common.{◌+◌, refl, ◌∙◌, arith, rules}
use Rattle.std.proofs.lemmas.Iterator.{YieldsList-from_range}
use Rattle.std.proofs.lemmas.Iterator.Search.{any_from_yields_List}
use Rattle.cells.specs.Inner.{asked, any_in_row}
use Rattle.cells.proofs.Box.{any_in_rows}
use Rattle.cells.proofs.box_has.Goals as goal

pub returns : goal.returns
returns g c = λ test answers.
    any_from_yields_List (λ w. any_in_row c.args.x w (asked test c.args.a c.args.t.now)) _ _ _ c.any.ensures.ran
    (YieldsList-from_range 1 (c.args.y + 1) c.args.y refl (omega arith)) (λ w b q k. search rules)
    ∙ any_in_rows c.args.x c.args.y (asked test c.args.a c.args.t.now)
