use mathlib.Core.List.{[], ◌∷◌, ◌++◌}
use mathlib.Core.Path.{ap}
use Rattle.printing.specs.Decimal.{decimal}
use Rattle.printing.proofs.Printed.{writes_both, writes_as}
use Rattle.listing.specs.Line.{spaced, ended, line_text}
use Rattle.listing.proofs.line.put_line.Goals as goal

pub returns : goal.returns
unfolding line_text spaced ended
returns c =
    let number = writes_as (ap (λ n. decimal n ++ (10 ∷ [])) c.from.ensures) c.put_number-5.ensures in
    writes_both _ _ c.put_number.ensures
    (writes_both _ _ c.put_number-2.ensures
    (writes_both _ _ c.put_number-3.ensures
    (writes_both _ _ c.put_number-4.ensures (writes_both _ _ (writes_as c.word.ensures c.put_word.ensures) number))))
