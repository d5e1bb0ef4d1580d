use mathlib.Core.Path.{sym, ◌∙◌}
use Rattle.fill.proofs.Rounds.{row_full}
use Rattle.fill.proofs.fill_row.Goals as goal

-- `fill_row`: from the first empty cell on, or nothing.
pub returns-then-not-row_has_empty : goal.returns-then-not-row_has_empty
returns-then-not-row_has_empty c =
    let both = row_full _ _ _ _ _ _ c.requires (sym c.row_has_empty.ensures ∙ c.if-not-row_has_empty.true) in
    record { worked = both.0; after = both.1 }
