use Rattle.std.proofs.Common.{ℕ, Bool, ◌*◌, ◌≡◌}
use Rattle.cutting.specs.Limits.{value_max}
use Rattle.cells.specs.Inner.{Answers, asked, any_in_row}
use Rattle.cells.proofs.row_has.Given as goal

-- `cells::row_has` finds a sought cell in row w. The loop's invariant: whether there is one in the columns so far, and what they may earn.
abbrev pub invariant-loop-value : goal.invariant-loop-value
invariant-loop-value g l =
    ((test : ℕ → ℕ → Bool) → Answers (goal.F-post g l.sought) test → l.found ≡ any_in_row l.value-index l.w (asked test l.a l.t))
    × (l.most ≡ l.value-index * l.w * value_max)
