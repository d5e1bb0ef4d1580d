use Prim.Native.Nat.{ℕ}
use mathlib.Core.Path.{ap, ◌∙◌}
use Rattle.fill.specs.Inner.{cell_on}
use Rattle.fill.proofs.Steps.{line_marked, line_unmarked}
use Rattle.fill.proofs.value.line_at.Goals as goal

-- `line_at`: the two parts' numbers where the line is marked.
pub returns-then-marked : goal.returns-then-marked
returns-then-marked c =
    let part : ℕ → ℕ = λ k. cell_on c.args.board.now c.args.t.now k c.args.w in
    line_marked _ _ _ c.marked.ensures c.if-marked.true c.cell.ensures (c.cell-2.ensures ∙ ap part c.rest.ensures)

pub returns-else-marked : goal.returns-else-marked
returns-else-marked c = line_unmarked _ _ _ c.marked.ensures c.if-marked.false
