use Rattle.std.proofs.Common.{◌-◌, ◌≡◌, false}
use Rattle.board.specs.Inner.{marked_at}
use Rattle.fill.specs.Inner.{cell_on}
use Rattle.fill.proofs.Steps.{lines_up_to}
use Rattle.fill.proofs.value.line_value.Given as goal

-- `line_value`: the loop's invariant is that the lines before c have been tried.
abbrev pub invariant-loop-c : goal.invariant-loop-c
invariant-loop-c l = l.best ≡ lines_up_to (marked_at l.board false) (λ k. cell_on l.board l.t k l.w) l.x (l.c - 1)
