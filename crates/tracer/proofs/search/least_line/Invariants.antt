use Rattle.std.proofs.Common.{◌≡◌, ◌≤◌, ◌<◌, ℕ, false}
use Rattle.cells.specs.Cells.{cell_of}
use Rattle.board.specs.Inner.{rows_on, width_on}
use Rattle.tracer.specs.Inner.{adds_to}
use Rattle.tracer.proofs.search.least_line.Given as goal

-- `least_line`: no line before c adds to the number.
abbrev pub invariant-loop-c : goal.invariant-loop-c
invariant-loop-c l =
    (j : ℕ) → 1 ≤ j → j < l.c
    → adds_to (rows_on l.table.board.now) (cell_of (width_on l.table.board.now) l.table.cells.now) l.tall l.number l.width l.height j ≡ false
