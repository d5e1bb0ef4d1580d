use Rattle.std.proofs.Common.{◌≡◌, Ok}
use Rattle.program.specs.Entry.{begun}
use Rattle.program.specs.Inner.{AnswersAs}
use Rattle.program.proofs.entry.enter.Given as goal

-- The first pieces are added.
abbrev pub invariant-loop-piece : goal.invariant-loop-piece
invariant-loop-piece l =
    AnswersAs (Ok l.job) (begun l.fn.from l.fn.cells l.piece-index).answer × (l.cells ≡ (begun l.fn.from l.fn.cells l.piece-index).cells)
