use Rattle.std.proofs.Common.{◌≡◌, ◌<◌, ℕ, Bool, false}
use Rattle.board.specs.Inner.{rows_on, count_on, width_at, height_at}
use Rattle.tracer.specs.Inner.{suits}
use Rattle.tracer.proofs.search.first_piece.Given as goal

-- `first_piece`: none of the first k pieces suits.
abbrev pub invariant-loop-k : goal.invariant-loop-k
invariant-loop-k g l =
    goal.F-IsAlwaysCallable g l.suits
    × ((test : ℕ → Bool)
    → ((k : ℕ) (b : Bool) → k < count_on l.table.board.now
    → goal.F-post g l.suits (width_at l.table.board.now k) (height_at l.table.board.now k) b → b ≡ test k)
    → (j : ℕ) → j < l.k → suits (rows_on l.table.board.now) test l.number j ≡ false)
