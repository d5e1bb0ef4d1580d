-- KHON_PLAN_ENOUGH of the header (rule 8.13): room for the block, for fewer than two nodes on each unit square of x by y, and for the trailer.
use Rattle.std.specs.Prelude.{ℕ, ◌+◌, ◌-◌, ◌*◌}
use Rattle.job.specs.Block.{block_length}
use Rattle.fields.specs.Format.{node_length, trailer_length}

-- The bytes for so many pieces, and for x by y.
abbrev pub plan_enough : ℕ → ℕ → ℕ → ℕ
plan_enough count x y = block_length count + node_length * (2 * (x * y) - 1) + trailer_length
