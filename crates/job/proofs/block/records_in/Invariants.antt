use Rattle.std.proofs.Common.{◌≡◌, ℕ, ◌<◌, length, get_or}
use Rattle.job.specs.Job.{record_of, no_record}
use Rattle.job.specs.Block.{piece_in}
use Rattle.job.proofs.block.records_in.Given as goal

-- `block::records_in` meets its contract. The invariant: the first k records are read.
abbrev pub invariant-loop-k : goal.invariant-loop-k
invariant-loop-k l =
    (length l.record-items ≡ l.count) × ((k : ℕ) → k < l.k → get_or l.record-items k no_record ≡ record_of (piece_in l.s k))
