use Rattle.std.proofs.Common.{◌≡◌, get_or}
use Rattle.laws.specs.Put.{put}
use Rattle.laws.specs.ByIndex.{by_index}
use Rattle.fields.specs.Format.{head_bytes}
use Rattle.job.specs.Job.{piece_of, no_record}
use Rattle.job.specs.Block.{bytes_of_pieces}
use Rattle.job.proofs.block.put_pieces.Given as goal

-- `block::put_pieces` meets its contract. The invariant: the first k pieces are written.
abbrev pub invariant-loop-k : goal.invariant-loop-k
invariant-loop-k l = l.o ≡ put l.initial.o head_bytes (bytes_of_pieces (by_index (λ i. piece_of (get_or l.piece-items i no_record)) l.k))
