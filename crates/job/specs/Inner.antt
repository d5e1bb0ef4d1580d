-- What only contracts inside and proofs need; nobody has to believe it. The tests say the facts of the other files (proofs/Range, `shape_says`).
use Rattle.std.specs.Prelude.{ℕ, List, Bool, ◌&&◌, cond, length, get_or, leb, eqb, Option, Some, None}
use Rattle.cutting.specs.Limits.{pieces_max, side_max, size_max, value_max}
use Rattle.laws.specs.ByIndex.{by_index}
use Rattle.laws.specs.Inner.{all_below}
use Rattle.cutting.specs.Piece.{Piece, no_piece}
use Rattle.job.specs.declared.Piece.{Piece as Record}
use Rattle.job.specs.declared.Job.{Job}
use Rattle.job.specs.Job.{record_of, no_record}
use Rattle.job.specs.Block.{block_length, count_in, job_in}
use Rattle.fields.specs.Format.{head_bytes}

-- The ranges of a job (rules 1.2 to 1.5) as tests. A quantity is in the range 1 to most.
abbrev pub within : ℕ → ℕ → Bool
within n most = leb 1 n && leb n most

unfoldable pub piece_in_range : Record → Bool
piece_in_range r = within r.width size_max && (within r.height size_max && within r.value value_max)

unfoldable pub pieces_in_range : Job → Bool
pieces_in_range job = all_below (λ k. piece_in_range (get_or job.pieces k no_record)) job.count

unfoldable pub job_in_range : Job → Bool
job_in_range job = within job.width side_max && (within job.height side_max && (leb job.count pieces_max && pieces_in_range job))

-- The records of a job that has given pieces: theirs, then zeros.
abbrev pub records_of : List Piece → List Record
records_of pieces = by_index (λ k. record_of (get_or pieces k no_piece)) pieces_max

-- `BlockShape` as a test.
unfoldable pub block_shape : List ℕ → Bool
block_shape s = leb head_bytes (length s) && (leb (count_in s) pieces_max && eqb (length s) (block_length (count_in s)))

-- The job of a block of that shape; any other is none (rule 4.14).
unfoldable pub from_block : List ℕ → Option Job
from_block s = cond (block_shape s) (Some (job_in s)) None
