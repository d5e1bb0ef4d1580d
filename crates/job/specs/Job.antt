-- The job by value: its records as the pieces that they stand for, and the job that has given pieces.
use Rattle.std.specs.Prelude.{ℕ, ◌≡◌, List, [], length, get_or}
use Rattle.laws.specs.ByIndex.{by_index}
use Rattle.cutting.specs.Piece.{Piece, no_piece, Lay, Lays}
use Rattle.cutting.specs.Limits.{pieces_max}
use Rattle.job.specs.declared.Piece.{Piece as Record}
use Rattle.job.specs.declared.Job.{Job}

-- A record stands for a piece, and a piece is kept in a record.
abbrev pub piece_of : Record → Piece
piece_of r = record { width = r.width; height = r.height; value = r.value }

-- The record of a piece.
abbrev pub record_of : Piece → Record
record_of p = record { width = p.width; height = p.height; value = p.value }

-- A record of zeros.
abbrev pub no_record : Record
no_record = record_of no_piece

-- The pieces of a job: its first n records, and none behind them (rule 4.12).
unfoldable pub pieces_of : Job → List Piece
pieces_of job = by_index (λ k. piece_of (get_or job.pieces k no_record)) job.count

-- What may lie on a job's sheet.
abbrev pub lay_of : Job → Lay
lay_of job = Lays (pieces_of job)

-- The job with these sides and pieces, at most 64; the records behind them are zeros (rule 4.12).
unfoldable pub job_of : ℕ → ℕ → List Piece → Job
job_of width height pieces = record { width = width; height = height; count = length pieces; pieces = by_index (λ k. record_of (get_or pieces k no_piece)) pieces_max }

-- The job of zeros that a refused open gives (rule 4.17).
unfoldable pub zero_job : Job
zero_job = job_of 0 0 []

-- The records past n are zeros.
pub record Tidy (job : Job) : Type 0 where
  pub zeros : job ≡ job_of job.width job.height (pieces_of job)
