-- The job block, written and read: a head of three numbers, then three for each piece (rule 8.4).
use Rattle.std.specs.Prelude.{ℕ, ◌+◌, ◌*◌, ◌≤◌, ◌<◌, ◌≡◌, List, [], ◌∷◌, ◌++◌, length, get_or}
use Rattle.laws.specs.ByIndex.{by_index}
use Rattle.fields.specs.Format.{head_bytes, piece_bytes, second_number, third_number}
use Rattle.fields.specs.Number.{bytes2, number2_of}
use Rattle.cutting.specs.Limits.{pieces_max}
use Rattle.cutting.specs.Piece.{Piece, no_piece}
use Rattle.job.specs.declared.Job.{Job}
use Rattle.job.specs.Job.{pieces_of, job_of}

-- A block of n pieces has 6 + 6n bytes.
abbrev pub block_length : ℕ → ℕ
block_length n = head_bytes + n * piece_bytes

-- What is written.
unfoldable pub bytes_of_piece : Piece → List ℕ
bytes_of_piece p = bytes2 p.width ++ (bytes2 p.height ++ bytes2 p.value)

-- The records of all pieces, one after the other.
unfoldable pub bytes_of_pieces : List Piece → List ℕ
bytes_of_pieces [] = []
bytes_of_pieces (p ∷ pieces) = bytes_of_piece p ++ bytes_of_pieces pieces

-- The head: width, height and n.
unfoldable pub bytes_of_head : ℕ → ℕ → ℕ → List ℕ
bytes_of_head width height n = bytes2 width ++ (bytes2 height ++ bytes2 n)

-- The job block of these pieces for a rectangle of width by height.
unfoldable pub block : ℕ → ℕ → List Piece → List ℕ
block width height pieces = bytes_of_head width height (length pieces) ++ bytes_of_pieces pieces

-- The block of a job.
abbrev pub block_of : Job → List ℕ
block_of job = block job.width job.height (pieces_of job)

-- What is read.
abbrev pub count_in : List ℕ → ℕ
count_in s = number2_of s third_number

-- The piece that stands at a place.
unfoldable pub piece_from : List ℕ → ℕ → Piece
piece_from s at = record { width = number2_of s at; height = number2_of s (at + second_number); value = number2_of s (at + third_number) }

-- Piece k + 1 of a block.
abbrev pub piece_in : List ℕ → ℕ → Piece
piece_in s k = piece_from s (block_length k)

-- The job that a block says.
unfoldable pub job_in : List ℕ → Job
job_in s = job_of (number2_of s 0) (number2_of s second_number) (by_index (piece_in s) (count_in s))

-- The bytes can be read as a block: there is a head, n is at most 64, and the length is 6 + 6n (rule 4.14).
pub record BlockShape (s : List ℕ) : Type 0 where
  pub head : head_bytes ≤ length s
  pub most : count_in s ≤ pieces_max
  pub whole : length s ≡ block_length (count_in s)

-- Each number of the job fits its two bytes, and n is at most 64.
pub record InFields (a b : ℕ) (pieces : List Piece) : Type 0 where
  pub width : a < 65_536
  pub height : b < 65_536
  pub count : length pieces ≤ pieces_max
  pub piece_width : (k : ℕ) → (get_or pieces k no_piece).width < 65_536
  pub piece_height : (k : ℕ) → (get_or pieces k no_piece).height < 65_536
  pub piece_value : (k : ℕ) → (get_or pieces k no_piece).value < 65_536
