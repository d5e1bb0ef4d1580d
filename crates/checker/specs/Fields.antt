-- The fields of a plan file, read from its end: the trailer (rule 8.7), and the parts that it points back to (rule 8.2).
use Rattle.std.specs.Prelude.{ℕ, ◌+◌, ◌-◌, List, length, take, drop}
use Rattle.fields.specs.Format.{block_field, third_number, nodes_field, value_field, sum_field, trailer_length}
use Rattle.fields.specs.Number.{number2_of, number4_of}
use Rattle.job.specs.declared.Job.{Job}
use Rattle.job.specs.Block.{job_in}

-- Where the trailer begins: 16 bytes before the end.
abbrev pub trailer_at : List ℕ → ℕ
trailer_at file = length file - trailer_length

-- The number of four bytes at a place of the trailer.
abbrev pub field_at : List ℕ → ℕ → ℕ
field_at file place = number4_of file (trailer_at file + place)

-- D1
abbrev pub block_distance : List ℕ → ℕ
block_distance file = field_at file block_field

-- D2
abbrev pub nodes_distance : List ℕ → ℕ
nodes_distance file = field_at file nodes_field

-- The value that the trailer states.
abbrev pub stated_value : List ℕ → ℕ
stated_value file = field_at file value_field

-- The sum that it states.
abbrev pub stated_sum : List ℕ → ℕ
stated_sum file = field_at file sum_field

-- The note is all that stands before the job block (rule 8.3).
abbrev pub note_length : List ℕ → ℕ
note_length file = trailer_at file - block_distance file

-- Where the first node stands.
abbrev pub nodes_at : List ℕ → ℕ
nodes_at file = trailer_at file - nodes_distance file

-- The bytes that the sum covers (rule 8.9).
unfoldable pub summed_bytes : List ℕ → List ℕ
summed_bytes file = take (block_distance file + sum_field) (drop (note_length file) file)

-- The bytes from the job block up to the first node.
unfoldable pub block_bytes : List ℕ → List ℕ
block_bytes file = take (block_distance file - nodes_distance file) (drop (note_length file) file)

-- The bytes before the trailer.
abbrev pub before_trailer : List ℕ → List ℕ
before_trailer file = take (trailer_at file) file

-- The job of the block, and the n that its head states.
unfoldable pub job_at : List ℕ → Job
job_at file = job_in (block_bytes file)

-- The n of the block's head.
unfoldable pub count_at : List ℕ → ℕ
count_at file = number2_of file (note_length file + third_number)
