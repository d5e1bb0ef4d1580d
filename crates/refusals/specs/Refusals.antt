-- The refusals and their numbers.
use Rattle.std.specs.Prelude.{ℕ, Result, Ok, Err}
use Rattle.refusals.specs.declared.Refusal.{Refusal}
use Rattle.refusals.specs.declared.Refusal.TheVariants.{BadJob, ShortTable, NotInside, BadPiece, FullJob, NotAsked, AlienTable, ShortBuffer, NotFramed, SumDiffers, JobOutOfRange, NodesBroken, ValueDiffers}

-- The numbers by name. Rule 7.1: a job out of its range.
abbrev pub bad_job : ℕ
bad_job = 1

-- Rule 7.2: too few cells.
abbrev pub short_table : ℕ
short_table = 2

-- Rule 7.3: no such piece, or a rectangle that isn't inside the sheet.
abbrev pub not_inside : ℕ
not_inside = 3

-- Rule 7.4: a new piece out of its range.
abbrev pub bad_piece : ℕ
bad_piece = 4

-- Rule 7.5: 64 pieces already.
abbrev pub full_job : ℕ
full_job = 5

-- Rule 7.6: an empty cell.
abbrev pub not_asked : ℕ
not_asked = 6

-- Rule 7.7: numbers that these calls never leave.
abbrev pub alien_table : ℕ
alien_table = 7

-- Rule 7.8: too short a buffer.
abbrev pub short_buffer : ℕ
short_buffer = 8

-- Rule 7.9: the length or D1 is out of its range.
abbrev pub not_framed : ℕ
not_framed = 9

-- Rule 7.10: the sum is another one.
abbrev pub sum_differs : ℕ
sum_differs = 10

-- Rule 7.11: the job block is out of its ranges, or hasn't the length from D1 to D2.
abbrev pub job_out_of_range : ℕ
job_out_of_range = 11

-- Rule 7.12: the nodes aren't those of a dissection.
abbrev pub nodes_broken : ℕ
nodes_broken = 12

-- Rule 7.13: the leaves earn another value than the trailer says.
abbrev pub value_differs : ℕ
value_differs = 13

-- The number of a refusal.
abbrev pub number : Refusal → ℕ
number BadJob = bad_job
number ShortTable = short_table
number NotInside = not_inside
number BadPiece = bad_piece
number FullJob = full_job
number NotAsked = not_asked
number AlienTable = alien_table
number ShortBuffer = short_buffer
number NotFramed = not_framed
number SumDiffers = sum_differs
number JobOutOfRange = job_out_of_range
number NodesBroken = nodes_broken
number ValueDiffers = value_differs

-- The number of an answer (rule 4.15): 0 where it is accepted.
abbrev pub refused : {A : Type 0} → Result A Refusal → ℕ
refused (Ok _) = 0
refused (Err refusal) = number refusal
