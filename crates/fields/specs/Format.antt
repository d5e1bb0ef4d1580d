-- The plan file's own numbers: letters, lengths and places. Reader, writer and checker use these names, and the code has the same as constants.
use Rattle.std.specs.Prelude.{ℕ, ◌+◌}

-- The letters V, H, P and S as bytes (rule 8.5): a vertical line.
abbrev pub letter_v : ℕ
letter_v = 86

-- A horizontal line.
abbrev pub letter_h : ℕ
letter_h = 72

-- A piece.
abbrev pub letter_p : ℕ
letter_p = 80

-- Scrap.
abbrev pub letter_s : ℕ
letter_s = 83

-- A node: a letter and a number of two bytes (rule 8.5).
abbrev pub node_length : ℕ
node_length = 3

-- The head of a job block: width, height and n, two bytes each (rule 8.4).
abbrev pub head_bytes : ℕ
head_bytes = 6

-- A piece in it: width, height and value.
abbrev pub piece_bytes : ℕ
piece_bytes = 6

-- In both, where the second number stands ..
abbrev pub second_number : ℕ
second_number = 2

-- .. and the third.
abbrev pub third_number : ℕ
third_number = 4

-- How short a file that is checked may be (rule 1.6) ..
abbrev pub file_least : ℕ
file_least = 25

-- .. and how long.
abbrev pub file_most : ℕ
file_most = 1_048_576

-- The trailer's length (rule 8.7), and where in it stand:
abbrev pub trailer_length : ℕ
trailer_length = 16

-- D1.
abbrev pub block_field : ℕ
block_field = 0

-- D2.
abbrev pub nodes_field : ℕ
nodes_field = 4

-- The value.
abbrev pub value_field : ℕ
value_field = 8

-- The sum ..
abbrev pub sum_field : ℕ
sum_field = 12

-- .. and its length.
abbrev pub sum_length : ℕ
sum_length = 4

-- The least D1: a head and a node (rule 7.9).
abbrev pub distance_least : ℕ
distance_least = head_bytes + node_length
