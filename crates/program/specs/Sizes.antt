-- The program's sizes; the code has the first three as constants.
use Rattle.std.specs.Prelude.{ℕ, ◌+◌}
use Rattle.cutting.specs.Limits.{pieces_max}
use Rattle.job.specs.Block.{block_length}

-- The cells of the table and the bytes of the plan buffer (rule 9.2).
abbrev pub table_cells : ℕ
table_cells = 16_384

abbrev pub plan_room : ℕ
plan_room = 32_768

-- No text is longer (`text_fits`): a first line of 35 bytes, and 10,915 lines of 38.
abbrev pub text_most : ℕ
text_most = 414_805

-- 391 bytes, one more than the longest block has: what comes after it changes nothing (`input_enough`).
abbrev pub input_most : ℕ
input_most = block_length pieces_max + 1
