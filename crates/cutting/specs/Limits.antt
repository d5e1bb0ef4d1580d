-- The limits of a job, each with its one name (rule 1.7).
-- The code has the same names as associated constants of the job's types.
use Rattle.std.specs.Prelude.{ℕ}

-- The longest side of a sheet (rule 1.2).
abbrev pub side_max : ℕ
side_max = 240

-- The most pieces that a job has (rule 1.3).
abbrev pub pieces_max : ℕ
pieces_max = 64

-- The longest side of a piece (rule 1.4).
abbrev pub size_max : ℕ
size_max = 4_095

-- The largest value of a piece (rule 1.5).
abbrev pub value_max : ℕ
value_max = 65_535
