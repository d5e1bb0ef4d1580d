-- The running sum of a plan file (rule 8.9).
use Rattle.std.specs.Prelude.{ℕ, ◌+◌, ◌*◌, ◌%◌, List, [], ◌∷◌}

-- What the sum becomes with one more byte (rule 8.9).
abbrev pub sum_step : ℕ → ℕ → ℕ
sum_step sum byte = (3 * sum + byte) % 4_294_967_296

-- What it becomes over all bytes, from the first to the last (rule 8.9).
unfoldable pub running_sum : ℕ → List ℕ → ℕ
running_sum sum [] = sum
running_sum sum (byte ∷ bytes) = running_sum (sum_step sum byte) bytes

-- The sum before any byte (rule 8.9).
abbrev pub sum_start : ℕ
sum_start = 1

-- The sum of these bytes (rule 8.9).
abbrev pub sum_of : List ℕ → ℕ
sum_of bytes = running_sum sum_start bytes
