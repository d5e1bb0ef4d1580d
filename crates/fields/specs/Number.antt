-- Numbers of two and of four bytes, the low byte first, and the bytes of them (rule 8.1).
use Rattle.std.specs.Prelude.{ℕ, ◌+◌, ◌*◌, ◌/◌, ◌%◌, ◌<◌, List, [], ◌∷◌, ◌++◌, slice_index}

-- The number of two bytes, the low one first.
abbrev pub joined : ℕ → ℕ → ℕ
joined low high = low + high * 256

-- The number of two halves of two bytes each, the low one first.
abbrev pub joined_halves : ℕ → ℕ → ℕ
joined_halves low high = low + high * 65_536

-- The number of two bytes that stands at a place of a row of bytes.
unfoldable pub number2_of : List ℕ → ℕ → ℕ
number2_of s at = joined (slice_index s at) (slice_index s (at + 1))

-- The number of four bytes that stands there.
unfoldable pub number4_of : List ℕ → ℕ → ℕ
number4_of s at = joined_halves (number2_of s at) (number2_of s (at + 2))

-- The bytes of a number below 65,536.
unfoldable pub bytes2 : ℕ → List ℕ
bytes2 n = n % 256 ∷ (n / 256 % 256 ∷ [])

-- The bytes of a number below 4,294,967,296.
unfoldable pub bytes4 : ℕ → List ℕ
bytes4 n = bytes2 (n % 65_536) ++ bytes2 (n / 65_536)

-- A row of bytes: each is below 256.
abbrev pub Bytes : List ℕ → Type 0
Bytes s = (k : ℕ) → slice_index s k < 256
