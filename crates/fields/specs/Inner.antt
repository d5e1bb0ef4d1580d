-- The laws of `Field`, where its impls can cite them; they are proved, and nobody has to believe them.
use Rattle.std.proofs.Common.{◌≡◌, ℕ, ◌<◌, List, ◌++◌, length, refl, arith}
use Rattle.fields.specs.Number.{number2_of, number4_of, bytes2, bytes4}

pub bytes2-length : (n : ℕ) → length (bytes2 n) ≡ 2
unfolding bytes2
bytes2-length n = refl

pub bytes4-length : (n : ℕ) → length (bytes4 n) ≡ 4
unfolding bytes2 bytes4
bytes4-length n = refl

-- The bytes of a number are read as that number.
pub number2_bytes : (n : ℕ) (r : List ℕ) → n < 65_536 → number2_of (bytes2 n ++ r) 0 ≡ n
unfolding number2_of bytes2
number2_bytes n r h = omega arith

pub number4_bytes : (n : ℕ) (r : List ℕ) → n < 4_294_967_296 → number4_of (bytes4 n ++ r) 0 ≡ n
unfolding number2_of number4_of bytes2 bytes4
number4_bytes n r h = omega arith
