-- Numbers in decimal (rule 9.6).
use Rattle.std.specs.Prelude.{ℕ, zero, suc, ◌+◌, ◌/◌, ◌%◌, cond, List, [], ◌∷◌, ◌++◌, ltb}

-- The byte of a digit: that of 0 is 48.
unfoldable pub digit : ℕ → ℕ
digit n = 48 + n

-- With at most k digits; `decimal_own` gives the equations without a number of digits.
unfoldable pub decimal_within : ℕ → ℕ → List ℕ
decimal_within zero n = []
decimal_within (suc k) n = cond (ltb n 10) (digit n ∷ []) (decimal_within k (n / 10) ++ (digit (n % 10) ∷ []))

-- The digits of a number, with no zero before them.
unfoldable pub decimal : ℕ → List ℕ
decimal n = decimal_within (suc n) n
