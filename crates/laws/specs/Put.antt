-- A list with a part of it overwritten.
use Rattle.std.specs.Prelude.{ℕ, ◌+◌, List, ◌++◌, length, take, drop}

-- o with the elements of e in the place of those from index `at` on; what stands before and after stays.
unfoldable pub put {ℓ} : {A : Type ℓ} → List A → ℕ → List A → List A
put o at e = take at o ++ (e ++ drop (at + length e) o)
