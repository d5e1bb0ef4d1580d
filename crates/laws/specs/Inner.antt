-- Tests, searches and rows that compute, for contracts inside the engine and for proofs; nobody has to believe them.
use Rattle.std.specs.Prelude.{ℕ, zero, suc, max, ◌+◌, ◌≤◌, ◌<◌, Bool, true, false, not, ◌&&◌, ◌||◌, cond, ◌≡◌, List, [], ◌∷◌, ◌⊎◌, ltb, eqb, length}
use Rattle.laws.specs.Put.{put}
use Rattle.laws.specs.Refusal.{Row, number_of, Passes, Stops}

-- A test that computes, and the fact that it stands for.

-- The test b says P: it is true exactly when P holds.
pub record Says (b : Bool) (P : Type 0) : Type 0 where
  pub means : b ≡ true → P
  pub found : P → b ≡ true

-- The largest, any and all over the numbers below n.

-- The largest of f 0, …, f (n − 1), and 0 where there is none.
unfoldable pub best_below : (ℕ → ℕ) → ℕ → ℕ
best_below f zero = 0
best_below f (suc n) = max (best_below f n) (f n)

-- Is f k true for some k below n?
unfoldable pub any_below : (ℕ → Bool) → ℕ → Bool
any_below f zero = false
any_below f (suc n) = any_below f n || f n

-- Is f k true for every k below n?
unfoldable pub all_below : (ℕ → Bool) → ℕ → Bool
all_below f zero = true
all_below f (suc n) = all_below f n && f n

-- The first number below n that passes a test.

-- The least k below n with f k true, and n where there is none.
unfoldable pub first_below : (ℕ → Bool) → ℕ → ℕ
first_below f zero = zero
first_below f (suc n) = elim (f zero) [ true ↦ zero | false ↦ suc (first_below (λ k. f (suc k)) n) ]

-- The first of the numbers 1, …, n whose test passes, f k for the number k + 1; 0 where there is none.
unfoldable pub first_number : (ℕ → Bool) → ℕ → ℕ
first_number f n = cond (ltb (first_below f n) n) (suc (first_below f n)) 0

-- k is the first number below n that passes the test.
pub record First (f : ℕ → Bool) (n k : ℕ) : Type 0 where
  pub within : k < n
  pub passes : f k ≡ true
  pub first : (j : ℕ) → j < k → f j ≡ false

-- A list of refusals with a test for each row.

abbrev pub fact_of : Row → Type 0
fact_of (Row.unless k fact) = fact
fact_of (Row.when k fact) = fact

-- Does a call go past the row whose fact has this test?
abbrev pub passes : Row → Bool → Bool
passes (Row.unless k fact) test = test
passes (Row.when k fact) test = not test

-- The number of the first row that refuses, and 0 where none does.
unfoldable pub number_given : List Row → List Bool → ℕ
number_given [] tests = 0
number_given (row ∷ rows) [] = 0
number_given (row ∷ rows) (test ∷ tests) = cond (passes row test) (number_given rows tests) (number_of row)

-- r is that number. A record, so that rows and tests are found where a proof goes along a list.
pub record Answers (rows : List Row) (tests : List Bool) (r : ℕ) : Type 0 where
  pub is : r ≡ number_given rows tests

-- Each test says its row's fact, at least where the rows before it are passed.
pub data Tested : List Row → List Bool → Type 1 where
  end : Tested [] []
  says : {row : Row} {rows : List Row} {b : Bool} {tests : List Bool} → Says b (fact_of row) → (Passes row → Tested rows tests) → Tested (row ∷ rows) (b ∷ tests)

-- The rows of a list by their number, wherever they stand.

-- Does every number of the list pass a test?
unfoldable pub every_number : (ℕ → Bool) → List Row → Bool
every_number test [] = true
every_number test (row ∷ rows) = test (number_of row) && every_number test rows

-- All rows with this number are passed.
unfoldable pub PassesAt : List Row → ℕ → Type 0
PassesAt [] n = Unit {0}
PassesAt (row ∷ rows) n = cond (eqb n (number_of row)) (Passes row × PassesAt rows n) (PassesAt rows n)

-- A row with this number refuses.
unfoldable pub StopsAt : List Row → ℕ → Type 0
StopsAt [] n = ⊥
StopsAt (row ∷ rows) n = cond (eqb n (number_of row)) (Stops row ⊎ StopsAt rows n) (StopsAt rows n)

-- The rows before the first one with this number.
unfoldable pub rows_before : ℕ → List Row → List Row
rows_before n [] = []
rows_before n (row ∷ rows) = cond (eqb n (number_of row)) [] (row ∷ rows_before n rows)

-- A recursion that goes down to smaller ones: it is given a depth that only makes it end.

-- `body f s` is the answer for s, where f answers for the smaller ones; with at most k of them one below the other, and `last` there.
unfoldable pub to_depth : {S A : Type 0} → A → ((S → A) → S → A) → ℕ → S → A
to_depth last body zero s = last
to_depth last body (suc k) s = body (to_depth last body k) s

-- With as many as there can be. `deep_own` is its equation without a depth: deep s ≡ body deep s.
unfoldable pub deep : {S A : Type 0} → (S → ℕ) → A → ((S → A) → S → A) → S → A
deep size last body s = to_depth last body (suc (size s)) s

-- A row that is written part by part.

-- There is room in o for the bytes e at a place.
pub record Room (o : List ℕ) (at : ℕ) (e : List ℕ) : Type 0 where
  pub room : at + length e ≤ length o

-- The bytes e were written into o at a place: o is p then, and the place after them is `next`.
pub record Wrote (o : List ℕ) (at : ℕ) (e : List ℕ) (next : ℕ) (p : List ℕ) : Type 0 where
  pub place : next ≡ at + length e
  pub bytes : p ≡ put o at e
