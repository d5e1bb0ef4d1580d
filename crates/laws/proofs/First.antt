-- The laws of first_below and first_number: what they find, that there is none, one more, and that only the test counts.
use Prim.Native.Nat.{ℕ, zero, suc, ◌+◌, ◌≤◌, ◌<◌}
use mathlib.Core.Bool.{Bool, true, false}
use mathlib.Core.Path.{◌≡◌, refl, sym, ap, ◌∙◌}
use mathlib.Core.Logic.{⊎_elim}
use native.Mathlib.Omega.{arith}
use Rattle.laws.specs.Inner.{first_below, first_number, First}
use Rattle.laws.proofs.Order.{last_or_below}
use Rattle.laws.proofs.Says.{true≢false, says_lt}
use Rattle.laws.proofs.Choice.{chosen, not_chosen, either_way}

-- The test's answer at 0 decides whether the search goes on.
abbrev begun : Bool → ℕ → ℕ
begun b r = elim b [ true ↦ zero | false ↦ suc r ]

pub first_within : (f : ℕ → Bool) (n : ℕ) → first_below f n ≤ n
unfolding first_below
first_within f zero = omega arith
first_within f (suc n) = go (f zero) (first_within (λ k. f (suc k)) n)
  where
    go : (b : Bool) → first_below (λ k. f (suc k)) n ≤ n → begun b (first_below (λ k. f (suc k)) n) ≤ suc n
    go true h = omega arith
    go false h = omega arith

-- Nothing before it passes.
pub first_before : (f : ℕ → Bool) (n j : ℕ) → j < first_below f n → f j ≡ false
unfolding first_below
first_before f zero j h = absurd (omega arith)
first_before f (suc n) j h = go (f zero) refl j h (first_before (λ k. f (suc k)) n)
  where
    go : (b : Bool) → f zero ≡ b → (j : ℕ) → j < begun b (first_below (λ k. f (suc k)) n) → ((i : ℕ) → i < first_below (λ k. f (suc k)) n → f (suc i) ≡ false)
        → f j ≡ false
    go true e j h r = absurd (omega arith)
    go false e zero h r = e
    go false e (suc i) h r = r i (omega arith)

-- Where it is below n, it passes.
pub first_passes : (f : ℕ → Bool) (n : ℕ) → first_below f n < n → f (first_below f n) ≡ true
unfolding first_below
first_passes f zero h = absurd (omega arith)
first_passes f (suc n) h = go (f zero) refl h (first_passes (λ k. f (suc k)) n)
  where
    go : (b : Bool) → f zero ≡ b → begun b (first_below (λ k. f (suc k)) n) < suc n
        → (first_below (λ k. f (suc k)) n < n → f (suc (first_below (λ k. f (suc k)) n)) ≡ true) → f (begun b (first_below (λ k. f (suc k)) n)) ≡ true
    go true e h r = e
    go false e h r = r (omega arith)

-- There is only one first.
pub first_only : {f : ℕ → Bool} {n k : ℕ} → First f n k → first_below f n ≡ k
first_only {f} {n} {k} s = omega (arith, late, early)
  where
    late : first_below f n < k → ⊥
    late h = true≢false (sym (first_passes f n (omega (arith, s.within))) ∙ s.first (first_below f n) h)

    early : k < first_below f n → ⊥
    early h = true≢false (sym s.passes ∙ first_before f n k h)

-- Where none passes, it is n.
pub first_end : (f : ℕ → Bool) (n : ℕ) → ((j : ℕ) → j < n → f j ≡ false) → first_below f n ≡ n
first_end f n none = omega (arith, first_within f n, past)
  where
    past : first_below f n < n → ⊥
    past h = true≢false (sym (first_passes f n h) ∙ none (first_below f n) h)

-- As a loop goes, with the code's k + 1: none of the first k passes.
pub first_more : (f : ℕ → Bool) (k : ℕ) → first_below f k ≡ k → f k ≡ false → first_below f (k + 1) ≡ k + 1
first_more f k e h = first_end f (k + 1) (λ j l. ⊎_elim (λ q. ap f q ∙ h) (λ b. first_before f k j (omega arith)) (last_or_below {k = j} {n = k} (omega arith)))

pub first_stop : (f : ℕ → Bool) (k n : ℕ) → first_below f k ≡ k → k < n → f k ≡ true → first_below f n ≡ k
first_stop f k n e h p = first_only (record { within = h; passes = p; first = λ j l. first_before f k j (omega arith) })

-- Only the test's answers below n count.
pub first_same : (f g : ℕ → Bool) (n : ℕ) → ((k : ℕ) → k < n → f k ≡ g k) → first_below f n ≡ first_below g n
unfolding first_below
first_same f g zero h = refl
first_same f g (suc n) h = go (f zero) (g zero) (h zero (omega arith)) (first_same (λ k. f (suc k)) (λ k. g (suc k)) n (λ k l. h (suc k) (omega arith)))
  where
    go : (b d : Bool) → b ≡ d → first_below (λ k. f (suc k)) n ≡ first_below (λ k. g (suc k)) n
        → begun b (first_below (λ k. f (suc k)) n) ≡ begun d (first_below (λ k. g (suc k)) n)
    go true true e r = refl
    go false false e r = ap suc r
    go true false e r = absurd (true≢false e)
    go false true e r = absurd (true≢false (sym e))

-- By number: 0 is the answer exactly where none passes.
pub number_none : (f : ℕ → Bool) (n : ℕ) → first_below f n ≡ n → first_number f n ≡ 0
unfolding first_number
number_none f n e = not_chosen (says_lt (first_below f n) n) _ _ (λ h. omega arith)

pub number_first : (f : ℕ → Bool) (n : ℕ) → first_below f n < n → first_number f n ≡ suc (first_below f n)
unfolding first_number
number_first f n h = chosen (says_lt (first_below f n) n) _ _ h

pub number_passed : (f : ℕ → Bool) (n : ℕ) → first_number f n ≡ 0 → first_below f n ≡ n
number_passed f n e = omega (arith, first_within f n, past)
  where
    past : first_below f n < n → ⊥
    past h = omega (arith, number_first f n h)

pub number_most : (f : ℕ → Bool) (n : ℕ) → first_number f n ≤ n
unfolding first_number
number_most f n = either_way (λ k. k ≤ n) (says_lt (first_below f n) n) _ _ (λ h. omega arith) (λ h. omega arith)

-- As a loop goes, whose test r is f k: none of the first k numbers passes.
pub number_more : (f : ℕ → Bool) (k : ℕ) {r : Bool} → first_number f k ≡ 0 → r ≡ f k → r ≡ false → first_number f (k + 1) ≡ 0
number_more f k e h p = number_none f (k + 1) (first_more f k (number_passed f k e) (sym h ∙ p))

pub number_stop : (f : ℕ → Bool) (k n : ℕ) {r : Bool} → first_number f k ≡ 0 → k < n → r ≡ f k → r ≡ true → k + 1 ≡ first_number f n
number_stop f k n e l h p =
    let first : first_below f n ≡ k = first_stop f k n (number_passed f k e) l (sym h ∙ p) in
    omega (arith, number_first f n (omega arith))
