-- The laws of best_below, sum_below, any_below and all_below: none, one more, and what they say of every index.
use Prim.Native.Nat.{ℕ, zero, suc, ◌+◌, ◌≤◌, ◌<◌, max}
use mathlib.Core.Bool.{Bool, true, false, ◌&&◌, ◌||◌}
use mathlib.Core.Path.{◌≡◌, refl, sym, ap, ap₂, ◌∙◌}
use mathlib.Core.Logic.{◌⊎◌, inl, inr, ⊎_elim}
use native.Mathlib.Omega.{arith}
use native.Mathlib.Numerals.{add-one}
use Rattle.laws.specs.Inner.{Says, best_below, any_below, all_below}
use Rattle.laws.specs.Below.{sum_below}
use Rattle.laws.proofs.Order.{le_or_lt, last_or_below}
use Rattle.laws.proofs.Says.{true≢false}

pub best_below_none : (f : ℕ → ℕ) → best_below f 0 ≡ 0
unfolding best_below
best_below_none f = refl

-- The code's n + 1.
pub best_below_more : (f : ℕ → ℕ) (n : ℕ) → best_below f (n + 1) ≡ max (best_below f n) (f n)
unfolding best_below
best_below_more f n = rw add-one refl

pub best_below_bound : (f : ℕ → ℕ) (n k : ℕ) → k < n → f k ≤ best_below f n
unfolding best_below
best_below_bound f zero k h = absurd (omega arith)
best_below_bound f (suc n) k h =
    ⊎_elim (λ e. omega (arith, ap f e)) (λ l. omega (arith, best_below_bound f n k l)) (last_or_below h)

-- Where every f k is at most m, so is the largest.
pub best_below_within : (f : ℕ → ℕ) (n m : ℕ) → ((k : ℕ) → k < n → f k ≤ m) → best_below f n ≤ m
unfolding best_below
best_below_within f zero m h = omega arith
best_below_within f (suc n) m h =
    let a = best_below_within f n m (λ k l. h k (omega arith)) in
    let b = h n (omega arith) in
    omega arith

-- The largest is 0 or is some f k.
pub best_below_attained : (f : ℕ → ℕ) (n : ℕ) → (best_below f n ≡ 0) ⊎ ((k : ℕ) × (k < n) × (best_below f n ≡ f k))
unfolding best_below
best_below_attained f zero = inl refl
best_below_attained f (suc n) = either (le_or_lt (f n) (best_below f n)) (best_below_attained f n)
  where
    either : (f n ≤ best_below f n) ⊎ (best_below f n < f n) → (best_below f n ≡ 0) ⊎ ((k : ℕ) × (k < n) × (best_below f n ≡ f k))
        → (max (best_below f n) (f n) ≡ 0) ⊎ ((k : ℕ) × (k < suc n) × (max (best_below f n) (f n) ≡ f k))
    either (inr h) r = inr (n, omega arith, omega arith)
    either (inl h) (inl e) = inl (omega arith)
    either (inl h) (inr t) = inr (t.0, omega (arith, t.1), omega (arith, t.2))

pub best_below_same : (f g : ℕ → ℕ) (n : ℕ) → ((k : ℕ) → k < n → f k ≡ g k) → best_below f n ≡ best_below g n
unfolding best_below
best_below_same f g zero h = refl
best_below_same f g (suc n) h = ap₂ max (best_below_same f g n (λ k l. h k (omega arith))) (h n (omega arith))

pub sum_below_none : (f : ℕ → ℕ) → sum_below f 0 ≡ 0
unfolding sum_below
sum_below_none f = refl

pub sum_below_more : (f : ℕ → ℕ) (n : ℕ) → sum_below f (n + 1) ≡ sum_below f n + f n
unfolding sum_below
sum_below_more f n = rw add-one refl

pub sum_below_same : (f g : ℕ → ℕ) (n : ℕ) → ((k : ℕ) → k < n → f k ≡ g k) → sum_below f n ≡ sum_below g n
unfolding sum_below
sum_below_same f g zero h = refl
sum_below_same f g (suc n) h = ap₂ ◌+◌ (sum_below_same f g n (λ k l. h k (omega arith))) (h n (omega arith))

pub any_below_none : (f : ℕ → Bool) → any_below f 0 ≡ false
unfolding any_below
any_below_none f = refl

pub any_below_more : (f : ℕ → Bool) (n : ℕ) → any_below f (n + 1) ≡ any_below f n || f n
unfolding any_below
any_below_more f n = rw add-one refl

pub any_below_says : (f : ℕ → Bool) (n : ℕ) → Says (any_below f n) ((k : ℕ) × (k < n) × (f k ≡ true))
unfolding any_below
any_below_says f zero = record { means = λ e. absurd (true≢false (sym e)); found = λ t. absurd (omega (arith, t.1)) }
any_below_says f (suc n) = joined (any_below f n) (f n) refl (any_below_says f n)
  where
    joined : (b d : Bool) → f n ≡ d → Says b ((k : ℕ) × (k < n) × (f k ≡ true)) → Says (b || d) ((k : ℕ) × (k < suc n) × (f k ≡ true))
    joined true d e s = record { means = λ _. ((s.means refl).0, omega (arith, (s.means refl).1), (s.means refl).2); found = λ _. refl }
    joined false true e s = record { means = λ _. (n, omega arith, e); found = λ _. refl }
    joined false false e s = record { means = λ h. absurd (true≢false (sym h)); found = λ t. ⊎_elim (λ q. sym e ∙ (sym (ap f q) ∙ t.2)) (λ l. s.found (t.0, l, t.2)) (last_or_below t.1) }

pub any_below_same : (f g : ℕ → Bool) (n : ℕ) → ((k : ℕ) → k < n → f k ≡ g k) → any_below f n ≡ any_below g n
unfolding any_below
any_below_same f g zero h = refl
any_below_same f g (suc n) h = ap₂ ◌||◌ (any_below_same f g n (λ k l. h k (omega arith))) (h n (omega arith))

pub all_below_none : (f : ℕ → Bool) → all_below f 0 ≡ true
unfolding all_below
all_below_none f = refl

pub all_below_more : (f : ℕ → Bool) (n : ℕ) → all_below f (n + 1) ≡ all_below f n && f n
unfolding all_below
all_below_more f n = rw add-one refl

pub all_below_says : (f : ℕ → Bool) (n : ℕ) → Says (all_below f n) ((k : ℕ) → k < n → f k ≡ true)
unfolding all_below
all_below_says f zero = record { means = λ e k h. absurd (omega arith); found = λ _. refl }
all_below_says f (suc n) = joined (all_below f n) (f n) refl (all_below_says f n)
  where
    joined : (b d : Bool) → f n ≡ d → Says b ((k : ℕ) → k < n → f k ≡ true) → Says (b && d) ((k : ℕ) → k < suc n → f k ≡ true)
    joined false d e s = record { means = λ h. absurd (true≢false (sym h)); found = λ t. s.found (λ k l. t k (omega arith)) }
    joined true d e s = record { means = λ h k l. ⊎_elim (λ q. ap f q ∙ (e ∙ h)) (s.means refl k) (last_or_below l); found = λ t. sym e ∙ t n (omega arith) }

pub all_below_same : (f g : ℕ → Bool) (n : ℕ) → ((k : ℕ) → k < n → f k ≡ g k) → all_below f n ≡ all_below g n
unfolding all_below
all_below_same f g zero h = refl
all_below_same f g (suc n) h = ap₂ ◌&&◌ (all_below_same f g n (λ k l. h k (omega arith))) (h n (omega arith))
