-- `reaches` is true exactly of the sums of one or more sizes, each as often as one likes.
use Prim.Native.Nat.{ℕ, zero, suc, ◌+◌, ◌-◌, ◌≤◌, ◌<◌}
use mathlib.Core.Bool.{Bool, true, false}
use mathlib.Core.Path.{◌≡◌, refl, sym, ap, ◌∙◌}
use mathlib.Core.List.{List, [], ◌∷◌, ◌++◌}
use mathlib.Core.Logic.{◌⊎◌, inl, inr, ⊎_elim}
use native.Mathlib.Omega.{arith}
use native.Mathlib.Nat.{eq-or-lt_of_le}
use lib.ListN.{length, get_or, length-append, get_or-eq_default, get_or-append}
use lib.Seq.{get_or_at}
use Rattle.laws.specs.Inner.{Says}
use Rattle.laws.proofs.Says.{true≢false, says_itself, says_iff, says_lt, says_eq, says_and, says_or}
use Rattle.laws.proofs.Below.{any_below_says, any_below_same}
use Rattle.laws.proofs.Order.{le_or_lt}
use Rattle.cutting.specs.Points.{Sum, one, more}
use Rattle.cutting.proofs.Points.{Apart, sum_apart}
use Rattle.board.specs.Inner.{Size, makes, some_makes, reaches_up_to, reaches}

-- Only the first n sizes count.
some_makes_sizes : (made : ℕ → Bool) (size other : ℕ → ℕ) (n c : ℕ) → ((k : ℕ) → k < n → size k ≡ other k)
    → some_makes made size n c ≡ some_makes made other n c
unfolding some_makes
some_makes_sizes made size other n c h = any_below_same _ _ n (λ k b. ap (λ (s : ℕ). makes made s c) (h k b))

-- 0 is no point (rule 3.3).
reaches_zero : (size : ℕ → ℕ) (n : ℕ) → reaches size n 0 ≡ false
unfolding reaches reaches_up_to
reaches_zero size n = refl

pub reaches_least : (size : ℕ → ℕ) (n c : ℕ) → reaches size n c ≡ true → 1 ≤ c
reaches_least size n zero e = absurd (true≢false (sym e ∙ reaches_zero size n))
reaches_least size n (suc c) e = omega arith

module _ (size : ℕ → ℕ) (n : ℕ) where
  up_to_length : (c : ℕ) → length (reaches_up_to size n c) ≡ suc c
  unfolding reaches_up_to
  up_to_length zero = refl
  up_to_length (suc c) = simp length-append (omega (arith, up_to_length c))

  up_to_at : (c m : ℕ) → m ≤ c → get_or (reaches_up_to size n c) m false ≡ reaches size n m
  unfolding reaches_up_to
  up_to_at zero m h = let e : m ≡ 0 = omega arith in rw e (unfold reaches in refl)
  up_to_at (suc c) m h = ⊎_elim (here m) (earlier m (up_to_at c m)) (eq-or-lt_of_le h)
    where
      here : (m : ℕ) → m ≡ suc c → get_or (reaches_up_to size n (suc c)) m false ≡ reaches size n m
      here m e = rw e (unfold reaches in refl)

      earlier : (m : ℕ) → (m ≤ c → get_or (reaches_up_to size n c) m false ≡ reaches size n m) → m < suc c
          → get_or (reaches_up_to size n (suc c)) m false ≡ reaches size n m
      earlier m same l =
          let inside : m < length (reaches_up_to size n c) = omega (arith, up_to_length c) in
          rw get_or-append (same (omega arith))

  up_to_past : (c m : ℕ) → c < m → get_or (reaches_up_to size n c) m false ≡ false
  up_to_past c m h = get_or-eq_default (reaches_up_to size n c) false {n = m} (omega (arith, up_to_length c))

  up_to_next : (c : ℕ) → reaches size n (suc c) ≡ some_makes (λ m. get_or (reaches_up_to size n c) m false) size n (suc c)
  unfolding reaches reaches_up_to
  up_to_next c = get_or_at (reaches_up_to size n c) _ [] false (suc c) (up_to_length c)

-- A size makes c exactly when it is c, or is smaller and what it leaves is made.
makes_says : (made : ℕ → Bool) (s c : ℕ) → Says (makes made s c) ((s ≡ c) ⊎ ((s < c) × (made (c - s) ≡ true)))
unfolding makes
makes_says made s c = says_or (says_eq s c) (says_and (says_lt s c) (says_itself (made (c - s))))

some_makes_says : (made : ℕ → Bool) (size : ℕ → ℕ) (n c : ℕ) → Says (some_makes made size n c) ((k : ℕ) × (k < n) × (makes made (size k) c ≡ true))
unfolding some_makes
some_makes_says made size n c = any_below_says (λ k. makes made (size k) c) n

-- Only the first n sizes count.
module _ (size other : ℕ → ℕ) (n : ℕ) (same : (k : ℕ) → k < n → size k ≡ other k) where
  up_to_sizes : (c : ℕ) → reaches_up_to size n c ≡ reaches_up_to other n c
  unfolding reaches_up_to
  up_to_sizes zero = refl
  up_to_sizes (suc c) =
      (λ i. up_to_sizes c i ++ (some_makes (λ m. get_or (up_to_sizes c i) m false) size n (suc c) ∷ []))
      ∙ ap (λ (b : Bool). reaches_up_to other n c ++ (b ∷ [])) (some_makes_sizes (λ m. get_or (reaches_up_to other n c) m false) size other n (suc c) same)

  pub reaches_sizes : (c : ℕ) → reaches size n c ≡ reaches other n c
  unfolding reaches
  reaches_sizes c = ap (λ (l : List Bool). get_or l c false) (up_to_sizes c)

-- How c is reached: by a size that is c, or by a size and a smaller number that is reached.
data Reached (size : ℕ → ℕ) (n c : ℕ) : Type 0 where
  alone : {k : ℕ} → k < n → size k ≡ c → Reached size n c
  on_top : {k r : ℕ} → k < n → r < c → c ≡ size k + r → reaches size n r ≡ true → Reached size n c

module _ (size : ℕ → ℕ) (n : ℕ) where
  -- The tests up to c answer for no number beyond it.
  up_to_says : (c m : ℕ) → Says (get_or (reaches_up_to size n c) m false) ((m ≤ c) × (reaches size n m ≡ true))
  up_to_says c m =
      record {
        means = λ e. ⊎_elim (λ l. (l, sym (up_to_at size n c m l) ∙ e)) (λ l. absurd (true≢false (sym e ∙ up_to_past size n c m l))) (le_or_lt m c);
        found = λ h. up_to_at size n c m h.0 ∙ h.1;
      }

  -- The own equation of `reaches`.
  reaches_own : (c : ℕ) → 1 ≤ c → Says (reaches size n c) (Reached size n c)
  reaches_own zero h = absurd (omega arith)
  reaches_own (suc c) h = rw up_to_next (says_iff (means, found) (some_makes_says made size n (suc c)))
    where
      made : ℕ → Bool
      made m = get_or (reaches_up_to size n c) m false

      means : (k : ℕ) × (k < n) × (makes made (size k) (suc c) ≡ true) → Reached size n (suc c)
      means (k, b, e) =
          ⊎_elim (alone b)
          (λ t. let p = (up_to_says c (suc c - size k)).means t.1 in on_top {k = k} b (omega (arith, p.0)) (omega (arith, t.0)) p.1)
          ((makes_says made (size k) (suc c)).means e)

      found : Reached size n (suc c) → (k : ℕ) × (k < n) × (makes made (size k) (suc c) ≡ true)
      found (alone {k} b e) = (k, b, (makes_says made (size k) (suc c)).found (inl e))
      found (on_top {k} {r} b l e t) =
          let left : suc c - size k ≡ r = omega arith in
          (k, b, (makes_says made (size k) (suc c)).found (inr (omega (arith, reaches_least size n r t), rw left ((up_to_says c r).found (omega arith, t)))))

  reaches-sum : (most c : ℕ) → c ≤ most → reaches size n c ≡ true → Sum (Size size n) c
  reaches-sum zero c h e = absurd (omega (arith, reaches_least size n c e))
  reaches-sum (suc most) c h e = sum ((reaches_own c (reaches_least size n c e)).means e) (λ r l. reaches-sum most r (omega arith))
    where
      sum : Reached size n c → ((r : ℕ) → r < c → reaches size n r ≡ true → Sum (Size size n) r) → Sum (Size size n) c
      sum (alone {k} b q) smaller = one (record { index = k; among = b; equal = q })
      sum (on_top {k} {r} b l q t) smaller = more (record { index = k; among = b; equal = refl }) (smaller r l t) q

  sum_reaches : (most c : ℕ) → c ≤ most → Sum (Size size n) c → 1 ≤ c → reaches size n c ≡ true
  sum_reaches zero c h s l = absurd (omega arith)
  sum_reaches (suc most) c h s l = (reaches_own c l).found (by (sum_apart c s l) (λ r b. sum_reaches most r (omega arith)))
    where
      by : Apart (Size size n) c → ((r : ℕ) → r < c → Sum (Size size n) r → 1 ≤ r → reaches size n r ≡ true) → Reached size n c
      by (Apart.alone z) smaller = alone z.among z.equal
      by (Apart.on_top {r = r} z rest g b e) smaller = on_top z.among b (omega (arith, z.equal)) (smaller r b rest g)

  -- The test says that c is a sum of one or more sizes (rule 3.1).
  pub reaches_says : (c : ℕ) → 1 ≤ c → Says (reaches size n c) (Sum (Size size n) c)
  reaches_says c h = record { means = reaches-sum c c (omega arith); found = λ s. sum_reaches c c (omega arith) s h }
