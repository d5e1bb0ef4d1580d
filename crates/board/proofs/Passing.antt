-- The pass over the numbers of a side: up to `last` each has the mark of whether it is reached, and beyond it the mark of whether it is a size.
use Prim.Native.Nat.{ℕ, ◌+◌, ◌-◌, ◌≤◌, ◌<◌}
use mathlib.Core.Bool.{Bool, true, false, ◌&&◌, ◌||◌}
use mathlib.Core.Path.{◌≡◌, refl, sym, ap, ◌∙◌}
use mathlib.Core.Logic.{◌⊎◌, inl, inr, ⊎_elim, ◌≢◌}
use native.Mathlib.Omega.{arith}
use native.Mathlib.Nat.{eq-or-lt_of_le}
use lib.Dec.{leb, eqb}
use Rattle.laws.specs.Inner.{Says}
use Rattle.laws.proofs.Order.{le_or_lt, last_or_below}
use Rattle.laws.proofs.Says.{says_itself, says_no, says_false, says_iff, says_le, says_eq, says_and, says_or, says_same}
use Rattle.laws.proofs.Below.{any_below_says}
use Rattle.board.specs.Inner.{Size, reaches, is_point, is_within, is_size, tried_from, Rising, leads}
use Rattle.board.proofs.Reaches.{reaches_least}
use Rattle.board.proofs.Marks.{is_point_says}
use Rattle.board.proofs.Steps.{Led, led_over, led_among, Stepped, steps_stay, steps_grow, steps_kept, IsReached, reaches_closed, size_reached, reached_next}

-- The search among the steps.
module _ (made : ℕ → Bool) (step : ℕ → ℕ) where
  pub leads_says : (held c : ℕ) → Says (leads made step held c) (Led (λ m. made m ≡ true) step held c)
  unfolding leads
  leads_says held c = says_iff (to, from) (any_below_says (λ j. leb (tried_from (step j)) c && made (c - step j)) held)
    where
      each : (j : ℕ) → Says (leb (tried_from (step j)) c && made (c - step j)) ((tried_from (step j) ≤ c) × (made (c - step j) ≡ true))
      each j = says_and (says_le (tried_from (step j)) c) (says_itself (made (c - step j)))

      to : (j : ℕ) × (j < held) × ((leb (tried_from (step j)) c && made (c - step j)) ≡ true) → Led (λ m. made m ≡ true) step held c
      to (j, b, e) = record { index = j; among = b; tried = ((each j).means e).0; leaves = ((each j).means e).1 }

      from : Led (λ m. made m ≡ true) step held c → (j : ℕ) × (j < held) × ((leb (tried_from (step j)) c && made (c - step j)) ≡ true)
      from l = (l.index, l.among, (each l.index).found (l.tried, l.leaves))

  -- As the loop goes: none of the first j leads to c.
  abbrev pub Unled : ℕ → ℕ → Type 0
  Unled j c = Led (λ m. made m ≡ true) step j c → ⊥

  pub unled_more : (j c : ℕ) {g : ℕ} → Unled j c → g ≡ step j → (made (c - g) ≡ true → ⊥) → Unled (j + 1) c
  unled_more j c none e new l =
      ⊎_elim
      (λ q. new (ap (λ (s : ℕ). made (c - s)) (e ∙ sym (ap step q)) ∙ l.leaves))
      (λ b. none (led_among l b))
      (last_or_below {k = l.index} {n = j} (omega (arith, l.among)))

  -- A step that is too large for c ends the search: the later ones are larger.
  pub unled_stop : (held j c : ℕ) → Rising step held → Unled j c → c < tried_from (step j) → Unled held c
  unled_stop held j c rising none h l =
      ⊎_elim
      (λ b. ⊎_elim (λ e. omega (arith, l.tried, ap step e)) (λ b. omega (arith, l.tried, rising.rises j l.index b l.among)) (eq-or-lt_of_le b))
      (λ b. none (led_among l b))
      (le_or_lt j l.index)

-- The sizes, marked one after the other.
pub is_within_says : (side c : ℕ) → Says (is_within side c) ((1 ≤ c) × (c ≤ side))
unfolding is_within
is_within_says side c = says_and (says_le 1 c) (says_le c side)

module _ (size : ℕ → ℕ) (side : ℕ) where
  pub is_size_says : (n c : ℕ) → Says (is_size size n side c) (((1 ≤ c) × (c ≤ side)) × Size size n c)
  unfolding is_size
  is_size_says n c = says_and (is_within_says side c) (says_iff (to, from) (any_below_says (λ k. eqb (size k) c) n))
    where
      to : (k : ℕ) × (k < n) × (eqb (size k) c ≡ true) → Size size n c
      to (k, b, e) = record { index = k; among = b; equal = (says_eq (size k) c).means e }

      from : Size size n c → (k : ℕ) × (k < n) × (eqb (size k) c ≡ true)
      from s = (s.index, s.among, (says_eq (size s.index) c).found s.equal)

  pub is_size_none : (c : ℕ) → is_size size 0 side c ≡ false
  is_size_none c = says_no (is_size_says 0 c) (λ s. omega (arith, s.1.among))

  -- The code's n + 1: only the mark of the new size can change.
  pub is_size_other : (n c : ℕ) → (c ≡ size n → (1 ≤ c) × (c ≤ side) → ⊥) → is_size size n side c ≡ is_size size (n + 1) side c
  is_size_other n c new =
      says_same (is_size_says n c)
      (says_iff (less, (λ s. (s.0, record { index = s.1.index; among = omega (arith, s.1.among); equal = s.1.equal }))) (is_size_says (n + 1) c))
    where
      less : ((1 ≤ c) × (c ≤ side)) × Size size (n + 1) c → ((1 ≤ c) × (c ≤ side)) × Size size n c
      less (h, s) =
          let before : s.index < n =
          ⊎_elim (λ e. absurd (new (sym s.equal ∙ ap size e) h)) (λ b. b) (last_or_below {k = s.index} {n = n} (omega (arith, s.among))) in
          (h, record { index = s.index; among = before; equal = s.equal })

  pub is_size_new : (n : ℕ) → is_size size (n + 1) side (size n) ≡ is_within side (size n)
  is_size_new n =
      says_same (is_size_says (n + 1) (size n))
      (says_iff ((λ h. (h, record { index = n; among = omega arith; equal = refl })), (λ s. s.0)) (is_within_says side (size n)))

-- The marks after the number `last`.
module _ (size : ℕ → ℕ) (n side : ℕ) where
  unfoldable pub passed : ℕ → ℕ → Bool
  passed last c = is_point size n last c || is_size size n side c

  abbrev Own : ℕ → Type 0
  Own c = ((1 ≤ c) × (c ≤ side)) × Size size n c

  passed_says : (last c : ℕ) → Says (passed last c) (((c ≤ last) × IsReached size n c) ⊎ Own c)
  unfolding passed
  passed_says last c = says_or (is_point_says size n last c) (is_size_says size side n c)

  own_reached : (c : ℕ) → Own c → IsReached size n c
  own_reached c o = size_reached size n c o.0.0 o.1

  -- At first they are the sizes ..
  pub passed_none : (c : ℕ) → is_size size n side c ≡ passed 0 c
  passed_none c =
      says_same (is_size_says size side n c)
      (says_iff (⊎_elim (λ h. absurd (omega (arith, h.0, reaches_least size n c h.1))) (λ o. o), inr) (passed_says 0 c))

  -- .. and in the end the points.
  pub passed_all : (c : ℕ) → passed side c ≡ is_point size n side c
  passed_all c =
      says_same (passed_says side c)
      (says_iff (inl, ⊎_elim (λ h. h) (λ o. (o.0.1, own_reached c o))) (is_point_says size n side c))

  -- Up to `last` a mark says whether the number is reached, and only the next one's changes then.
  pub passed_upto : (last c : ℕ) → c ≤ last → passed last c ≡ reaches size n c
  passed_upto last c h =
      says_same (passed_says last c) (record { means = λ e. inl (h, e); found = ⊎_elim (λ t. t.1) (own_reached c) })

  pub passed_other : (last c : ℕ) → c ≢ last + 1 → passed last c ≡ passed (last + 1) c
  passed_other last c d =
      says_same (passed_says last c)
      (says_iff (⊎_elim (λ h. inl (omega (arith, h.0), h.1)) inr, ⊎_elim (λ h. inl (omega (arith, h.0), h.1)) inr) (passed_says (last + 1) c))

  -- One number further: b is whether a step leads to it, and `own` its mark so far.
  module _ {last held : ℕ} {made : ℕ → Bool} {step : ℕ → ℕ} {b own : Bool} (h : last < side) (steps : Stepped (IsReached size n) last step held)
      (same : (m : ℕ) → m ≤ last → made m ≡ reaches size n m) (search : b ≡ leads made step held (last + 1)) (mark : own ≡ passed last (last + 1)) where
    led_says : Says b (Led (IsReached size n) step held (last + 1))
    led_says = rw search (says_iff (led_over (λ j b x. sym (left j b) ∙ x), led_over (λ j b x. left j b ∙ x)) (leads_says made step held (last + 1)))
      where
        left : (j : ℕ) → j < held → made (last + 1 - step j) ≡ reaches size n (last + 1 - step j)
        left j b = same (last + 1 - step j) (omega (arith, reaches_least size n (step j) (steps.each j b).1))

    own_says : Says own (Size size n (last + 1))
    own_says =
        rw mark (says_iff (⊎_elim (λ h. absurd (omega (arith, h.0))) (λ o. o.1), (λ s. inr ((omega arith, omega arith), s))) (passed_says last (last + 1)))

    reached_says : Says (b || own) (IsReached size n (last + 1))
    reached_says = says_iff (reached_next size n steps) (says_or led_says own_says)

    pub passed_more : b || own ≡ passed (last + 1) (last + 1)
    passed_more = says_same reached_says (says_itself _) ∙ sym (passed_upto (last + 1) (last + 1) (omega arith))

    -- Where a step leads to it, or it is no size, the steps stay ..
    pub steps_same : (b ≡ true) ⊎ (own ≡ false) → Stepped (IsReached size n) (last + 1) step held
    steps_same none = steps_stay (reaches_closed size n) steps lead
      where
        lead : IsReached size n (last + 1) → Led (IsReached size n) step held (last + 1)
        lead r = ⊎_elim led_says.means (λ e. ⊎_elim (λ l. l) (λ s. absurd (says_false own_says e s)) ((reached_next size n steps).1 r)) none

    -- .. and a size that no step leads to is a step itself.
    pub steps_more : {other : ℕ → ℕ} → own ≡ true → ((j : ℕ) → j < held → other j ≡ step j) → other held ≡ last + 1
        → Stepped (IsReached size n) (last + 1) other (held + 1)
    steps_more e keeps new = steps_grow (steps_kept steps keeps) new (own_reached (last + 1) ((omega arith, omega arith), own_says.means e))
