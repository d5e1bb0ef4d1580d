-- Why steps suffice, for any set R of numbers from 1 on in which sums stay. The steps are numbers of R, found from small to large: a number
-- that smaller ones lead to is none, since by those one gets wherever it leads.
use Prim.Native.Nat.{ℕ, ◌+◌, ◌-◌, ◌≤◌, ◌<◌}
use mathlib.Core.Bool.{true}
use mathlib.Core.Path.{◌≡◌, refl, sym, ap, subst, ◌∙◌}
use mathlib.Core.Logic.{◌⊎◌, inl, inr, ⊎_elim, ◌↔◌}
use native.Mathlib.Omega.{arith}
use native.Mathlib.Nat.{eq-or-lt_of_le}
use native.Mathlib.Numerals.{add-one}
use Rattle.laws.proofs.Order.{le_or_lt, last_or_below}
use Rattle.cutting.specs.Points.{one}
use Rattle.cutting.proofs.Points.{sum_add, Apart, sum_apart}
use Rattle.board.specs.Inner.{Size, reaches, tried_from, Rising}
use Rattle.board.proofs.Reaches.{reaches_least, reaches_says}

-- Sums of numbers of R are in R, and all are at least 1.
pub record Closed (R : ℕ → Type 0) : Type 0 where
  pub least : (t : ℕ) → R t → 1 ≤ t
  pub add : (s r : ℕ) → R s → R r → R (s + r)

-- c is a sum of two numbers of R.
pub record Parts (R : ℕ → Type 0) (c : ℕ) : Type 0 where
  pub first : ℕ
  pub second : ℕ
  pub sum : c ≡ first + second
  pub in_first : R first
  pub in_second : R second

-- t is one of the first `held` steps, or one of them is smaller and leaves a number of R.
pub record Served (R : ℕ → Type 0) (step : ℕ → ℕ) (held t : ℕ) : Type 0 where
  pub index : ℕ
  pub among : index < held
  pub serves : (step index ≡ t) ⊎ ((step index < t) × R (t - step index))

-- One of the first `held` steps is tried for c, and leaves a number of R.
pub record Led (R : ℕ → Type 0) (step : ℕ → ℕ) (held c : ℕ) : Type 0 where
  pub index : ℕ
  pub among : index < held
  pub tried : tried_from (step index) ≤ c
  pub leaves : R (c - step index)

pub led_over : {R T : ℕ → Type 0} {step : ℕ → ℕ} {held c : ℕ} → ((j : ℕ) → j < held → R (c - step j) → T (c - step j)) → Led R step held c → Led T step held c
led_over f l = record { index = l.index; among = l.among; tried = l.tried; leaves = f l.index l.among l.leaves }

pub led_among : {R : ℕ → Type 0} {step : ℕ → ℕ} {held j c : ℕ} (l : Led R step held c) → l.index < j → Led R step j c
led_among l h = record { index = l.index; among = h; tried = l.tried; leaves = l.leaves }

-- The steps up to `last`: they rise, and serve every number of R up to there.
pub record Stepped (R : ℕ → Type 0) (last : ℕ) (step : ℕ → ℕ) (held : ℕ) : Type 0 where
  pub few : held ≤ last
  pub each : (j : ℕ) → j < held → (step j ≤ last) × R (step j)
  pub rising : Rising step held
  pub served : (t : ℕ) → t ≤ last → R t → Served R step held t

-- The step that serves the smaller of two parts is at most half of their sum.
smaller_led : {R : ℕ → Type 0} {step : ℕ → ℕ} {held s : ℕ} (c r : ℕ) → Closed R → s ≤ r → c ≡ s + r → Served R step held s → R r
    → Led R step held c
smaller_led {R} {step} {held} {s} c r closed l e v x = by v.serves
  where
    by : (step v.index ≡ s) ⊎ ((step v.index < s) × R (s - step v.index)) → Led R step held c
    by (inl q) = record { index = v.index; among = v.among; tried = omega arith; leaves = subst R (omega arith) x }
    by (inr (q, y)) = record { index = v.index; among = v.among; tried = omega arith; leaves = subst R (omega arith) (closed.add _ _ y x) }

module _ {R : ℕ → Type 0} (closed : Closed R) where
  pub steps_none : (step : ℕ → ℕ) → Stepped R 0 step 0
  steps_none step =
      record {
        few = omega arith;
        each = λ j h. absurd (omega arith);
        rising = record { rises = λ i j l h. absurd (omega arith) };
        served = λ t l r. absurd (omega (arith, closed.least t r));
      }

  module _ {last : ℕ} {step : ℕ → ℕ} {held : ℕ} (steps : Stepped R last step held) where
    -- Steps up to half suffice: one of them leads to the next number where that is a sum of two.
    pub parts_led : Parts R (last + 1) → Led R step held (last + 1)
    parts_led p =
        let a = closed.least p.first p.in_first in
        let b = closed.least p.second p.in_second in
        ⊎_elim
        (λ l. smaller_led (last + 1) p.second closed l p.sum (steps.served p.first (omega (arith, p.sum)) p.in_first) p.in_second)
        (λ l. smaller_led (last + 1) p.first closed (omega arith) (omega (arith, p.sum))
        (steps.served p.second (omega (arith, p.sum)) p.in_second) p.in_first)
        (le_or_lt p.first p.second)

    pub led_in : (c : ℕ) → Led R step held c → R c
    led_in c l = subst R (omega (arith, l.tried)) (closed.add _ _ (steps.each l.index l.among).1 l.leaves)

    -- A number further with the same steps, where one leads to it if it is in R ..
    pub steps_stay : (R (last + 1) → Led R step held (last + 1)) → Stepped R (last + 1) step held
    steps_stay lead =
        record {
          few = omega (arith, steps.few);
          each = λ j h. (omega (arith, (steps.each j h).0), (steps.each j h).1);
          rising = steps.rising;
          served = λ t l r. ⊎_elim
              (λ e. subst (Served R step held) (sym e) (there (lead (subst R e r))))
              (λ b. steps.served t (omega arith) r)
              (eq-or-lt_of_le l);
        }
      where
        there : Led R step held (last + 1) → Served R step held (last + 1)
        there l =
            let some = closed.least (step l.index) (steps.each l.index l.among).1 in
            record { index = l.index; among = l.among; serves = inr (omega (arith, l.tried), l.leaves) }

module _ {R : ℕ → Type 0} {last : ℕ} {step : ℕ → ℕ} {held : ℕ} (steps : Stepped R last step held) where
  -- .. or with a step more, which is the number itself.
  pub steps_grow : step held ≡ last + 1 → R (last + 1) → Stepped R (last + 1) step (held + 1)
  steps_grow new here =
      record {
        few = omega (arith, steps.few);
        each = λ j h. ⊎_elim
            (λ e. subst (λ (g : ℕ). (g ≤ last + 1) × R g) (sym (ap step e ∙ new)) (omega arith, here))
            (λ b. (omega (arith, (steps.each j b).0), (steps.each j b).1))
            (new_or_before j h);
        rising = record {
          rises = λ i j l h. ⊎_elim
              (λ e. omega (arith, ap step e, (steps.each i (omega arith)).0))
              (steps.rising.rises i j l)
              (new_or_before j h);
        };
        served = λ t l r. ⊎_elim
            (λ e. record { index = held; among = omega arith; serves = inl (new ∙ sym e) })
            (λ b. more_held (steps.served t (omega arith) r))
            (eq-or-lt_of_le l);
      }
    where
      new_or_before : (j : ℕ) → j < held + 1 → (j ≡ held) ⊎ (j < held)
      new_or_before j h = last_or_below (rw add-one at h)

      more_held : {t : ℕ} → Served R step held t → Served R step (held + 1) t
      more_held v = record { index = v.index; among = omega (arith, v.among); serves = v.serves }

  -- Only the first `held` steps count.
  pub steps_kept : {other : ℕ → ℕ} → ((j : ℕ) → j < held → other j ≡ step j) → Stepped R last other held
  steps_kept {other} same =
      record {
        few = steps.few;
        each = λ j h. subst (λ (g : ℕ). (g ≤ last) × R g) (sym (same j h)) (steps.each j h);
        rising = record { rises = λ i j l h. omega (arith, same i (omega arith), same j h, steps.rising.rises i j l h) };
        served = λ t l r. kept t (steps.served t l r);
      }
    where
      kept : (t : ℕ) → Served R step held t → Served R other held t
      kept t v =
          record {
            index = v.index;
            among = v.among;
            serves = subst (λ (g : ℕ). (g ≡ t) ⊎ ((g < t) × R (t - g))) (sym (same v.index v.among)) v.serves;
          }

-- The sums of one or more sizes are such a set.
module _ (size : ℕ → ℕ) (n : ℕ) where
  abbrev pub IsReached : ℕ → Type 0
  IsReached c = reaches size n c ≡ true

  pub reaches_closed : Closed IsReached
  reaches_closed =
      record {
        least = reaches_least size n;
        add = λ s r x y. let a = reaches_least size n s x in
            let b = reaches_least size n r y in
            (reaches_says size n (s + r) (omega arith)).found (sum_add ((reaches_says size n s a).means x) ((reaches_says size n r b).means y) refl);
      }

  pub size_reached : (c : ℕ) → 1 ≤ c → Size size n c → IsReached c
  size_reached c h s = (reaches_says size n c h).found (one s)

  reached_parts : (c : ℕ) → IsReached c → Size size n c ⊎ Parts IsReached c
  reached_parts c x = by (sum_apart c ((reaches_says size n c l).means x) l)
    where
      l : 1 ≤ c
      l = reaches_least size n c x

      by : Apart (Size size n) c → Size size n c ⊎ Parts IsReached c
      by (Apart.alone z) = inl z
      by (Apart.on_top {p = p} {r = r} z rest h b e) =
          inr (record { first = p; second = r; sum = e; in_first = size_reached p (omega arith) z; in_second = (reaches_says size n r h).found rest })

  -- The next number is reached exactly where a step up to half of it leads there from a number that is reached, or it is a size.
  pub reached_next : {last held : ℕ} {step : ℕ → ℕ} → Stepped IsReached last step held
      → (Led IsReached step held (last + 1) ⊎ Size size n (last + 1)) ↔ IsReached (last + 1)
  reached_next {last} steps = (
    ⊎_elim (led_in reaches_closed steps (last + 1)) (size_reached (last + 1) (omega arith)),
    λ x. ⊎_elim inr (λ p. inl (parts_led reaches_closed steps p)) (reached_parts (last + 1) x),
  )
