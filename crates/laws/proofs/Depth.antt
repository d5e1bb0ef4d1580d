-- Any depth gives the same: a recursion that goes down to smaller ones has its own equation, without a depth. To use it, define (specs)
--   part_at pieces s = deep around Part.Broken (λ read f. part_by pieces read f (node_at pieces s f))
-- and prove, where part_by_same says that part_by asks `read` for smaller frames alone,
--   part_own : (f : Frame) → part_at pieces s f ≡ part_by pieces (part_at pieces s) f (node_at pieces s f)
--   unfolding part_at
--   part_own = deep_own _ _ _ (λ R S f same. part_by_same R S pieces s f (node_at pieces s f) (node_tells pieces s f refl) same)
use Prim.Native.Nat.{ℕ, zero, suc, ◌<◌}
use mathlib.Core.Path.{◌≡◌, sym, ◌∙◌, subst}
use native.Mathlib.Omega.{arith}
use Rattle.laws.specs.Inner.{to_depth, deep}

-- What holds of s where it holds of all smaller ones, holds.
pub by_size : {S : Type 0} (size : S → ℕ) (Holds : S → Type 0) → ((s : S) → ((r : S) → size r < size s → Holds r) → Holds s) → (s : S) → Holds s
by_size {S} size Holds step s = go (suc (size s)) s (omega arith)
  where
    go : (k : ℕ) (s : S) → size s < k → Holds s
    go zero s h = absurd (omega arith)
    go (suc k) s h = step s (λ r l. go k r (omega arith))

-- The answer for s asks for the answers of smaller ones alone.
abbrev pub AsksSmaller : {S A : Type 0} → (S → ℕ) → ((S → A) → S → A) → Type 0
AsksSmaller {S} {A} size body = (f g : S → A) (s : S) → ((r : S) → size r < size s → f r ≡ g r) → body f s ≡ body g s

module _ {S A : Type 0} (size : S → ℕ) (last : A) (body : (S → A) → S → A) where
  -- What every answer keeps, and `last` has, all have.
  pub deep_keeps : (Holds : S → A → Type 0)
      → ((s : S) → Holds s last)
      → ((f : S → A) → ((r : S) → Holds r (f r)) → (s : S) → Holds s (body f s))
      → (s : S) → Holds s (deep size last body s)
  unfolding deep to_depth
  deep_keeps Holds start step s = go (suc (size s)) s
    where
      go : (k : ℕ) (s : S) → Holds s (to_depth last body k s)
      go zero s = start s
      go (suc k) s = step (to_depth last body k) (go k) s

  module _ (smaller : AsksSmaller size body) where
    pub any_depth : (k m : ℕ) (s : S) → size s < k → size s < m → to_depth last body k s ≡ to_depth last body m s
    unfolding to_depth
    any_depth zero m s h l = absurd (omega arith)
    any_depth (suc k) zero s h l = absurd (omega arith)
    any_depth (suc k) (suc m) s h l = smaller _ _ s (λ r b. any_depth k m r (omega arith) (omega arith))

    pub deep_own : (s : S) → deep size last body s ≡ body (deep size last body) s
    unfolding deep to_depth
    deep_own s = smaller _ _ s (λ r b. any_depth (size s) (suc (size r)) r b (omega arith))

    -- What holds of s where it holds of all smaller ones, holds of every answer.
    pub deep_holds : (Holds : S → A → Type 0)
        → ((s : S) → ((r : S) → size r < size s → Holds r (deep size last body r)) → Holds s (body (deep size last body) s))
        → (s : S) → Holds s (deep size last body s)
    deep_holds Holds step = by_size size (λ s. Holds s (deep size last body s)) (λ s below. subst (Holds s) (sym (deep_own s)) (step s below))

    -- There is only one that has the equation.
    pub deep_only : (f : S → A) → ((s : S) → f s ≡ body f s) → (s : S) → f s ≡ deep size last body s
    deep_only f own = by_size size (λ s. f s ≡ deep size last body s) (λ s below. own s ∙ (smaller _ _ s below ∙ sym (deep_own s)))
