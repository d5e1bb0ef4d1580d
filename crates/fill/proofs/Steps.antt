-- One law a step for the loops that work out a cell: none, one more, end.
use Prim.Native.Nat.{ℕ, suc, ◌+◌, ◌/◌, max}
use mathlib.Core.Bool.{Bool, true, false, cond}
use mathlib.Core.Path.{◌≡◌, sym, ap, ap₂, ◌∙◌}
use native.Mathlib.Omega.{arith}
use Rattle.laws.specs.Inner.{best_below}
use Rattle.laws.proofs.Below.{best_below_none, best_below_more}
use Rattle.cutting.specs.Dissection.{rest}
use Rattle.cells.specs.Inner.{fits}
use Rattle.fill.specs.Inner.{fitting_value, line_at, line_value}

module _ (width height value : ℕ → ℕ) where
  pub fitting_none : (u w : ℕ) → 0 ≡ fitting_value width height value 0 u w
  unfolding fitting_value
  fitting_none u w = sym (best_below_none _)

  pub fitting_more : (u w k : ℕ) {best here next : ℕ} → best ≡ fitting_value width height value k u w → here ≡ cond (fits (width k) (height k) u w) (value k) 0
      → next ≡ max best here → next ≡ fitting_value width height value (k + 1) u w
  unfolding fitting_value
  fitting_more u w k e h n = n ∙ (ap₂ max e h ∙ sym (best_below_more _ _))

-- The lines at 1, …, c.
unfoldable pub lines_up_to : (ℕ → Bool) → (ℕ → ℕ) → ℕ → ℕ → ℕ
lines_up_to marked part x c = best_below (λ i. line_at marked part x (suc i)) c

module _ (marked : ℕ → Bool) (part : ℕ → ℕ) (x : ℕ) where
  pub lines_none : 0 ≡ lines_up_to marked part x 0
  unfolding lines_up_to
  lines_none = sym (best_below_none _)

  pub lines_more : (k : ℕ) {c best here later : ℕ} → c ≡ k + 1 → best ≡ lines_up_to marked part x k → here ≡ line_at marked part x c → later ≡ max best here
      → later ≡ lines_up_to marked part x c
  unfolding lines_up_to
  lines_more k {c} next e h n =
      let at : c ≡ suc k = omega arith in
      n ∙ (ap₂ max e (h ∙ ap (line_at marked part x) at) ∙ (sym (best_below_more _ _) ∙ ap (best_below (λ i. line_at marked part x (suc i))) (sym next)))

  pub lines_end : {c best : ℕ} → best ≡ lines_up_to marked part x c → c ≡ x / 2 → best ≡ line_value marked part x
  unfolding lines_up_to line_value
  lines_end e h = e ∙ ap (best_below (λ i. line_at marked part x (suc i))) h

  pub line_marked : {c m n : ℕ} {b : Bool} → b ≡ marked c → b ≡ true → m ≡ part c → n ≡ part (rest x c) → m + n ≡ line_at marked part x c
  unfolding line_at
  line_marked {c} e t h k = ap₂ ◌+◌ h k ∙ ap (λ (b : Bool). cond b (part c + part (rest x c)) 0) (sym t ∙ e)

  pub line_unmarked : {c : ℕ} {b : Bool} → b ≡ marked c → b ≡ false → 0 ≡ line_at marked part x c
  unfolding line_at
  line_unmarked {c} e t = ap (λ (b : Bool). cond b (part c + part (rest x c)) 0) (sym t ∙ e)
