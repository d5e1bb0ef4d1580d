-- How a box is filled cell by cell and row by row: none, one more, and a box filled in two goes.
use Prim.Native.Nat.{ℕ, ◌+◌, ◌-◌, ◌*◌, ◌≤◌, ◌<◌}
use mathlib.Core.Bool.{Bool, true, false, cond, not}
use mathlib.Core.Path.{◌≡◌, refl, sym, ap, ◌∙◌, subst}
use mathlib.Core.List.{List}
use mathlib.Core.Logic.{◌⊎◌, inl, inr, ⊎_elim, ◌≢◌}
use native.Mathlib.Omega.{arith}
use native.Mathlib.Decide.{ℕ_discrete}
use lib.Dec.{eqb}
use lib.ListN.{length, get_or, set, length-set}
use Rattle.laws.specs.Inner.{Says}
use Rattle.laws.proofs.Says.{says_eq, says_false, says_not, says_iff}
use Rattle.laws.proofs.Order.{le_or_lt}
use Rattle.cutting.specs.Piece.{Fits, Inside}
use Rattle.cells.specs.Cells.{empty, place, cell_of}
use Rattle.cells.specs.Inner.{fits, any_in_box}
use Rattle.cells.specs.Box.{is_empty}
use Rattle.cells.proofs.Emptied.{fits_says}
use Rattle.cells.proofs.Box.{is_empty_says, any_in_box_says}
use Rattle.cells.proofs.Redrawn.{redrawn-length, redrawn_beyond, redrawn_same, redrawn_keeps, redrawn_again, is_redrawn, store_same, store_other, store_beyond}
use Rattle.board.specs.Inner.{Rows}
use Rattle.fill.specs.Inner.{worth_of, settled, final, filled}
use Rattle.fill.specs.Filled.{Full}
use Rattle.fill.proofs.Worth.{worth_of_same}
use Rattle.fill.proofs.Filled.{final_own, final_empty, final_kept, final_only, filled_inside, filled_outside}

-- One cell worked out, as a step on the way.
unfoldable pub cell_filled : Rows → ℕ → ℕ → ℕ → List ℕ → List ℕ
cell_filled rows a u w t = cond (is_empty a t u w) (set t (place a u w) (worth_of rows (cell_of a t) u w)) t

-- A box whose cells hold their final numbers is filled as it is.
filled_still : (rows : Rows) (a b x y : ℕ) (t : List ℕ)
    → ((u w : ℕ) → Inside u w a b → Fits u w x y → final rows (cell_of a t) u w ≡ cell_of a t u w) → t ≡ filled rows a b x y t
unfolding filled
filled_still rows a b x y t done = sym (redrawn_same a b _ (cell_of a t) t (λ u w i. by u w i (fits u w x y) (fits_says u w x y)) ∙ redrawn_keeps a b t)
  where
    by : (u w : ℕ) → Inside u w a b → (s : Bool) → Says s (Fits u w x y) → cond s (final rows (cell_of a t) u w) (cell_of a t u w) ≡ cell_of a t u w
    by u w i true s = done u w i (s.means refl)
    by u w i false s = refl

-- So is a box without cells ..
pub filled_none : (rows : Rows) (a b x y : ℕ) (t : List ℕ) → (x ≡ 0) ⊎ (y ≡ 0) → t ≡ filled rows a b x y t
filled_none rows a b x y t h =
    filled_still rows a b x y t (λ u w i f. absurd (⊎_elim (λ e. omega (arith, f.wide, i.width_least)) (λ e. omega (arith, f.high, i.height_least)) h))

-- .. and a full one.
pub filled_full : (rows : Rows) (a b x y : ℕ) (t : List ℕ) → Full a t x y → t ≡ filled rows a b x y t
filled_full rows a b x y t full = filled_still rows a b x y t (λ u w i f. final_kept rows (cell_of a t) u w (full u w (omega arith)))

-- The test for a full box.
pub full_says : (a : ℕ) (t : List ℕ) (x y : ℕ) → Says (not (any_in_box x y (is_empty a t))) (Full a t x y)
full_says a t x y =
    says_iff (
      (λ none u w i h. none (u, w, i, (is_empty_says a t u w).found h)),
      (λ f k. f k.0 k.1 k.2 ((is_empty_says a t k.0 k.1).means k.3)),
    )
    (says_not (any_in_box_says x y (is_empty a t)))

pub filled-length : (rows : Rows) (a b x y : ℕ) (t : List ℕ) → length (filled rows a b x y t) ≡ length t
unfolding filled
filled-length rows a b x y t = redrawn-length a b _ t

-- A final number taken for the old one gives itself.
settled_final : (rows : Rows) (cell : ℕ → ℕ → ℕ) (u w : ℕ) → final rows cell u w ≡ settled (final rows cell u w) (worth_of rows (final rows cell) u w)
settled_final rows cell u w = by (ℕ_discrete (cell u w) empty) (eqb v empty) (says_eq v empty)
  where
    v : ℕ
    v = final rows cell u w

    by : Dec (cell u w ≡ empty) → (s : Bool) → Says s (v ≡ empty) → v ≡ cond s (worth_of rows (final rows cell) u w) v
    by d false s = refl
    by (yes e) true s = final_empty rows cell u w e
    by (no h) true s = absurd (h (sym (final_kept rows cell u w h) ∙ s.means refl))

module _ (rows : Rows) (a b : ℕ) (t : List ℕ) (room : a * b ≤ length t) where
  -- A larger box over a filled one comes to the larger box alone.
  pub filled_again : (x y m n : ℕ) → x ≤ m → y ≤ n → m ≤ a → n ≤ b → filled rows a b m n (filled rows a b x y t) ≡ filled rows a b m n t
  unfolding filled
  filled_again x y m n g h k l =
      redrawn_same a b _ _ first same ∙ redrawn_again a b _ _ t room
    where
      first : List ℕ
      first = filled rows a b x y t

      last : ℕ → ℕ → ℕ
      last = final rows (cell_of a t)

      own : (u w : ℕ) → Inside u w m n → last u w ≡ settled (cell_of a first u w) (worth_of rows last u w)
      own u w i = by _ (fits_says u w x y)
        where
          at : {v : ℕ} → cell_of a first u w ≡ v → last u w ≡ settled v (worth_of rows last u w) → last u w ≡ settled (cell_of a first u w) (worth_of rows last u w)
          at e g = g ∙ ap (λ (v : ℕ). settled v (worth_of rows last u w)) (sym e)

          by : (s : Bool) → Says s (Fits u w x y) → last u w ≡ settled (cell_of a first u w) (worth_of rows last u w)
          by true s =
              let f = s.means refl in
              at (filled_inside rows a b x y t room (omega arith) (omega arith) u w (omega arith)) (settled_final rows (cell_of a t) u w)
          by false s =
              at (filled_outside rows a b x y t room (omega arith) (omega arith) u w (omega arith) (says_false s refl)) (final_own rows (cell_of a t) u w)

      same : (u w : ℕ) → Inside u w a b
          → cond (fits u w m n) (final rows (cell_of a first) u w) (cell_of a first u w) ≡ cond (fits u w m n) (final rows (cell_of a t) u w) (cell_of a t u w)
      same u w i = by _ (fits_says u w m n)
        where
          by : (s : Bool) → Says s (Fits u w m n)
              → cond s (final rows (cell_of a first) u w) (cell_of a first u w) ≡ cond s (final rows (cell_of a t) u w) (cell_of a t u w)
          by true s = let f = s.means refl in sym (final_only rows (cell_of a first) (final rows (cell_of a t)) m n own u w (omega arith))
          by false s = filled_outside rows a b x y t room (omega arith) (omega arith) u w i (λ f. says_false s refl (omega arith))

-- One more cell of a row, in column x, where the rows below are full.
module _ (rows : Rows) (a b : ℕ) (t : List ℕ) (room : a * b ≤ length t) (i x w : ℕ) (next : x ≡ i + 1) (wide : i < a) (least : 1 ≤ w) (high : w ≤ b)
    (full : Full a t x (w - 1)) where
  abbrev pub before : List ℕ
  before = filled rows a b i w t

  -- What cell (u, v) is to hold.
  goal : ℕ → ℕ → ℕ
  goal u v = cond (fits u v x w) (final rows (cell_of a t) u v) (cell_of a t u v)

  -- Every other cell of the box holds its final number already.
  pub early : (u v : ℕ) → Inside u v x w → ((u ≡ x) × (v ≡ w) → ⊥) → cell_of a before u v ≡ final rows (cell_of a t) u v
  early u v j other = by (le_or_lt u i)
    where
      by : (u ≤ i) ⊎ (i < u) → cell_of a before u v ≡ final rows (cell_of a t) u v
      by (inl h) = filled_inside rows a b i w t room (omega arith) high u v (omega arith)
      by (inr h) =
          let under : v ≢ w = λ e. other (omega arith, e) in
          filled_outside rows a b i w t room (omega arith) high u v (omega arith) (λ f. omega (arith, f.wide))
          ∙ sym (final_kept rows (cell_of a t) u v (full u v (omega arith)))

  elsewhere : (u v : ℕ) → Inside u v a b → ((u ≡ x) × (v ≡ w) → ⊥) → cell_of a before u v ≡ goal u v
  unfolding goal
  elsewhere u v j other = by _ (fits_says u v x w)
    where
      by : (s : Bool) → Says s (Fits u v x w) → cell_of a before u v ≡ cond s (final rows (cell_of a t) u v) (cell_of a t u v)
      by true s = let f = s.means refl in early u v (omega arith) other
      by false s = filled_outside rows a b i w t room (omega arith) high u v j (λ f. says_false s refl (omega arith))

  -- The new cell still holds what it held.
  pub old_cell : cell_of a before x w ≡ cell_of a t x w
  old_cell = filled_outside rows a b i w t room (omega arith) high x w (omega arith) (λ f. omega (arith, f.wide))

  goal_here : (v : ℕ) → v ≡ final rows (cell_of a t) x w → v ≡ goal x w
  unfolding goal
  goal_here v e =
      e ∙ ap (λ (s : Bool). cond s (final rows (cell_of a t) x w) (cell_of a t x w)) (sym ((fits_says x w x w).found (omega arith)))

  worth_here : cell_of a t x w ≡ empty → worth_of rows (cell_of a before) x w ≡ final rows (cell_of a t) x w
  worth_here e =
      worth_of_same rows _ _ x w (omega arith) least (λ u v s. early u v s.inside (λ h. omega (arith, s.less, h.0, h.1)))
      ∙ sym (final_empty rows (cell_of a t) x w e)

  -- A row that agrees with `before` but for the new cell, which holds its final number, is the box with one cell more.
  grown : (t' : List ℕ) → length t' ≡ length before → cell_of a t' x w ≡ final rows (cell_of a t) x w
      → ((u v : ℕ) → Inside u v a b → ((u ≡ x) × (v ≡ w) → ⊥) → cell_of a t' u v ≡ cell_of a before u v)
      → ((k : ℕ) → a * b ≤ k → get_or t' k empty ≡ get_or before k empty) → t' ≡ filled rows a b x w t
  unfolding filled goal
  grown t' long here others beyond =
      is_redrawn a b goal t t' (long ∙ redrawn-length a b _ t)
      (λ u v j. at u v j (ℕ_discrete u x) (ℕ_discrete v w))
      (λ k h. beyond k h ∙ redrawn_beyond a b _ t k h)
    where
      at : (u v : ℕ) → Inside u v a b → Dec (u ≡ x) → Dec (v ≡ w) → cell_of a t' u v ≡ goal u v
      at u v j (yes e) (yes f) =
          subst (λ (m : ℕ). cell_of a t' m v ≡ goal m v) (sym e) (subst (λ (n : ℕ). cell_of a t' x n ≡ goal x n) (sym f) (goal_here _ here))
      at u v j (yes e) (no f) = let other : (u ≡ x) × (v ≡ w) → ⊥ = λ h. f h.1 in others u v j other ∙ elsewhere u v j other
      at u v j (no e) d = let other : (u ≡ x) × (v ≡ w) → ⊥ = λ h. e h.0 in others u v j other ∙ elsewhere u v j other

  pub filled_cell : cell_filled rows a x w (filled rows a b i w t) ≡ filled rows a b x w t
  unfolding cell_filled
  filled_cell = by _ (is_empty_says a before x w)
    where
      here : Inside x w a b
      here = omega arith

      room' : a * b ≤ length before
      room' = omega (arith, filled-length rows a b i w t)

      by : (s : Bool) → Says s (cell_of a before x w ≡ empty)
          → cond s (set before (place a x w) (worth_of rows (cell_of a before) x w)) before ≡ filled rows a b x w t
      by true s =
          grown _ (length-set before _ _)
          (store_same before _ room' here ∙ worth_here (sym old_cell ∙ s.means refl))
          (λ u v j other. store_other before _ here j other)
          (λ k h. store_beyond before _ here k h)
      by false s =
          grown before refl
          (old_cell ∙ sym (final_kept rows (cell_of a t) x w (λ e. says_false s refl (old_cell ∙ e))))
          (λ u v j other. refl)
          (λ k h. refl)
