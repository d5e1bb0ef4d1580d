-- The final numbers and the filled table: the equation without a depth, and that only one table fills.
use Prim.Native.Nat.{ℕ, ◌*◌, ◌≤◌, ◌<◌}
use mathlib.Core.Bool.{Bool, true, false, cond}
use mathlib.Core.Path.{◌≡◌, refl, sym, ap, ◌∙◌, subst}
use mathlib.Core.List.{List}
use mathlib.Core.Logic.{◌↔◌}
use native.Mathlib.Omega.{arith}
use lib.Dec.{eqb}
use lib.ListN.{length}
use Rattle.laws.specs.Inner.{Says}
use Rattle.laws.proofs.Says.{says_eq, says_no, says_false}
use Rattle.laws.proofs.Choice.{chosen, not_chosen, either_way}
use Rattle.laws.proofs.Depth.{deep_own}
use Rattle.laws.proofs.Largest.{largest_unique}
use Rattle.cutting.specs.Limits.{side_max}
use Rattle.cutting.specs.Piece.{Lay, Fits, Inside}
use Rattle.cutting.specs.Candidate.{Worth}
use Rattle.cutting.proofs.Box.{box_induction}
use Rattle.cutting.proofs.Bound.{most, most_mono}
use Rattle.cells.specs.Cells.{empty, cell_of}
use Rattle.cells.specs.Inner.{fits}
use Rattle.cells.proofs.Emptied.{fits_says}
use Rattle.cells.proofs.Redrawn.{redrawn-length, redrawn_cell, redrawn_beyond, is_redrawn}
use Rattle.board.specs.Inner.{Rows}
use Rattle.fill.specs.Inner.{worth_of, settled, final, filled, Valued}
use Rattle.fill.specs.Filled.{Fills, Bounded}
use Rattle.fill.proofs.Worth.{GivesWorth, worth_of_asks, worth_of_same, worth_of_most}

module _ (rows : Rows) (cell : ℕ → ℕ → ℕ) where
  -- The equation of the final numbers.
  pub final_own : (u w : ℕ) → final rows cell u w ≡ settled (cell u w) (worth_of rows (final rows cell) u w)
  unfolding final
  final_own u w =
      deep_own _ _ _
      (λ f g s same. ap (settled (cell s.0 s.1))
      (worth_of_asks rows _ _ s.0 s.1 (λ c h l. same (c, s.1) (omega arith)) (λ d h l. same (s.0, d) (omega arith))))
      (u, w)

  pub final_empty : (u w : ℕ) → cell u w ≡ empty → final rows cell u w ≡ worth_of rows (final rows cell) u w
  final_empty u w e = final_own u w ∙ chosen (says_eq (cell u w) empty) _ _ e

  pub final_kept : (u w : ℕ) → (cell u w ≡ empty → ⊥) → final rows cell u w ≡ cell u w
  final_kept u w h = final_own u w ∙ not_chosen (says_eq (cell u w) empty) _ _ h

-- Numbers that obey the equation in a box are the final numbers there.
pub final_only : (rows : Rows) (cell other : ℕ → ℕ → ℕ) (x y : ℕ) → ((u w : ℕ) → Inside u w x y → other u w ≡ settled (cell u w) (worth_of rows other u w))
    → (u w : ℕ) → Inside u w x y → other u w ≡ final rows cell u w
final_only rows cell other x y own =
    box_induction (λ u w. other u w ≡ final rows cell u w)
    (λ u w i below.
    own u w i
    ∙ (ap (settled (cell u w)) (worth_of_same rows other (final rows cell) u w i.width_least i.height_least below)
    ∙ sym (final_own rows cell u w)))

-- No cell within its bound is taken for an empty one.
pub most_fits : (x y : ℕ) → x ≤ side_max → y ≤ side_max → most x y < empty
most_fits x y h k = omega (arith, most_mono x y side_max side_max h k)

-- On a bounded box the final numbers are within their bounds.
pub final_most : (rows : Rows) (cell : ℕ → ℕ → ℕ) (x y : ℕ) → Valued rows → Bounded cell x y → (u w : ℕ) → Inside u w x y → final rows cell u w ≤ most u w
final_most rows cell x y values bounded =
    box_induction (λ u w. final rows cell u w ≤ most u w)
    (λ u w i below. subst (λ (v : ℕ). v ≤ most u w) (sym (final_own rows cell u w))
    (either_way (λ v. v ≤ most u w) (says_eq (cell u w) empty) _ _
    (λ e. worth_of_most rows (final rows cell) u w i.width_least i.height_least values below)
    (λ h. bounded u w i h)))

module _ (rows : Rows) (a b x y : ℕ) (t : List ℕ) (room : a * b ≤ length t) (wide : x ≤ a) (high : y ≤ b) where
  -- Cells of the box hold their final numbers, cells outside stay.
  pub filled_inside : (u w : ℕ) → Inside u w x y → cell_of a (filled rows a b x y t) u w ≡ final rows (cell_of a t) u w
  unfolding filled
  filled_inside u w i =
      redrawn_cell _ t room (omega arith)
      ∙ ap (λ (s : Bool). cond s (final rows (cell_of a t) u w) (cell_of a t u w)) ((fits_says u w x y).found (omega arith))

  pub filled_outside : (u w : ℕ) → Inside u w a b → (Fits u w x y → ⊥) → cell_of a (filled rows a b x y t) u w ≡ cell_of a t u w
  unfolding filled
  filled_outside u w i h =
      redrawn_cell _ t room i
      ∙ ap (λ (s : Bool). cond s (final rows (cell_of a t) u w) (cell_of a t u w)) (says_no (fits_says u w x y) h)

  -- Where what is worked out is the worth for a lay, the filled table fills ..
  module _ (lay : Lay) (gives : GivesWorth rows lay a b) where
    worth : (t' : List ℕ) (u w : ℕ) → Inside u w x y → Worth lay a b (cell_of a t') u w (worth_of rows (cell_of a t') u w)
    worth t' u w i = gives (cell_of a t') u w (omega arith)

    pub filled_fills : Fills lay a b x y t (filled rows a b x y t)
    unfolding filled
    filled_fills =
        record {
          worked = λ u w i e. subst (Worth lay a b (cell_of a (filled rows a b x y t)) u w) (sym (own u w i e)) (worth (filled rows a b x y t) u w i);
          stayed = λ u w i h. filled_inside u w i ∙ final_kept rows (cell_of a t) u w h;
          outside = filled_outside;
          beyond = redrawn_beyond a b _ t;
          long = redrawn-length a b _ t;
        }
      where
        own : (u w : ℕ) → Inside u w x y → cell_of a t u w ≡ empty → cell_of a (filled rows a b x y t) u w ≡ worth_of rows (cell_of a (filled rows a b x y t)) u w
        own u w i e =
            filled_inside u w i
            ∙ (final_empty rows (cell_of a t) u w e
            ∙ sym (worth_of_same rows _ _ u w i.width_least i.height_least (λ m n s. filled_inside m n (omega arith))))

    -- .. and no other table does.
    pub fills_only : (t' : List ℕ) → Fills lay a b x y t t' → t' ≡ filled rows a b x y t
    unfolding filled
    fills_only t' f = is_redrawn a b _ t t' f.long (λ u w i. at u w i (fits u w x y) (fits_says u w x y)) f.beyond
      where
        own : (u w : ℕ) → Inside u w x y → cell_of a t' u w ≡ settled (cell_of a t u w) (worth_of rows (cell_of a t') u w)
        own u w i = by (eqb (cell_of a t u w) empty) (says_eq (cell_of a t u w) empty)
          where
            by : (s : Bool) → Says s (cell_of a t u w ≡ empty) → cell_of a t' u w ≡ cond s (worth_of rows (cell_of a t') u w) (cell_of a t u w)
            by true s = largest_unique (f.worked u w i (s.means refl)) (worth t' u w i)
            by false s = f.stayed u w i (says_false s refl)

        at : (u w : ℕ) → Inside u w a b → (s : Bool) → Says s (Fits u w x y) → cell_of a t' u w ≡ cond s (final rows (cell_of a t) u w) (cell_of a t u w)
        at u w i true s = let g = s.means refl in final_only rows (cell_of a t) (cell_of a t') x y own u w (omega arith)
        at u w i false s = f.outside u w i (says_false s refl)

    pub fills_exactly : (t' : List ℕ) → (t' ≡ filled rows a b x y t) ↔ Fills lay a b x y t t'
    fills_exactly t' = ((λ e. subst (Fills lay a b x y t) (sym e) filled_fills), fills_only t')
