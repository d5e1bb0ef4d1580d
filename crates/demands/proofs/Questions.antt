-- A question on a kept table: it is answered with the best value, and fills exactly its box.
use Prim.Native.Nat.{ℕ}
use mathlib.Core.Bool.{Bool, true, false}
use mathlib.Core.List.{List}
use mathlib.Core.Logic.{◌⊎◌, inl, inr, ⊎_elim, ◌↔◌}
use mathlib.Core.Path.{◌≡◌, refl, sym, ◌∙◌, subst}
use native.Mathlib.Omega.{arith}
use native.Mathlib.Decide.{ℕ_discrete}
use Rattle.laws.specs.Refusal.{Gives}
use Rattle.laws.specs.Inner.{Says}
use Rattle.laws.proofs.Refusal.{gives_once}
use Rattle.laws.proofs.Says.{says_false}
use Rattle.cutting.specs.Piece.{Fits, Inside}
use Rattle.cutting.specs.Candidate.{Worth}
use Rattle.cutting.proofs.Rule.{table_best}
use Rattle.cutting.proofs.Bound.{best_bound}
use Rattle.cells.specs.Cells.{empty}
use Rattle.cells.specs.Box.{is_empty, count_in_box}
use Rattle.cells.specs.Inner.{fits}
use Rattle.cells.proofs.Emptied.{fits_says}
use Rattle.fill.specs.Filled.{Fills, Bounded}
use Rattle.fill.proofs.Filled.{most_fits}
use Rattle.job.specs.declared.Job.{Job}
use Rattle.job.specs.Job.{lay_of}
use Rattle.job.specs.Block.{block_of}
use Rattle.desk.specs.Refusals.{ask_refusals, AskRefusal}
use Rattle.desk.specs.Asking.{Asked, Asks}
use Rattle.desk.proofs.Exactly.{ask_number}
use Rattle.desk.proofs.Granted.{ask_granted}
use Rattle.khonvertseg.specs.declared.KhonAsked.{KhonAsked}
use Rattle.khonvertseg.specs.Flat.{flat_asked}
use Rattle.khonvertseg.specs.Calls.{WithBlock, KhonAsks}
use Rattle.demands.specs.History.{cell, Filled, OnSheet, BestFor}
use Rattle.demands.proofs.Outcome.{Kept, Own, kept_block}

-- A call with a job's own block is that call on the job.
pub with_own : {job : Job} → Own job → {A : Type 0} {call : Job → A → List ℕ → Type 0} {no r : A} {lent left : List ℕ}
    → WithBlock (block_of job) call no lent r left → call job r left
with_own own {call = call} {r = r} {left = left} (WithBlock.shaped s c) = subst (λ (j : Job). call j r left) own.1 c
with_own own (WithBlock.shapeless h) = absurd (h own.0)

-- What a question comes to: it fills its box and says the cell and the count, or it is refused and leaves the table.
pub data Question (job : Job) (t : List ℕ) (x y : ℕ) (r : KhonAsked) (t' : List ℕ) : Type 0 where
  answered : r.refusal ≡ 0 → OnSheet job x y → Fills (lay_of job) job.width job.height x y t t' → r.value ≡ cell job t' x y
      → r.worked ≡ count_in_box x y (is_empty job.width t) → Question job t x y r t'
  refused : (r.refusal ≡ 0 → ⊥) → AskRefusal job t x y r.refusal → r.value ≡ 0 → r.worked ≡ 0 → t' ≡ t → Question job t x y r t'

pub question : {job : Job} {t : List ℕ} → Kept job t → (x y : ℕ) {r : KhonAsked} {t' : List ℕ} → KhonAsks (block_of job) t x y r t' → Question job t x y r t'
question {job} {t} k x y {t' = t'} l = subst (λ (r : KhonAsked). Question job t x y r t') (sym l.laid) (by (with_own (kept_block k) l.keeps))
  where
    by : {c : Asked} {l' : List ℕ} → Asks job t x y c l' → Question job t x y (flat_asked c) l'
    by (Asks.answered q f) = Question.answered refl (ask_granted job t x y ((ask_number job t x y).0 q) refl).inside f refl refl
    by (Asks.refused q) = Question.refused (λ z. omega arith) q refl refl refl

module _ (job : Job) (t : List ℕ) (kept : Kept job t) where
  -- On a kept table no filled cell exceeds its bound: refusal 7 never arises.
  pub kept_bounded : (x y : ℕ) → OnSheet job x y → Bounded (cell job t) x y
  kept_bounded x y i u w j f = best_bound kept.usable.range.pieces (kept.best u w (omega arith) f)

  -- So a question inside the sheet is not refused.
  pub kept_answered : (x y : ℕ) → OnSheet job x y → {k : ℕ} → AskRefusal job t x y k → k ≡ 0
  unfolding Gives ask_refusals
  kept_answered x y i {k} q =
      let u = kept.usable in
      gives_once (ask_refusals job t x y) k 0 q (inr (u.range, inr (u.room, inr (i, inr (kept_bounded x y i, refl)))))

  module _ (x y : ℕ) (i : OnSheet job x y) {after : List ℕ} (f : Fills (lay_of job) job.width job.height x y t after) where
    -- Every cell of the box then holds its best value.
    pub box_best : (u w : ℕ) → Inside u w x y → BestFor job u w (cell job after u w)
    box_best = table_best (lay_of job) kept.usable.range.pieces job.width job.height (cell job after) x y i.width_most i.height_most each
      where
        each : (u w : ℕ) → Inside u w x y
            → Worth (lay_of job) job.width job.height (cell job after) u w (cell job after u w) ⊎ BestFor job u w (cell job after u w)
        each u w j = by (ℕ_discrete (cell job t u w) empty)
          where
            by : Dec (cell job t u w ≡ empty)
                → Worth (lay_of job) job.width job.height (cell job after) u w (cell job after u w) ⊎ BestFor job u w (cell job after u w)
            by (yes e) = inl (f.worked u w j e)
            by (no h) = inr (subst (BestFor job u w) (sym (f.stayed u w j h)) (kept.best u w (omega arith) h))

    box_filled : (u w : ℕ) → Inside u w x y → Filled job after u w
    box_filled u w j e =
        let r = kept.usable.range in
        omega (arith, best_bound r.pieces (box_best u w j), most_fits u w (omega (arith, j, i, r.width_most)) (omega (arith, j, i, r.height_most)), e)

    -- A cell is filled then exactly when it was or the question covers it.
    pub asked_filled : (u w : ℕ) → OnSheet job u w → Filled job after u w ↔ (Filled job t u w ⊎ Fits u w x y)
    asked_filled u w j = by (fits u w x y) (fits_says u w x y)
      where
        by : (b : Bool) → Says b (Fits u w x y) → Filled job after u w ↔ (Filled job t u w ⊎ Fits u w x y)
        by true s = let m = s.means refl in ((λ _. inr m), (λ _. box_filled u w (omega arith)))
        by false s =
            let h : Fits u w x y → ⊥ = says_false s refl in
            let e = f.outside u w j h in
            ((λ g. inl (λ z. g (e ∙ z))), (⊎_elim (λ g z. g (sym e ∙ z)) (λ m. absurd (h m))))

    pub asked_kept : Kept job after
    asked_kept =
        record {
          usable = record { range = kept.usable.range; room = omega (arith, kept.usable.room, f.long) };
          tidy = kept.tidy;
          best = λ u w j g. by u w j g (fits u w x y) (fits_says u w x y);
        }
      where
        by : (u w : ℕ) → OnSheet job u w → Filled job after u w → (b : Bool) → Says b (Fits u w x y) → BestFor job u w (cell job after u w)
        by u w j g true s = let m = s.means refl in box_best u w (omega arith)
        by u w j g false s =
            let e = f.outside u w j (says_false s refl) in
            subst (BestFor job u w) (sym e) (kept.best u w j (λ z. g (e ∙ z)))
