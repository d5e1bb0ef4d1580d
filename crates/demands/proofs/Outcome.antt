-- What a change comes to, accepted or refused: one theory for add, correct and remove.
use Prim.Native.Nat.{ℕ}
use mathlib.Core.List.{List}
use mathlib.Core.Logic.{◌↔◌}
use mathlib.Core.Path.{◌≡◌, sym, ap, ◌∙◌, subst}
use Rattle.cutting.specs.Piece.{Inside}
use Rattle.cells.specs.Cells.{empty, cell_of}
use Rattle.cells.specs.Emptied.{Empties}
use Rattle.job.specs.declared.Job.{Job}
use Rattle.job.specs.Job.{Tidy}
use Rattle.job.specs.Block.{block_of, job_in, BlockShape}
use Rattle.job.proofs.Blocks.{own_block}
use Rattle.desk.specs.Refusals.{Usable}
use Rattle.demands.specs.History.{cell, Filled, OnSheet, BestFor}

-- A kept table: it can be used, the job is that of its own block, and every filled cell holds the best value for the pieces as they stand.
pub record Kept (job : Job) (t : List ℕ) : Type 0 where
  pub usable : Usable job t
  pub tidy : Tidy job
  pub best : (u w : ℕ) → OnSheet job u w → Filled job t u w → BestFor job u w (cell job t u w)

-- The job is the job of its own block.
abbrev pub Own : Job → Type 0
Own job = BlockShape (block_of job) × (job_in (block_of job) ≡ job)

pub kept_block : {job : Job} {t : List ℕ} → Kept job t → Own job
kept_block {job} k = own_block job k.usable.range k.tidy

-- An accepted change: exactly the cells of `hit` are emptied, and the best values of the others stay.
pub record Struck (job : Job) (t : List ℕ) (job' : Job) (t' : List ℕ) (hit : ℕ → ℕ → Type 0) : Type 0 where
  pub width : job'.width ≡ job.width
  pub height : job'.height ≡ job.height
  pub cells : Empties job.width job.height hit t t'
  pub usable : Usable job' t'
  pub tidy : Tidy job'
  pub leaves : (u w v : ℕ) → (hit u w → ⊥) → BestFor job u w v → BestFor job' u w v

pub data Outcome (job : Job) (t : List ℕ) (job' : Job) (t' : List ℕ) (refusal : ℕ) (hit : ℕ → ℕ → Type 0) : Type 0 where
  accepted : refusal ≡ 0 → Struck job t job' t' hit → Outcome job t job' t' refusal hit
  refused : (refusal ≡ 0 → ⊥) → job' ≡ job → t' ≡ t → Outcome job t job' t' refusal hit

module _ {job : Job} {t : List ℕ} {job' : Job} {t' : List ℕ} {hit : ℕ → ℕ → Type 0} (s : Struck job t job' t' hit) where
  here : (u w : ℕ) → OnSheet job' u w → OnSheet job u w
  here u w i = subst (λ (m : ℕ). Inside u w m job.height) s.width (subst (λ (n : ℕ). Inside u w job'.width n) s.height i)

  same_cell : (u w : ℕ) → cell job' t' u w ≡ cell job t' u w
  same_cell u w = ap (λ (m : ℕ). cell_of m t' u w) s.width

  -- A cell that was hit is empty, any other is as it was.
  struck_hit : (u w : ℕ) → OnSheet job' u w → hit u w → cell job' t' u w ≡ empty
  struck_hit u w i h = same_cell u w ∙ s.cells.emptied u w (here u w i) h

  struck_spared : (u w : ℕ) → OnSheet job' u w → (hit u w → ⊥) → cell job' t' u w ≡ cell job t u w
  struck_spared u w i h = same_cell u w ∙ s.cells.kept u w (here u w i) h

  -- A filled cell was not hit.
  struck_filled : (u w : ℕ) → OnSheet job' u w → Filled job' t' u w → Filled job t u w × (hit u w → ⊥)
  struck_filled u w i f = let spared : hit u w → ⊥ = λ h. f (struck_hit u w i h) in ((λ e. f (struck_spared u w i spared ∙ e)), spared)

  struck_kept : Kept job t → Kept job' t'
  struck_kept k = record { usable = s.usable; tidy = s.tidy; best = best }
    where
      best : (u w : ℕ) → OnSheet job' u w → Filled job' t' u w → BestFor job' u w (cell job' t' u w)
      best u w i f =
          let g = struck_filled u w i f in
          subst (BestFor job' u w) (sym (struck_spared u w i g.1)) (s.leaves u w _ g.1 (k.best u w (here u w i) g.0))

-- A job of its own block stays one.
pub own_after : {job : Job} {t : List ℕ} {job' : Job} {t' : List ℕ} {refusal : ℕ} {hit : ℕ → ℕ → Type 0} → Own job → Outcome job t job' t' refusal hit
    → Own job'
own_after {job' = job'} o (Outcome.accepted e s) = own_block job' s.usable.range s.tidy
own_after o (Outcome.refused h e f) = subst Own (sym e) o

-- A kept table stays kept.
pub outcome_kept : {job : Job} {t : List ℕ} {job' : Job} {t' : List ℕ} {refusal : ℕ} {hit : ℕ → ℕ → Type 0} → Kept job t → Outcome job t job' t' refusal hit
    → Kept job' t'
outcome_kept k (Outcome.accepted e s) = struck_kept s k
outcome_kept {t' = t'} k (Outcome.refused h e f) =
    subst (λ (j : Job). Kept j t') (sym e) (subst (Kept _) (sym f) k)

-- A cell is filled after the change exactly when it was before and an accepted change did not hit it.
pub outcome_filled : {job : Job} {t : List ℕ} {job' : Job} {t' : List ℕ} {refusal : ℕ} {hit : ℕ → ℕ → Type 0} → Outcome job t job' t' refusal hit → (u w : ℕ)
    → OnSheet job' u w → OnSheet job u w × (Filled job' t' u w ↔ (Filled job t u w × (refusal ≡ 0 → hit u w → ⊥)))
outcome_filled (Outcome.accepted e s) u w i =
    (here s u w i, ((λ f. let g = struck_filled s u w i f in (g.0, λ _. g.1)), (λ g x. g.0 (sym (struck_spared s u w i (g.1 e)) ∙ x))))
outcome_filled {job} {t} {job'} {t'} {refusal} {hit} (Outcome.refused h e f) u w i =
    subst (λ (j : Job). OnSheet j u w → OnSheet job u w × (Filled j t' u w ↔ (Filled job t u w × (refusal ≡ 0 → hit u w → ⊥)))) (sym e)
    (λ k. (k, subst (λ (l : List ℕ). Filled job l u w ↔ (Filled job t u w × (refusal ≡ 0 → hit u w → ⊥))) (sym f) ((λ g. (g, λ z. absurd (h z))), λ g. g.0))) i
