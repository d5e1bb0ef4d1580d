-- What open, add, correct and remove come to, from their promises.
use Prim.Native.Nat.{ℕ, ◌-◌, ◌*◌, ◌≤◌}
use mathlib.Core.List.{List, []}
use mathlib.Core.Logic.{◌⊎◌, inl, inr}
use mathlib.Core.Path.{◌≡◌, refl, sym, ap, ◌∙◌, subst}
use native.Mathlib.Omega.{arith}
use lib.ListN.{length}
use Rattle.cutting.specs.Piece.{Piece, Lays, piece_at}
use Rattle.cutting.specs.Dissection.{Best}
use Rattle.cutting.specs.Change.{added, corrected, removed, TooLarge}
use Rattle.cutting.proofs.Fitting.{added_leaves, corrected_leaves, removed_leaves}
use Rattle.cells.specs.Cells.{empty}
use Rattle.cells.specs.Emptied.{Empties}
use Rattle.job.specs.declared.Piece.{Piece as Record}
use Rattle.job.specs.declared.Job.{Job}
use Rattle.job.specs.Job.{piece_of, pieces_of, job_of, Tidy}
use Rattle.job.specs.Change.{with_added, with_corrected, with_removed}
use Rattle.job.proofs.Pieces.{pieces-length, pieces_at, job_of_tidy}
use Rattle.job.proofs.Range.{new_in_range}
use Rattle.job.proofs.Changed.{pieces_added, pieces_corrected, pieces_removed, added-length, corrected-length, added_in_range, corrected_in_range, removed_in_range}
use Rattle.desk.specs.Refusals.{Usable, IsNumber}
use Rattle.desk.specs.Changing.{Changed, record_of_piece, SizeFits, Changes, Opens}
use Rattle.desk.proofs.Exactly.{open_number, add_number, correct_number, remove_number}
use Rattle.desk.proofs.Granted.{open_granted, add_granted, correct_granted, remove_granted}
use Rattle.khonvertseg.specs.declared.KhonChanged.{KhonChanged}
use Rattle.khonvertseg.specs.Flat.{flat_changed}
use Rattle.khonvertseg.specs.Calls.{Laid, KhonOpens, KhonAdds, KhonCorrects, KhonRemoves}
use Rattle.demands.specs.History.{cell, OnSheet}
use Rattle.demands.proofs.Outcome.{Struck, Outcome}

-- A change on a job, laid out flat, where an accepted one is known to strike.
outcome : {job after : Job} {t t' : List ℕ} {refusal : ℕ → Type 0} {hit : ℕ → ℕ → Type 0} {r : KhonChanged}
    → (refusal 0 → Empties job.width job.height hit t t' → Struck job t after t' hit)
    → Laid flat_changed (λ c. Changes job.width job.height refusal hit after job t c t') r → Outcome job t r.job t' r.refusal hit
outcome {job} {after} {t} {t'} {refusal} {hit} s l = subst (λ (r : KhonChanged). Outcome job t r.job t' r.refusal hit) (sym l.laid) (by s l.keeps)
  where
    by : {l' : List ℕ} {c : Changed} → (refusal 0 → Empties job.width job.height hit t l' → Struck job t after l' hit)
        → Changes job.width job.height refusal hit after job t c l' → Outcome job t c.job l' c.refusal hit
    by s (Changes.accepted z e) = Outcome.accepted refl (s z e)
    by s (Changes.refused q) = Outcome.refused (λ z. omega arith) refl refl

-- Emptying leaves room as it was.
roomy : {job : Job} {t t' : List ℕ} {hit : ℕ → ℕ → Type 0} → Usable job t → Empties job.width job.height hit t t' → job.width * job.height ≤ length t'
roomy u e = omega (arith, u.room, e.long)

-- Sizes of records and of pieces.
old_piece : (job : Job) (k : ℕ) → IsNumber job k → piece_at (pieces_of job) k ≡ piece_of (record_of_piece job k)
unfolding piece_at record_of_piece
old_piece job k n = pieces_at job (k - 1) (omega (arith, n.least, n.most))

old_large : (job : Job) (k : ℕ) → IsNumber job k → (u w : ℕ) → (SizeFits (record_of_piece job k) u w → ⊥) → TooLarge (piece_at (pieces_of job) k) u w
old_large job k n u w h = subst (λ (p : Piece). TooLarge p u w) (sym (old_piece job k n)) h

-- Best values for other pieces that are the same.
best_as : {ps qs : List Piece} (u w v : ℕ) → qs ≡ ps → Best (Lays ps) u w v → Best (Lays qs) u w v
best_as u w v e = subst (λ (ps : List Piece). Best (Lays ps) u w v) (sym e)

pub add_outcome : (job : Job) (t : List ℕ) (piece : Record) {r : KhonChanged} {t' : List ℕ} → KhonAdds job t piece r t'
    → Outcome job t r.job t' r.refusal (SizeFits piece)
unfolding with_added job_of
add_outcome job t piece =
    outcome (λ z e.
    let g = add_granted job t piece ((add_number job t piece).0 z) refl in
    let pieces = added (pieces_of job) (piece_of piece) in
    record {
      width = refl;
      height = refl;
      cells = e;
      usable = record { range = added_in_range job g.usable.range piece g.space g.range; room = roomy g.usable e };
      tidy = job_of_tidy job.width job.height pieces (omega (arith, added-length (pieces_of job) (piece_of piece), pieces-length job, g.space));
      leaves = λ u w v h b. best_as u w v (pieces_added job piece g.space) ((added_leaves (pieces_of job) (piece_of piece) u w v h).0 b);
    })

pub remove_outcome : (job : Job) (t : List ℕ) (k : ℕ) {r : KhonChanged} {t' : List ℕ} → KhonRemoves job t k r t'
    → Outcome job t r.job t' r.refusal (SizeFits (record_of_piece job k))
unfolding with_removed job_of
remove_outcome job t k =
    outcome (λ z e.
    let g = remove_granted job t k ((remove_number job t k).0 z) refl in
    let n = g.number in
    let range = removed_in_range job g.usable.range k n.least n.most in
    let same = pieces_removed job k g.usable.range.count_most n.least n.most in
    let stays = removed_leaves (pieces_of job) k n.least (omega (arith, pieces-length job, n.most)) in
    record {
      width = refl;
      height = refl;
      cells = e;
      usable = record { range = range; room = roomy g.usable e };
      tidy = job_of_tidy job.width job.height (removed (pieces_of job) k) range.count_most;
      leaves = λ u w v h b. best_as u w v same ((stays u w v (old_large job k n u w h)).0 b);
    })

pub correct_outcome : (job : Job) (t : List ℕ) (k : ℕ) (piece : Record) {r : KhonChanged} {t' : List ℕ} → KhonCorrects job t k piece r t'
    → Outcome job t r.job t' r.refusal (λ u w. SizeFits (record_of_piece job k) u w ⊎ SizeFits piece u w)
unfolding with_corrected job_of
correct_outcome job t k piece =
    outcome (λ z e.
    let g = correct_granted job t k piece ((correct_number job t k piece).0 z) refl in
    let n = g.number in
    let few = g.usable.range.count_most in
    let pieces = corrected (pieces_of job) k (piece_of piece) in
    let stays = corrected_leaves (pieces_of job) k n.least (omega (arith, pieces-length job, n.most)) (piece_of piece) in
    record {
      width = refl;
      height = refl;
      cells = e;
      usable = record { range = corrected_in_range job g.usable.range k piece g.range; room = roomy g.usable e };
      tidy = job_of_tidy job.width job.height pieces (omega (arith, corrected-length (pieces_of job) k (piece_of piece), pieces-length job, few));
      leaves = λ u w v h b. best_as u w v (pieces_corrected job k piece few) ((stays u w v (old_large job k n u w (λ f. h (inl f))) (λ f. h (inr f))).0 b);
    })

-- An opened sheet: it can be used, and no cell of it is filled.
pub record Opened (job : Job) (t : List ℕ) : Type 0 where
  pub usable : Usable job t
  pub tidy : Tidy job
  pub none : (u w : ℕ) → OnSheet job u w → cell job t u w ≡ empty

pub open_outcome : (a b : ℕ) (t : List ℕ) {r : KhonChanged} {t' : List ℕ} → KhonOpens a b t r t' → r.refusal ≡ 0 → Opened r.job t'
unfolding job_of
open_outcome a b t {t' = t'} l z =
    subst (λ (r : KhonChanged). Opened r.job t') (sym l.laid) (by l.keeps (sym (ap (λ (r : KhonChanged). r.refusal) l.laid) ∙ z))
  where
    by : {c : Changed} {l' : List ℕ} → Opens a b t c l' → c.refusal ≡ 0 → Opened c.job l'
    by (Changes.accepted q e) y =
        let h = open_granted a b t ((open_number a b t).0 q) refl in
        let range = new_in_range a b (record { least = h.width_least; most = h.width_most }) (record { least = h.height_least; most = h.height_most }) in
        record {
          usable = record { range = range; room = omega (arith, h.room, e.long) };
          tidy = job_of_tidy a b [] (omega arith);
          none = λ u w i. e.emptied u w i tt;
        }
    by (Changes.refused q) y = absurd (omega arith)
