-- Rule 10.1, call by call: the number is the list's and no other, and a refusal leaves job, cells and bytes and answers zeros.
use Prim.Native.Nat.{ℕ, ◌≤◌}
use native.Mathlib.Omega.{arith}
use mathlib.Core.List.{List, []}
use mathlib.Core.Logic.{inl}
use mathlib.Core.Path.{◌≡◌, refl, sym, ap, ◌∙◌, subst}
use lib.ListN.{length, get_or}
use Rattle.laws.specs.ByIndex.{by_index}
use Rattle.laws.specs.Refusal.{Gives}
use Rattle.laws.proofs.Refusal.{gives_once}
use Rattle.laws.proofs.Says.{true≢false}
use Rattle.cutting.specs.Piece.{Piece}
use Rattle.cutting.specs.Change.{added, corrected, removed}
use Rattle.fields.specs.Number.{bytes2, number2_of, Bytes}
use Rattle.job.specs.declared.Piece.{Piece as Record}
use Rattle.job.specs.declared.Job.{Job}
use Rattle.job.specs.Job.{piece_of, no_record, pieces_of, job_of, zero_job}
use Rattle.job.specs.Range.{JobInRange}
use Rattle.job.specs.Change.{with_added, with_corrected, with_removed}
use Rattle.job.proofs.Range.{job_says, zeros_refused}
use Rattle.job.proofs.Pieces.{job_of_zeros}
use Rattle.job.specs.Block.{bytes_of_pieces, bytes_of_head, block, block_of, job_in, BlockShape}
use Rattle.refusals.specs.Refusals.{bad_job}
use Rattle.desk.specs.Refusals.{open_refusals, add_refusals, correct_refusals, remove_refusals, ask_refusals, OpenRefusal, AddRefusal, CorrectRefusal, RemoveRefusal, AskRefusal}
use Rattle.desk.specs.Changing.{Changed, Changes}
use Rattle.desk.specs.Asking.{Asked, Asks}
use Rattle.plan.specs.Refusals.{plan_refusals, PlanRefusal}
use Rattle.plan.specs.Planning.{Planned, Plans}
use Rattle.plan.proofs.Exactly.{plan_accepted}
use Rattle.checker.specs.Checked.{Checked, answer}
use Rattle.checker.specs.Given.{Given}
use Rattle.checker.proofs.Given.{only}
use Rattle.khonvertseg.specs.declared.KhonChanged.{KhonChanged}
use Rattle.khonvertseg.specs.declared.KhonAsked.{KhonAsked}
use Rattle.khonvertseg.specs.declared.KhonPlanned.{KhonPlanned}
use Rattle.khonvertseg.specs.declared.KhonChecked.{KhonChecked}
use Rattle.khonvertseg.specs.Flat.{flat_changed, flat_asked, flat_planned, flat_checked}
use Rattle.khonvertseg.specs.Calls.{Laid, WithBlock, KhonOpens, KhonAdds, KhonCorrects, KhonRemoves, AsksBlock, KhonAsks, PlansBlock, KhonPlans, KhonChecks}
use Rattle.demands.specs.Refuses.{Refuses, BlockRefusal, CheckRefusal}

-- A list that gives one number only, and one that it gives.
abbrev Single : (ℕ → Type 0) → Type 0
Single list = (j k : ℕ) → list j → list k → j ≡ k

listed : {list : ℕ → Type 0} {number : ℕ} {untouched : Type 0} → Single list → list number → ((number ≡ 0 → ⊥) → untouched) → Refuses list number untouched
listed {number = number} one q leaves = record { given = q; only = λ k g. one k number g q; leaves = leaves }

-- A change.
changes : {a b : ℕ} {refusal : ℕ → Type 0} {hit : ℕ → ℕ → Type 0} {after left : Job} {t t' : List ℕ} {r : KhonChanged} → Single refusal
    → Laid flat_changed (λ c. Changes a b refusal hit after left t c t') r → Refuses refusal r.refusal ((r.job ≡ left) × (t' ≡ t))
changes {a} {b} {refusal} {hit} {after} {left} {t} {t'} one l =
    subst (λ (r : KhonChanged). Refuses refusal r.refusal ((r.job ≡ left) × (t' ≡ t))) (sym l.laid) (by l.keeps)
  where
    by : {c : Changed} {l' : List ℕ} → Changes a b refusal hit after left t c l' → Refuses refusal c.refusal ((c.job ≡ left) × (l' ≡ t))
    by (Changes.accepted q e) = listed one q (λ h. absurd (h refl))
    by (Changes.refused q) = listed one q (λ _. (refl, refl))

pub demand_1_open : (width height : ℕ) (t : List ℕ) {r : KhonChanged} {t' : List ℕ} → KhonOpens width height t r t'
    → Refuses (OpenRefusal width height t) r.refusal ((r.job ≡ zero_job) × (t' ≡ t))
demand_1_open a b t = changes (gives_once (open_refusals a b t))

pub demand_1_add : (job : Job) (t : List ℕ) (piece : Record) {r : KhonChanged} {t' : List ℕ} → KhonAdds job t piece r t'
    → Refuses (AddRefusal job t piece) r.refusal ((r.job ≡ job) × (t' ≡ t))
demand_1_add job t piece = changes (gives_once (add_refusals job t piece))

pub demand_1_correct : (job : Job) (t : List ℕ) (number : ℕ) (piece : Record) {r : KhonChanged} {t' : List ℕ} → KhonCorrects job t number piece r t'
    → Refuses (CorrectRefusal job t number piece) r.refusal ((r.job ≡ job) × (t' ≡ t))
demand_1_correct job t number piece = changes (gives_once (correct_refusals job t number piece))

pub demand_1_remove : (job : Job) (t : List ℕ) (number : ℕ) {r : KhonChanged} {t' : List ℕ} → KhonRemoves job t number r t'
    → Refuses (RemoveRefusal job t number) r.refusal ((r.job ≡ job) × (t' ≡ t))
demand_1_remove job t number = changes (gives_once (remove_refusals job t number))

-- A call with a block refuses as the call on its job does, or, where it has no shape, with 1.
module _ {block : List ℕ} {list : Job → ℕ → Type 0} {untouched : Type 0} where
  shaped_refuses : {number : ℕ} → BlockShape block → Refuses (list (job_in block)) number untouched → Refuses (BlockRefusal block list) number untouched
  shaped_refuses {number} s r = record { given = BlockRefusal.shaped s r.given; only = by; leaves = r.leaves }
    where
      by : (k : ℕ) → BlockRefusal block list k → k ≡ number
      by k (BlockRefusal.shapeless h) = absurd (h s)
      by k (BlockRefusal.shaped s' q) = r.only k q

  shapeless_refuses : (BlockShape block → ⊥) → untouched → Refuses (BlockRefusal block list) bad_job untouched
  shapeless_refuses h u = record { given = BlockRefusal.shapeless h; only = by; leaves = λ _. u }
    where
      by : (k : ℕ) → BlockRefusal block list k → k ≡ bad_job
      by k (BlockRefusal.shapeless g) = refl
      by k (BlockRefusal.shaped s q) = absurd (h s)

pub demand_1_ask : (block t : List ℕ) (x y : ℕ) {r : KhonAsked} {t' : List ℕ} → KhonAsks block t x y r t'
    → Refuses (BlockRefusal block (λ job. AskRefusal job t x y)) r.refusal ((r.value ≡ 0) × (r.worked ≡ 0) × (t' ≡ t))
demand_1_ask block t x y {t' = t'} l = subst (refuses t') (sym l.laid) (by l.keeps)
  where
    refuses : List ℕ → KhonAsked → Type 0
    refuses l' r = Refuses (BlockRefusal block (λ job. AskRefusal job t x y)) r.refusal ((r.value ≡ 0) × (r.worked ≡ 0) × (l' ≡ t))

    one : (job : Job) → Single (AskRefusal job t x y)
    one job = gives_once (ask_refusals job t x y)

    asks : (job : Job) {c : Asked} {l' : List ℕ} → Asks job t x y c l'
        → Refuses (AskRefusal job t x y) (flat_asked c).refusal (((flat_asked c).value ≡ 0) × ((flat_asked c).worked ≡ 0) × (l' ≡ t))
    asks job (Asks.answered q f) = listed (one job) q (λ h. absurd (h refl))
    asks job (Asks.refused q) = listed (one job) q (λ _. (refl, refl, refl))

    by : {c : Asked} {l' : List ℕ} → AsksBlock block t x y c l' → refuses l' (flat_asked c)
    by (WithBlock.shaped s a) = shaped_refuses s (asks (job_in block) a)
    by (WithBlock.shapeless h) = shapeless_refuses h (refl, refl, refl)

pub demand_1_plan : (block t : List ℕ) (x y : ℕ) (o : List ℕ) {r : KhonPlanned} {o' : List ℕ} → KhonPlans block t x y o r o'
    → Refuses (BlockRefusal block (λ job. PlanRefusal job t x y (length o))) r.refusal ((r.length ≡ 0) × (r.value ≡ 0) × (o' ≡ o))
demand_1_plan block t x y o {o' = o'} l = subst (refuses o') (sym l.laid) (by l.keeps)
  where
    refuses : List ℕ → KhonPlanned → Type 0
    refuses l' r = Refuses (BlockRefusal block (λ job. PlanRefusal job t x y (length o))) r.refusal ((r.length ≡ 0) × (r.value ≡ 0) × (l' ≡ o))

    one : (job : Job) → Single (PlanRefusal job t x y (length o))
    one job = gives_once (plan_refusals job t x y (length o))

    plans : (job : Job) {c : Planned} {l' : List ℕ} → Plans job t x y o c l'
        → Refuses (PlanRefusal job t x y (length o)) (flat_planned c).refusal (((flat_planned c).length ≡ 0) × ((flat_planned c).value ≡ 0) × (l' ≡ o))
    plans job (Plans.written r b m) = listed (one job) (plan_accepted job t x y (length o) r b m) (λ h. absurd (h refl))
    plans job (Plans.refused q) = listed (one job) q (λ _. (refl, refl, refl))

    by : {c : Planned} {l' : List ℕ} → PlansBlock block t x y o c l' → refuses l' (flat_planned c)
    by (WithBlock.shaped s a) = shaped_refuses s (plans (job_in block) a)
    by (WithBlock.shapeless h) = shapeless_refuses h (refl, refl, refl)

pub demand_1_check : (file : List ℕ) → Bytes file → {r : KhonChecked} → KhonChecks file r
    → Refuses (CheckRefusal file) r.refusal ((r.value ≡ 0) × (r.note ≡ 0) × (r.piece_area ≡ 0) × (r.scrap_area ≡ 0))
demand_1_check file bytes l = subst (λ (r : KhonChecked). Refuses (CheckRefusal file) r.refusal (Zeros r)) (sym l.laid) (by l.answer l.keeps)
  where
    Zeros : KhonChecked → Type 0
    Zeros r = (r.value ≡ 0) × (r.note ≡ 0) × (r.piece_area ≡ 0) × (r.scrap_area ≡ 0)

    zeros : (c : Checked) → ((answer c).number ≡ 0 → ⊥) → Zeros (flat_checked c)
    zeros (Checked.Accepted v n p s) h = absurd (h refl)
    zeros (Checked.Refused k) h = (refl, refl, refl, refl)

    by : (c : Checked) → Given file c → Refuses (CheckRefusal file) (flat_checked c).refusal (Zeros (flat_checked c))
    by c g =
        record {
          given = record { verdict = c; given = g; number = refl };
          only = λ k q. sym q.number ∙ ap (λ (d : Checked). (answer d).number) (only file bytes q.given ∙ sym (only file bytes g));
          leaves = zeros c;
        }

-- The job of zeros, which each call refuses with 1 (rule 4.17).
no_zeros : JobInRange zero_job → ⊥
no_zeros r = true≢false (sym ((job_says zero_job).found r) ∙ zeros_refused)

pub zeros_add : (t : List ℕ) (piece : Record) {r : KhonChanged} {t' : List ℕ} → KhonAdds zero_job t piece r t' → 1 ≡ r.refusal
unfolding Gives add_refusals
zeros_add t piece l = (demand_1_add zero_job t piece l).only 1 (inl (no_zeros, refl))

pub zeros_correct : (t : List ℕ) (number : ℕ) (piece : Record) {r : KhonChanged} {t' : List ℕ} → KhonCorrects zero_job t number piece r t' → 1 ≡ r.refusal
unfolding Gives correct_refusals
zeros_correct t number piece l = (demand_1_correct zero_job t number piece l).only 1 (inl (no_zeros, refl))

pub zeros_remove : (t : List ℕ) (number : ℕ) {r : KhonChanged} {t' : List ℕ} → KhonRemoves zero_job t number r t' → 1 ≡ r.refusal
unfolding Gives remove_refusals
zeros_remove t number l = (demand_1_remove zero_job t number l).only 1 (inl (no_zeros, refl))

-- The block of zeros is that of the job of zeros.
zeros_block : (list : Job → ℕ → Type 0) → list zero_job bad_job → BlockRefusal (block_of zero_job) list bad_job
unfolding block bytes_of_head bytes_of_pieces bytes2 number2_of job_in job_of zero_job pieces_of by_index
zeros_block list q = BlockRefusal.shaped (record { head = omega arith; most = omega arith; whole = refl }) q

pub zeros_ask : (t : List ℕ) (x y : ℕ) {r : KhonAsked} {t' : List ℕ} → KhonAsks (block_of zero_job) t x y r t' → 1 ≡ r.refusal
unfolding Gives ask_refusals
zeros_ask t x y l = (demand_1_ask (block_of zero_job) t x y l).only 1 (zeros_block (λ job. AskRefusal job t x y) (inl (no_zeros, refl)))

pub zeros_plan : (t : List ℕ) (x y : ℕ) (o : List ℕ) {r : KhonPlanned} {o' : List ℕ} → KhonPlans (block_of zero_job) t x y o r o' → 1 ≡ r.refusal
unfolding Gives plan_refusals
zeros_plan t x y o l = (demand_1_plan (block_of zero_job) t x y o l).only 1 (zeros_block (λ job. PlanRefusal job t x y (length o)) (inl (no_zeros, refl)))

-- Behind the n-th piece there are zeros, in the job of each accepted change (rule 4.12).
abbrev ZerosPast : Job → Type 0
ZerosPast job = (k : ℕ) → job.count ≤ k → get_or job.pieces k no_record ≡ no_record

accepted_zeros : {a b : ℕ} {refusal : ℕ → Type 0} {hit : ℕ → ℕ → Type 0} {left : Job} {t t' : List ℕ} {r : KhonChanged} (width height : ℕ) (pieces : List Piece)
    → Laid flat_changed (λ c. Changes a b refusal hit (job_of width height pieces) left t c t') r → r.refusal ≡ 0 → ZerosPast r.job
unfolding job_of
accepted_zeros {a} {b} {refusal} {hit} {left} {t} width height pieces l z =
    subst (λ (r : KhonChanged). ZerosPast r.job) (sym l.laid) (by l.keeps (sym (ap (λ (r : KhonChanged). r.refusal) l.laid) ∙ z))
  where
    by : {c : Changed} {l' : List ℕ} → Changes a b refusal hit (job_of width height pieces) left t c l' → c.refusal ≡ 0 → ZerosPast c.job
    by (Changes.accepted q e) y k h = job_of_zeros width height pieces k h
    by (Changes.refused q) y k h = absurd (omega arith)

pub opened_zeros : (width height : ℕ) (t : List ℕ) {r : KhonChanged} {t' : List ℕ} → KhonOpens width height t r t' → r.refusal ≡ 0 → (k : ℕ)
    → r.job.count ≤ k → get_or r.job.pieces k no_record ≡ no_record
opened_zeros width height t l = accepted_zeros width height [] l

pub added_zeros : (job : Job) (t : List ℕ) (piece : Record) {r : KhonChanged} {t' : List ℕ} → KhonAdds job t piece r t' → r.refusal ≡ 0 → (k : ℕ)
    → r.job.count ≤ k → get_or r.job.pieces k no_record ≡ no_record
unfolding with_added
added_zeros job t piece l = accepted_zeros job.width job.height (added (pieces_of job) (piece_of piece)) l

pub corrected_zeros : (job : Job) (t : List ℕ) (number : ℕ) (piece : Record) {r : KhonChanged} {t' : List ℕ} → KhonCorrects job t number piece r t'
    → r.refusal ≡ 0 → (k : ℕ) → r.job.count ≤ k → get_or r.job.pieces k no_record ≡ no_record
unfolding with_corrected
corrected_zeros job t number piece l = accepted_zeros job.width job.height (corrected (pieces_of job) number (piece_of piece)) l

pub removed_zeros : (job : Job) (t : List ℕ) (number : ℕ) {r : KhonChanged} {t' : List ℕ} → KhonRemoves job t number r t' → r.refusal ≡ 0 → (k : ℕ)
    → r.job.count ≤ k → get_or r.job.pieces k no_record ≡ no_record
unfolding with_removed
removed_zeros job t number l = accepted_zeros job.width job.height (removed (pieces_of job) number) l
