-- The libraries of rule 11.3, each shown to break a promise.
use Prim.Native.Nat.{ℕ, zero, suc, ◌≤◌, ◌%◌}
use mathlib.Core.List.{List, [], ◌∷◌}
use mathlib.Core.Logic.{◌⊎◌, inr, ⊎_elim}
use mathlib.Core.Bool.{true}
use mathlib.Core.Path.{◌≡◌, refl, sym, ap, ◌∙◌}
use native.Mathlib.Omega.{arith}
use lib.ListN.{length, get_or, take, get_or-eq_default}
use lib.Dec.{ltb}
use Rattle.laws.specs.Inner.{all_below, deep, to_depth}
use Rattle.laws.specs.ByIndex.{by_index}
use Rattle.laws.proofs.Below.{all_below_says}
use Rattle.laws.proofs.Order.{le_or_lt}
use Rattle.laws.proofs.Says.{says_lt}
use Rattle.fields.specs.Number.{bytes2, number2_of, number4_of, Bytes}
use Rattle.fields.specs.Sum.{running_sum}
use Rattle.job.specs.Job.{pieces_of, job_of}
use Rattle.job.specs.Inner.{piece_in_range, pieces_in_range, job_in_range, block_shape, from_block}
use Rattle.nodes.specs.Inner.{is_inside, is_piece, letter_node, node_at, with_first, then_read, both_parts, part_by, part_at}
use Rattle.checker.specs.PlanFile.{body, summed, plan_bytes}
use Rattle.checker.specs.Fields.{summed_bytes, block_bytes}
use Rattle.checker.specs.Inner.{framed, sum_agrees, agreed, nodes_read, valued, leaves_of, judged_job, checked}
use Rattle.checker.proofs.Given.{only}
use Rattle.cutting.specs.Piece.{Inside}
use Rattle.cutting.proofs.Dissection.{best_unique}
use Rattle.cells.specs.Cells.{empty}
use Rattle.cells.specs.Box.{is_empty, count_in_box}
use Rattle.job.specs.declared.Piece.{Piece as Record}
use Rattle.job.specs.declared.Job.{Job}
use Rattle.job.specs.Block.{block_of, block, bytes_of_head, piece_from, job_in}
use Rattle.desk.specs.Refusals.{OpenRefusal, AddRefusal, CorrectRefusal, RemoveRefusal}
use Rattle.desk.specs.Changing.{record_of_piece, SizeFits}
use Rattle.plan.specs.File.{file_of}
use Rattle.plan.specs.Enough.{plan_enough}
use Rattle.khonvertseg.specs.declared.KhonChanged.{KhonChanged}
use Rattle.khonvertseg.specs.declared.KhonAsked.{KhonAsked}
use Rattle.khonvertseg.specs.declared.KhonPlanned.{KhonPlanned}
use Rattle.khonvertseg.specs.declared.KhonChecked.{KhonChecked}
use Rattle.khonvertseg.specs.Flat.{flat_planned, flat_checked}
use Rattle.khonvertseg.specs.Calls.{KhonOpens, KhonAdds, KhonCorrects, KhonRemoves, KhonAsks, KhonPlans, KhonChecks}
use Rattle.demands.specs.History.{History, Covered, AskedSince, cell, Filled, OnSheet, BestFor}
use Rattle.demands.specs.Script.{Said, said, Runs, K2, k4}
use Rattle.demands.proofs.Outcome.{outcome_filled}
use Rattle.demands.proofs.Changes.{correct_outcome}
use Rattle.demands.proofs.Refuses.{demand_1_open, demand_1_add, demand_1_correct, demand_1_remove}
use Rattle.demands.proofs.Demands.{history_kept, demand_2_answered, demand_3_filled, demand_3_work}
use Rattle.demands.proofs.Plans.{demand_2_enough}
use Rattle.demands.proofs.Sheets.{sheets_kept}

-- A row of bytes, by looking at each.
are_bytes : (s : List ℕ) → all_below (λ k. ltb (get_or s k 0) 256) (length s) ≡ true → Bytes s
are_bytes s e k =
    ⊎_elim (λ h. omega (arith, get_or-eq_default s 0 h))
    (λ h. (says_lt (get_or s k 0) 256).means ((all_below_says (λ i. ltb (get_or s i 0) 256) (length s)).means e k h))
    (le_or_lt (length s) k)

first_zero : (n : ℕ) (o : List ℕ) → get_or o 0 0 ≡ 0 → get_or (take n o) 0 0 ≡ 0
first_zero zero o e = refl
first_zero (suc n) [] e = refl
first_zero (suc n) (b ∷ o) e = e

-- One that refuses everything (rule 11.3): a question inside the sheet of a kept table is never refused.
pub refusing_breaks : {job : Job} {t : List ℕ} → History job t → (x y : ℕ) → OnSheet job x y → {r : KhonAsked} {t' : List ℕ} → KhonAsks (block_of job) t x y r t'
    → (r.refusal ≡ 0 → ⊥) → ⊥
refusing_breaks h x y i p refused = refused (demand_2_answered h x y i p).0

-- The same of the changes: where the list gives no number, the call is accepted.
pub open_refusing_breaks : (width height : ℕ) (t : List ℕ) → OpenRefusal width height t 0 → {r : KhonChanged} {t' : List ℕ} → KhonOpens width height t r t'
    → (r.refusal ≡ 0 → ⊥) → ⊥
open_refusing_breaks width height t q l refused = refused (sym ((demand_1_open width height t l).only 0 q))

pub add_refusing_breaks : (job : Job) (t : List ℕ) (piece : Record) → AddRefusal job t piece 0 → {r : KhonChanged} {t' : List ℕ} → KhonAdds job t piece r t'
    → (r.refusal ≡ 0 → ⊥) → ⊥
add_refusing_breaks job t piece q l refused = refused (sym ((demand_1_add job t piece l).only 0 q))

pub correct_refusing_breaks : (job : Job) (t : List ℕ) (k : ℕ) (piece : Record) → CorrectRefusal job t k piece 0 → {r : KhonChanged} {t' : List ℕ}
    → KhonCorrects job t k piece r t' → (r.refusal ≡ 0 → ⊥) → ⊥
correct_refusing_breaks job t k piece q l refused = refused (sym ((demand_1_correct job t k piece l).only 0 q))

pub remove_refusing_breaks : (job : Job) (t : List ℕ) (k : ℕ) → RemoveRefusal job t k 0 → {r : KhonChanged} {t' : List ℕ} → KhonRemoves job t k r t'
    → (r.refusal ≡ 0 → ⊥) → ⊥
remove_refusing_breaks job t k q l refused = refused (sym ((demand_1_remove job t k l).only 0 q))

-- One that has a single value (rule 11.3): two questions with different best values can't both get it.
pub one_value_breaks : {job other : Job} {t s : List ℕ} → History job t → History other s → (x y p q : ℕ) → OnSheet job x y → OnSheet other p q → {v b d : ℕ}
    → BestFor job x y b → BestFor other p q d → (b ≡ d → ⊥) → {r r' : KhonAsked} {t' s' : List ℕ} → KhonAsks (block_of job) t x y r t'
    → KhonAsks (block_of other) s p q r' s' → r.value ≡ v → r'.value ≡ v → ⊥
one_value_breaks h g x y p q i j best best' differ a a' e e' =
    differ (best_unique best (demand_2_answered h x y i a).1 ∙ (e ∙ (sym e' ∙ best_unique (demand_2_answered g p q j a').1 best')))

-- One that refuses every plan (rule 11.3): what was asked is planned, where there is room enough.
pub plan_refusing_breaks : {job : Job} {t : List ℕ} (h : History job t) (x y : ℕ) → OnSheet job x y → AskedSince h x y → (o : List ℕ)
    → plan_enough job.count x y ≤ length o → {r : KhonPlanned} {p : List ℕ} → KhonPlans (block_of job) t x y o r p → (r.refusal ≡ 0 → ⊥) → ⊥
plan_refusing_breaks h x y i n o enough l refused =
    let b = demand_2_enough h x y i n o enough l in
    refused (ap (λ (c : KhonPlanned). c.refusal) (b.laid ∙ ap flat_planned b.keeps.written))

-- One that writes no plan (rule 11.3): a lent buffer that begins with 0 is not left as it was; the file begins with the width.
pub plan_nothing_breaks : {job : Job} {t : List ℕ} (h : History job t) (x y : ℕ) → OnSheet job x y → AskedSince h x y → (o : List ℕ)
    → plan_enough job.count x y ≤ length o → get_or o 0 0 ≡ 0 → {r : KhonPlanned} → KhonPlans (block_of job) t x y o r o → ⊥
unfolding plan_bytes summed body block bytes_of_head bytes2
plan_nothing_breaks {job} h x y i n o enough z l =
    let b = (demand_2_enough h x y i n o enough l).keeps in
    let bytes = length (file_of job x y b.tree) in
    let width : get_or (take bytes o) 0 0 ≡ x % 256 = ap (λ (s : List ℕ). get_or s 0 0) b.file in
    omega (arith, first_zero bytes o z, width, i.width_least, i.width_most, (history_kept h).usable.range.width_most)

-- One that refuses every file (rule 11.3): check accepts K4's.
pub check_refusing_breaks : {r : KhonChecked} → KhonChecks k4 r → (r.refusal ≡ 0 → ⊥) → ⊥
unfolding checked framed sum_agrees agreed nodes_read valued leaves_of judged_job summed_bytes block_bytes number2_of number4_of running_sum pieces_of job_of piece_in_range pieces_in_range job_in_range piece_from job_in block_shape from_block is_piece is_inside letter_node node_at with_first then_read both_parts part_by part_at deep to_depth by_index all_below
check_refusing_breaks l refused = refused (ap (λ (c : KhonChecked). c.refusal) (l.laid ∙ ap flat_checked (only k4 (are_bytes k4 refl) l.keeps)))

-- One that writes no cell (rule 11.3): an answered question fills every cell that it covers.
pub writing_nothing_breaks : {job : Job} {t : List ℕ} → History job t → (x y : ℕ) → OnSheet job x y → (u w : ℕ) → Inside u w x y → cell job t u w ≡ empty
    → {r : KhonAsked} → KhonAsks (block_of job) t x y r t → ⊥
unfolding Covered
writing_nothing_breaks {job} {t} h x y i u w j e p =
    (demand_3_filled (History.asking h x y p) u w (omega arith)).1 (inr ((demand_2_answered h x y i p).0, omega arith)) e

-- One that repeats its first answer (rule 11.3): after K2's correction the answer is 6 and no longer 8.
pub repeating_breaks : (t t' : List ℕ) (r : KhonChanged) (sayings : List Said) → KhonOpens 3 3 t r t' → r.refusal ≡ 0 → Runs r.job t' K2.steps sayings
    → (get_or sayings 2 (said 0 0 0 0)).value ≡ (get_or sayings 4 (said 0 0 0 0)).value → ⊥
repeating_breaks t t' r sayings p e runs same =
    let k = sheets_kept.1.0.said t t' r sayings p e runs in
    let value : ℕ → List Said → ℕ = λ n l. (get_or l n (said 0 0 0 0)).value in
    let z : ◌≡◌ {A = ℕ} 8 6 = sym (ap (value 2) k) ∙ (same ∙ ap (value 4) k) in
    omega arith

-- One that empties everything (rule 11.3): a filled cell in which neither the old nor the new size fits stays filled.
pub emptying_all_breaks : (job : Job) (t : List ℕ) (k : ℕ) (piece : Record) (u w : ℕ) → {r : KhonChanged} {t' : List ℕ} → KhonCorrects job t k piece r t'
    → OnSheet r.job u w → Filled job t u w → (SizeFits (record_of_piece job k) u w ⊎ SizeFits piece u w → ⊥) → cell r.job t' u w ≡ empty → ⊥
emptying_all_breaks job t k piece u w p i f spared e =
    (outcome_filled (correct_outcome job t k piece p) u w i).1.1 (f, λ _. spared) e

-- One that makes up its work (rule 11.3): it is the number of cells that were empty under the question.
pub inventing_breaks : {job : Job} {t : List ℕ} → History job t → (x y : ℕ) {r : KhonAsked} {t' : List ℕ} → KhonAsks (block_of job) t x y r t' → r.refusal ≡ 0
    → (r.worked ≡ count_in_box x y (is_empty job.width t) → ⊥) → ⊥
inventing_breaks h x y p z n = n ((demand_3_work h x y p).0 z)

-- One that leaves cells alone (rule 11.3): after an accepted correction, even to the same piece, no cell is filled where either size fits.
pub keeping_breaks : (job : Job) (t : List ℕ) (k : ℕ) (piece : Record) (u w : ℕ) → {r : KhonChanged} {t' : List ℕ} → KhonCorrects job t k piece r t'
    → r.refusal ≡ 0 → OnSheet r.job u w → SizeFits (record_of_piece job k) u w ⊎ SizeFits piece u w → Filled r.job t' u w → ⊥
keeping_breaks job t k piece u w p accepted i hit f =
    ((outcome_filled (correct_outcome job t k piece p) u w i).1.0 f).1 accepted hit
