-- The plan of what was asked (rule 10.3), and what check accepts (rule 10.4).
use Prim.Native.Nat.{ℕ, suc, ◌+◌, ◌*◌, ◌≤◌}
use mathlib.Core.List.{List}
use mathlib.Core.Logic.{inl, inr, ⊎_elim, ◌↔◌}
use mathlib.Core.Path.{◌≡◌, refl, sym, ap, ◌∙◌, subst}
use native.Mathlib.Omega.{arith}
use lib.ListN.{length, take, drop}
use native.Mathlib.Nat.{zero-add}
use Rattle.laws.specs.Put.{put}
use Rattle.laws.proofs.Put.{put_drop, put_length}
use Rattle.cutting.specs.Piece.{Inside}
use Rattle.cutting.specs.Tree.{Tree}
use Rattle.cutting.proofs.Dissection.{best_unique}
use Rattle.fill.specs.Filled.{Full}
use Rattle.job.specs.declared.Job.{Job}
use Rattle.job.specs.Block.{block_of, job_in}
use Rattle.fields.specs.Number.{Bytes}
use Rattle.checker.specs.Inner.{checked}
use Rattle.checker.specs.Checked.{Answer, answer}
use Rattle.checker.specs.PlanFile.{PlanFile}
use Rattle.checker.proofs.Accepts.{accepts_exactly}
use Rattle.checker.proofs.Given.{only}
use Rattle.plan.specs.Inner.{PlanPromise}
use Rattle.plan.specs.File.{TreeFor, file_of}
use Rattle.plan.specs.Refusals.{PlanRefusal}
use Rattle.plan.specs.Planning.{Written, Planned, Plans}
use Rattle.plan.specs.Best.{PlansBest}
use Rattle.plan.specs.Enough.{plan_enough}
use Rattle.plan.proofs.Promise.{plan_checked}
use Rattle.plan.proofs.Enough.{never_eight}
use Rattle.plan.proofs.Plans.{plan_exactly}
use Rattle.plan.proofs.Best.{best_tree, plan_writes, plan_writes_enough, never_seven, six_empty}
use Rattle.khonvertseg.specs.declared.KhonAsked.{KhonAsked}
use Rattle.khonvertseg.specs.declared.KhonPlanned.{KhonPlanned}
use Rattle.khonvertseg.specs.declared.KhonChecked.{KhonChecked}
use Rattle.khonvertseg.specs.Flat.{flat_planned, laid_out, flat_checked}
use Rattle.khonvertseg.specs.Calls.{Laid, WithBlock, PlansBlock, KhonAsks, KhonPlans, KhonChecks}
use Rattle.demands.specs.History.{History, Covered, AskedSince, OnSheet}
use Rattle.demands.specs.Refuses.{BlockRefusal}
use Rattle.demands.proofs.Refuses.{demand_1_plan}
use Rattle.demands.proofs.Outcome.{kept_block}
use Rattle.demands.proofs.Questions.{with_own}
use Rattle.demands.proofs.Demands.{history_kept, demand_2_answered, demand_3_filled}

-- Every cell of a box that was asked, with no accepted change since, is covered.
asked_covers : {job : Job} {t : List ℕ} (h : History job t) (x y u w : ℕ) → Inside u w x y → AskedSince h x y → Covered h u w
unfolding AskedSince Covered
asked_covers (History.opening a b t p e) x y u w i n = n
asked_covers (History.adding h piece p) x y u w i n = (asked_covers h x y u w i n.0, λ z. absurd (n.1 z))
asked_covers (History.correcting h k piece p) x y u w i n = (asked_covers h x y u w i n.0, λ z. absurd (n.1 z))
asked_covers (History.removing h k p) x y u w i n = (asked_covers h x y u w i n.0, λ z. absurd (n.1 z))
asked_covers (History.asking h m n p) x y u w i s =
    ⊎_elim (λ a. inl (asked_covers h x y u w i a)) (λ q. inr (q.0, record { wide = omega (arith, q.1.wide, i); high = omega (arith, q.1.high, i) })) s
asked_covers (History.elsewhere h s) x y u w i n = asked_covers h x y u w i n

covered_full : {job : Job} {t : List ℕ} (h : History job t) (x y : ℕ) → OnSheet job x y → ((u w : ℕ) → Inside u w x y → Covered h u w)
    → Full job.width t x y
covered_full h x y i covered u w j = (demand_3_filled h u w (omega arith)).1 (covered u w j)

asked_full : {job : Job} {t : List ℕ} (h : History job t) (x y : ℕ) → OnSheet job x y → AskedSince h x y → Full job.width t x y
asked_full h x y i n = covered_full h x y i (λ u w j. asked_covers h x y u w j n)

-- Rule 10.3: what was asked is planned, and the plan earns its best value. Room: the file of the tree for x by y is no longer than the buffer.
pub demand_2_planned : {job : Job} {t : List ℕ} (h : History job t) (x y : ℕ) → OnSheet job x y → AskedSince h x y → (o : List ℕ)
    → ((tree : Tree) → TreeFor job t x y tree → length (file_of job x y tree) ≤ length o) → {r : KhonPlanned} {p : List ℕ} → KhonPlans (block_of job) t x y o r p
    → Laid flat_planned (λ c. PlansBest job x y c p) r
demand_2_planned {job} {t} h x y i n o room l =
    let k = history_kept h in
    let full = asked_full h x y i n in
    let fits = room _ (best_tree job t k.usable k.best x y i full) in
    let plan = (plan_exactly job t x y o).1 (with_own (kept_block k) l.keeps) in
    record { answer = l.answer; keeps = plan_writes job t k.usable k.best x y i full o fits plan; laid = l.laid }

-- KHON_PLAN_ENOUGH bytes are always room.
pub demand_2_enough : {job : Job} {t : List ℕ} (h : History job t) (x y : ℕ) → OnSheet job x y → AskedSince h x y → (o : List ℕ)
    → plan_enough job.count x y ≤ length o → {r : KhonPlanned} {p : List ℕ} → KhonPlans (block_of job) t x y o r p
    → Laid flat_planned (λ c. PlansBest job x y c p) r
demand_2_enough {job} {t} h x y i n o enough l =
    let k = history_kept h in
    let full = asked_full h x y i n in
    let plan = (plan_exactly job t x y o).1 (with_own (kept_block k) l.keeps) in
    record { answer = l.answer; keeps = plan_writes_enough job t k.usable k.best x y i full o enough plan; laid = l.laid }

-- So what is planned right after a question earns what the question was answered with.
pub demand_2_same : {job : Job} {t : List ℕ} → History job t → (x y : ℕ) → OnSheet job x y → {a : KhonAsked} {t' : List ℕ} → KhonAsks (block_of job) t x y a t'
    → (o : List ℕ) → plan_enough job.count x y ≤ length o → {r : KhonPlanned} {p : List ℕ} → KhonPlans (block_of job) t' x y o r p
    → (r.refusal ≡ 0) × (r.value ≡ a.value)
unfolding AskedSince
demand_2_same h x y i q o enough l =
    let a = demand_2_answered h x y i q in
    let b = demand_2_enough (History.asking h x y q) x y i (inr (a.0, omega arith)) o enough l in
    let e = b.laid ∙ ap flat_planned b.keeps.written in
    (ap (λ (c : KhonPlanned). c.refusal) e, ap (λ (c : KhonPlanned). c.value) e ∙ best_unique b.keeps.best a.1)

-- The number of a plan is the list's.
plan_refused_lem : {job : Job} {t : List ℕ} → History job t → (x y : ℕ) (o : List ℕ) {r : KhonPlanned} {p : List ℕ} → KhonPlans (block_of job) t x y o r p → (k : ℕ)
    → r.refusal ≡ suc k → PlanRefusal job t x y (length o) (suc k)
plan_refused_lem {job} {t} h x y o l k e = by (with_own (kept_block (history_kept h)) l.keeps) (sym (ap (λ (r : KhonPlanned). r.refusal) l.laid) ∙ e)
  where
    by : {c : Planned} {p : List ℕ} → Plans job t x y o c p → (flat_planned c).refusal ≡ suc k → PlanRefusal job t x y (length o) (suc k)
    by (Plans.written r b m) z = absurd (omega arith)
    by (Plans.refused {k = j} q) z = subst (PlanRefusal job t x y (length o)) z q

-- On a kept table refusal 7 never comes from plan either (rule 10.8) ..
pub plan_never_seven : {job : Job} {t : List ℕ} → History job t → (x y : ℕ) (o : List ℕ) {r : KhonPlanned} {p : List ℕ} → KhonPlans (block_of job) t x y o r p
    → r.refusal ≡ 7 → ⊥
plan_never_seven {job} {t} h x y o l e =
    let k = history_kept h in
    never_seven job t k.usable k.best x y (length o) (plan_refused_lem h x y o l 6 e)

-- .. and refusal 6 only where a cell of the box is not covered.
pub plan_six : {job : Job} {t : List ℕ} (h : History job t) (x y : ℕ) (o : List ℕ) → OnSheet job x y → ((u w : ℕ) → Inside u w x y → Covered h u w)
    → {r : KhonPlanned} {p : List ℕ} → KhonPlans (block_of job) t x y o r p → r.refusal ≡ 6 → ⊥
plan_six {job} {t} h x y o i covered l e =
    let k = history_kept h in
    six_empty job t k.usable k.best x y (length o) (plan_refused_lem h x y o l 5 e) (covered_full h x y i covered)

-- A plan that is not refused was written.
was_written : (job : Job) (t : List ℕ) (x y : ℕ) (o : List ℕ) {d : Planned} {p : List ℕ} → Plans job t x y o d p → (flat_planned d).refusal ≡ 0
    → (n : ℕ) × (v : ℕ) × (d ≡ Written n v)
was_written job t x y o (Plans.written g b h) z = (_, _, refl)
was_written job t x y o (Plans.refused q) z = absurd (omega arith)

block_written : (block t : List ℕ) (x y : ℕ) (o : List ℕ) {d : Planned} {p : List ℕ} → PlansBlock block t x y o d p → (flat_planned d).refusal ≡ 0
    → (n : ℕ) × (v : ℕ) × (d ≡ Written n v) × PlanPromise (job_in block) t x y o (Written n v) p
block_written block t x y o {p = p} (WithBlock.shaped s a) z =
    let w = was_written (job_in block) t x y o a z in
    (w.0, w.1, w.2, subst (λ (c : Planned). PlanPromise (job_in block) t x y o c p) w.2 ((plan_exactly (job_in block) t x y o).1 a))
block_written block t x y o (WithBlock.shapeless h) z = absurd (omega arith)

-- Whatever plan writes, on any table and for any block, check accepts (rule 10.9): with that value, with no note, and with areas that make x by y.
pub planned_accepted : (block t : List ℕ) (x y : ℕ) (o : List ℕ) {r : KhonPlanned} {p : List ℕ} → KhonPlans block t x y o r p → r.refusal ≡ 0
    → Bytes (take r.length p) → {c : KhonChecked} → KhonChecks (take r.length p) c
    → (c.refusal ≡ 0) × (c.value ≡ r.value) × (c.note ≡ 0) × (c.piece_area + c.scrap_area ≡ x * y)
planned_accepted block t x y o {r} {p} l z bytes {c} m =
    let w = block_written block t x y o l.keeps (sym (ap (λ (q : KhonPlanned). q.refusal) l.laid) ∙ z) in
    let e : r ≡ flat_planned (Written w.0 w.1) = l.laid ∙ ap flat_planned w.2 in
    let a = plan_checked (job_in block) t x y o w.3 in
    let same = m.laid ∙ ap flat_checked (only _ bytes m.keeps ∙ (ap (λ (q : KhonPlanned). checked (take q.length p)) e ∙ a.answer)) in
    let value = ap (λ (k : KhonChecked). k.value) same ∙ sym (ap (λ (q : KhonPlanned). q.value) e) in
    let areas = ap (λ (k : KhonChecked). k.piece_area + k.scrap_area) same ∙ a.areas in
    (ap (λ (k : KhonChecked). k.refusal) same, value, ap (λ (k : KhonChecked). k.note) same, areas)

-- The bytes behind the file stay (rule 4.10), and the buffer is as long as before.
pub planned_stays : (block t : List ℕ) (x y : ℕ) (o : List ℕ) {r : KhonPlanned} {p : List ℕ} → KhonPlans block t x y o r p
    → (drop r.length p ≡ drop r.length o) × (length p ≡ length o)
planned_stays block t x y o {p = p} l =
    subst (λ (r : KhonPlanned). (drop r.length p ≡ drop r.length o) × (length p ≡ length o)) (sym l.laid) (by l.keeps)
  where
    plans : {job : Job} {d : Planned} {q : List ℕ} → Plans job t x y o d q
        → (drop (flat_planned d).length q ≡ drop (flat_planned d).length o) × (length q ≡ length o)
    plans {job} (Plans.written {tree} g b room) =
        let file = file_of job x y tree in
        let whole = zero-add (length file) in
        let stays = put_drop o 0 file (omega arith) ∙ ap (λ (n : ℕ). drop n o) whole in
        (ap (λ (n : ℕ). drop n (put o 0 file)) (sym whole) ∙ stays, put_length o 0 file (omega arith))
    plans (Plans.refused q) = (refl, refl)

    by : {d : Planned} {q : List ℕ} → PlansBlock block t x y o d q → (drop (flat_planned d).length q ≡ drop (flat_planned d).length o) × (length q ≡ length o)
    by (WithBlock.shaped s a) = plans a
    by (WithBlock.shapeless h) = (refl, refl)

-- Rule 10.4: check accepts exactly the plan files, each with its own answer.
pub demand_2_checked : (file : List ℕ) → Bytes file → {r : KhonChecked} → KhonChecks file r → (a : Answer)
    → ((r ≡ laid_out a) × (a.number ≡ 0)) ↔ PlanFile file a
demand_2_checked file bytes {r} l a =
    ((λ h. (accepts_exactly file bytes a).0 (same (sym e ∙ h.0), h.1)), (λ f. let g = (accepts_exactly file bytes a).1 f in (e ∙ ap laid_out g.0, g.1)))
  where
    e : r ≡ laid_out (answer (checked file))
    e = l.laid ∙ ap flat_checked (only file bytes l.keeps)

    same : {b d : Answer} → laid_out b ≡ laid_out d → b ≡ d
    same f = λ i. record { number = (f i).refusal; value = (f i).value; note = (f i).note; piece_area_of = (f i).piece_area; scrap_area_of = (f i).scrap_area }

-- KHON_PLAN_ENOUGH bytes hold every plan (rule 8.13): with that room rule 7.8 never applies, on any table and for any block.
pub plan_never_eight : (block t : List ℕ) (x y : ℕ) (o : List ℕ) → plan_enough (job_in block).count x y ≤ length o → {r : KhonPlanned} {p : List ℕ}
    → KhonPlans block t x y o r p → r.refusal ≡ 8 → ⊥
plan_never_eight block t x y o enough l e = by (demand_1_plan block t x y o l).given e
  where
    by : {k : ℕ} → BlockRefusal block (λ job. PlanRefusal job t x y (length o)) k → k ≡ 8 → ⊥
    by (BlockRefusal.shapeless h) z = omega arith
    by (BlockRefusal.shaped s q) z = never_eight (job_in block) t x y (length o) enough (subst (PlanRefusal (job_in block) t x y (length o)) z q)
