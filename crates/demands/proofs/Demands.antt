-- Rule 10.2 and rules 10.5 to 10.7, over every history of calls whose answers keep their promises.
use Rattle.std.specs.Prelude.{Some}
use Prim.Native.Nat.{ℕ}
use mathlib.Core.List.{List}
use mathlib.Core.Logic.{◌⊎◌, inl, inr, ⊎_elim, ◌↔◌}
use mathlib.Core.Path.{◌≡◌, refl, sym, ◌∙◌, subst}
use native.Mathlib.Omega.{arith}
use Rattle.cutting.specs.Piece.{Fits}
use Rattle.cells.specs.Box.{is_empty, count_in_box}
use Rattle.cells.proofs.Box.{is_empty_says, count_in_box_zero}
use Rattle.laws.specs.Inner.{every_number, PassesAt, StopsAt, rows_before}
use Rattle.laws.proofs.Says.{says_no}
use Rattle.laws.proofs.Refusal.{stopped, granted_before}
use Rattle.job.specs.declared.Job.{Job}
use Rattle.job.specs.Block.{block_of, job_in, BlockShape}
use Rattle.job.specs.Inner.{from_block}
use Rattle.job.proofs.Blocks.{from_block_yes}
use Rattle.refusals.specs.Refusals.{not_inside, alien_table}
use Rattle.desk.specs.Refusals.{ask_refusals, AskRefusal}
use Rattle.khonvertseg.specs.declared.KhonAsked.{KhonAsked}
use Rattle.khonvertseg.specs.Calls.{KhonAsks}
use Rattle.demands.specs.History.{History, Covered, SameSheet, cell, Filled, OnSheet, BestFor}
use Rattle.demands.proofs.Outcome.{Kept, kept_block, outcome_kept, outcome_filled}
use Rattle.demands.proofs.Changes.{add_outcome, correct_outcome, remove_outcome, open_outcome}
use Rattle.demands.proofs.Questions.{Question, question, kept_bounded, kept_answered, box_best, asked_filled, asked_kept}

question_kept : {job : Job} {t : List ℕ} {x y : ℕ} {r : KhonAsked} {t' : List ℕ} → Kept job t → Question job t x y r t' → Kept job t'
question_kept {job} {t} {x} {y} k (Question.answered z i f v n) = asked_kept job t k x y i f
question_kept {job} k (Question.refused h q v n e) = subst (Kept job) (sym e) k

question_filled : {job : Job} {t : List ℕ} {x y : ℕ} {r : KhonAsked} {t' : List ℕ} → Kept job t → Question job t x y r t' → (u w : ℕ) → OnSheet job u w
    → Filled job t' u w ↔ (Filled job t u w ⊎ ((r.refusal ≡ 0) × Fits u w x y))
question_filled {job} {t} {x} {y} k (Question.answered z i f v n) u w j =
    let g = asked_filled job t k x y i f u w j in
    ((λ m. ⊎_elim inl (λ o. inr (z, o)) (g.0 m)), (λ m. g.1 (⊎_elim inl (λ o. inr o.1) m)))
question_filled {job} {t} {x} {y} {r} k (Question.refused h q v n e) u w j =
    subst (λ (l : List ℕ). Filled job l u w ↔ (Filled job t u w ⊎ ((r.refusal ≡ 0) × Fits u w x y))) (sym e)
    (inl, (⊎_elim (λ f. f) (λ m. absurd (h m.0))))

-- Another row with the same cells.
elsewhere_kept : {job : Job} {t t' : List ℕ} → Kept job t → SameSheet job t t' → Kept job t'
elsewhere_kept {job} k s =
    record {
      usable = record { range = k.usable.range; room = s.room };
      tidy = k.tidy;
      best = λ u w i f. subst (BestFor job u w) (sym (s.cells u w i)) (k.best u w i (λ e. f (s.cells u w i ∙ e)));
    }

-- The table of a history is kept.
pub history_kept : {job : Job} {t : List ℕ} → History job t → Kept job t
history_kept (History.opening a b t p e) =
    let o = open_outcome a b t p e in
    record { usable = o.usable; tidy = o.tidy; best = λ u w i f. absurd (f (o.none u w i)) }
history_kept (History.adding {job = job} {t = t} h piece p) = outcome_kept (history_kept h) (add_outcome job t piece p)
history_kept (History.correcting {job = job} {t = t} h k piece p) = outcome_kept (history_kept h) (correct_outcome job t k piece p)
history_kept (History.removing {job = job} {t = t} h k p) = outcome_kept (history_kept h) (remove_outcome job t k p)
history_kept (History.asking h x y p) = question_kept (history_kept h) (question (history_kept h) x y p)
history_kept (History.elsewhere h s) = elsewhere_kept (history_kept h) s

-- Along a history the job is the job of its own block: what the C customer hands over as bytes is what he was given.
pub history_block : {job : Job} {t : List ℕ} → History job t → BlockShape (block_of job) × (job_in (block_of job) ≡ job)
history_block h = kept_block (history_kept h)

-- The same of what the code reads.
pub history_from_block : {job : Job} {t : List ℕ} → History job t → from_block (block_of job) ≡ Some job
history_from_block {job} h =
    let own = history_block h in
    sym (from_block_yes (block_of job) own.0 (sym own.1))

-- Two equivalences, one after the other.
both : {A B C E : Type 0} → A ↔ (B × E) → B ↔ C → A ↔ (C × E)
both f g = ((λ a. (g.0 (f.0 a).0, (f.0 a).1)), (λ c. f.1 (g.1 c.0, c.1)))

either : {A B C E : Type 0} → A ↔ (B ⊎ E) → B ↔ C → A ↔ (C ⊎ E)
either f g = ((λ a. ⊎_elim (λ b. inl (g.0 b)) inr (f.0 a)), (λ c. f.1 (⊎_elim (λ d. inl (g.1 d)) inr c)))

-- Rule 10.5: a filled cell holds the best value for the job that the history ends with.
pub demand_3_best : {job : Job} {t : List ℕ} → History job t → (u w : ℕ) → OnSheet job u w → Filled job t u w → BestFor job u w (cell job t u w)
demand_3_best h = (history_kept h).best

-- Rule 10.6: the cells that are filled are exactly the covered ones.
pub demand_3_filled : {job : Job} {t : List ℕ} (h : History job t) (u w : ℕ) → OnSheet job u w → Filled job t u w ↔ Covered h u w
unfolding Covered
demand_3_filled (History.opening a b t p e) u w i = ((λ f. f ((open_outcome a b t p e).none u w i)), (λ n. absurd n))
demand_3_filled (History.adding {job = job} {t = t} h piece p) u w i =
    let o = outcome_filled (add_outcome job t piece p) u w i in
    both o.1 (demand_3_filled h u w o.0)
demand_3_filled (History.correcting {job = job} {t = t} h k piece p) u w i =
    let o = outcome_filled (correct_outcome job t k piece p) u w i in
    both o.1 (demand_3_filled h u w o.0)
demand_3_filled (History.removing {job = job} {t = t} h k p) u w i =
    let o = outcome_filled (remove_outcome job t k p) u w i in
    both o.1 (demand_3_filled h u w o.0)
demand_3_filled (History.asking h x y p) u w i =
    either (question_filled (history_kept h) (question (history_kept h) x y p) u w i) (demand_3_filled h u w i)
demand_3_filled (History.elsewhere h s) u w i =
    let g = demand_3_filled h u w i in
    ((λ f. g.0 (λ e. f (s.cells u w i ∙ e))), (λ c e. g.1 c (sym (s.cells u w i) ∙ e)))

-- Rule 10.7: an answer counts the empty cells of the question's box; a refusal counts 0.
pub demand_3_work : {job : Job} {t : List ℕ} → History job t → (x y : ℕ) {r : KhonAsked} {t' : List ℕ} → KhonAsks (block_of job) t x y r t'
    → (r.refusal ≡ 0 → r.worked ≡ count_in_box x y (is_empty job.width t)) × ((r.refusal ≡ 0 → ⊥) → r.worked ≡ 0)
demand_3_work {job} {t} h x y p = by (question (history_kept h) x y p)
  where
    by : {r : KhonAsked} {t' : List ℕ} → Question job t x y r t'
        → (r.refusal ≡ 0 → r.worked ≡ count_in_box x y (is_empty job.width t)) × ((r.refusal ≡ 0 → ⊥) → r.worked ≡ 0)
    by (Question.answered z i f v n) = ((λ _. n), (λ h. absurd (h z)))
    by (Question.refused h q v n e) = ((λ z. absurd (h z)), (λ _. n))

-- Rule 10.2: along a history no question inside the sheet is refused, and each gets its best value.
pub demand_2_answered : {job : Job} {t : List ℕ} → History job t → (x y : ℕ) → OnSheet job x y → {r : KhonAsked} {t' : List ℕ}
    → KhonAsks (block_of job) t x y r t' → (r.refusal ≡ 0) × BestFor job x y r.value
demand_2_answered {job} {t} h x y i p = by (question (history_kept h) x y p)
  where
    by : {r : KhonAsked} {t' : List ℕ} → Question job t x y r t' → (r.refusal ≡ 0) × BestFor job x y r.value
    by (Question.answered z j f v n) = (z, subst (BestFor job x y) (sym v) (box_best job t (history_kept h) x y i f x y (omega (arith, i))))
    by (Question.refused h' q v n e) = absurd (h' (kept_answered job t (history_kept h) x y i q))

-- On a kept table refusal 7 never comes to a question (rule 10.8), inside the sheet or not.
pub ask_never_seven : {job : Job} {t : List ℕ} → History job t → (x y : ℕ) {r : KhonAsked} {t' : List ℕ} → KhonAsks (block_of job) t x y r t' → r.refusal ≡ 7
    → ⊥
unfolding ask_refusals rows_before every_number PassesAt StopsAt
ask_never_seven {job} {t} h x y p e = by (question (history_kept h) x y p) e
  where
    seven : AskRefusal job t x y alien_table → ⊥
    seven g =
        let rows = ask_refusals job t x y in
        let fact = granted_before rows alien_table (λ z. omega arith) refl g in
        ⊎_elim (λ n. n (kept_bounded job t (history_kept h) x y (fact not_inside).0)) (λ z. z) (stopped rows alien_table (λ z. omega arith) g)

    by : {r : KhonAsked} {t' : List ℕ} → Question job t x y r t' → r.refusal ≡ 7 → ⊥
    by (Question.answered z i f v n) e = omega arith
    by (Question.refused n q v w f) e = seven (subst (AskRefusal job t x y) e q)

-- The second of two equal questions works out none.
pub demand_3_again : {job : Job} {t : List ℕ} → History job t → (x y : ℕ) → OnSheet job x y → {r s : KhonAsked} {t' t'' : List ℕ}
    → KhonAsks (block_of job) t x y r t' → KhonAsks (block_of job) t' x y s t'' → s.worked ≡ 0
unfolding Covered
demand_3_again {job} h x y i {t' = t'} p q =
    let after = History.asking h x y p in
    (demand_3_work after x y q).0 (demand_2_answered after x y i q).0
    ∙ count_in_box_zero x y (is_empty job.width t') (λ u w j.
    says_no (is_empty_says job.width t' u w) ((demand_3_filled after u w (omega arith)).1 (inr ((demand_2_answered h x y i p).0, omega arith))))
