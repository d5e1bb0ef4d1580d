-- A job opened anew and its pieces added one by one, as the code goes: to the end, or to the first refusal.
use Rattle.std.proofs.Common.{ℕ, zero, suc, ◌+◌, ◌-◌, ◌≤◌, ◌≡◌, refl, sym, ap, ◌∙◌, List, length, take, get_or, ◌<◌, arith, get_or-take, length-take, add-zero, add-suc, Result, Ok, Err, IsErrAnd}
use Rattle.std.proofs.Math.Numerals.{add-one}
use Rattle.refusals.specs.declared.Refusal.{Refusal}
use Rattle.refusals.specs.Refusals.{number}
use Rattle.refusals.proofs.Numbers.{never_zero}
use Rattle.job.specs.declared.Piece.{Piece as Record}
use Rattle.job.specs.declared.Job.{Job}
use Rattle.job.specs.Job.{no_record}
use Rattle.desk.specs.Inner.{accepted, opened, opened_cells, added_job, added_cells}
use Rattle.desk.proofs.Answers.{left-as-it-was}
use Rattle.program.specs.Entry.{Stand, added_to, added_to_cells, added_all, begun, entered}
use Rattle.program.specs.Inner.{AnswersAs}

-- After a refusal no piece is added.
pub still : (s : Stand) (piece : Record) → (s.answer.refusal ≡ 0 → ⊥)
    → ◌≡◌ {A = Stand} (record { answer = added_to s.answer s.cells piece; cells = added_to_cells s.answer s.cells piece }) s
unfolding added_to added_to_cells
still s piece h =
    let answer = sym (left-as-it-was (added_job s.answer.job s.cells piece) s.answer refl h) in
    let cells = sym (left-as-it-was (added_cells s.answer.job s.cells piece) s.cells refl h) in
    λ i. record { answer = answer i; cells = cells i }

module _ (from : Job) (t : List ℕ) where
  begun_still : (k d : ℕ) → ((begun from t k).answer.refusal ≡ 0 → ⊥) → begun from t (k + d) ≡ begun from t k
  unfolding added_all
  begun_still k zero h = ap (begun from t) (add-zero k)
  begun_still k (suc d) h =
      let before = begun_still k d h in
      ap (begun from t) (add-suc k d) ∙ (still _ _ (λ e. h (sym (ap (λ (s : Stand). s.answer.refusal) before) ∙ e)) ∙ before)

  pub entered_still : (k : ℕ) → k ≤ from.count → ((begun from t k).answer.refusal ≡ 0 → ⊥) → entered from t ≡ begun from t k
  unfolding entered
  entered_still k h n =
      let all : from.count ≡ k + (from.count - k) = omega arith in
      ap (begun from t) all ∙ begun_still k (from.count - k) n

  -- The first refusal stands.
  pub entered_stopped : (k : ℕ) (refusal : Refusal) {cells : List ℕ} (r : Result Job Refusal) → k ≤ from.count
      → number refusal ≡ (begun from t k).answer.refusal → cells ≡ (begun from t k).cells → IsErrAnd r (λ e. e ≡ refusal)
      → AnswersAs r (entered from t).answer × (cells ≡ (entered from t).cells)
  entered_stopped k refusal (Ok job) h e f q = absurd q
  entered_stopped k refusal (Err other) h e f q =
      let same = sym (entered_still k h (λ z. never_zero refusal (e ∙ z))) in
      (ap number q ∙ (e ∙ ap (λ (s : Stand). s.answer.refusal) same), f ∙ ap (λ (s : Stand). s.cells) same)

  -- One more piece.
  pub begun_more : (k : ℕ) {job : Job} {cells : List ℕ} {piece : Record} → AnswersAs (Ok job) (begun from t k).answer → cells ≡ (begun from t k).cells
      → piece ≡ get_or from.pieces k no_record
      → (added_job job cells piece ≡ (begun from t (k + 1)).answer) × (added_cells job cells piece ≡ (begun from t (k + 1)).cells)
  unfolding added_all added_to added_to_cells accepted
  begun_more k {job} {cells} {piece} e f g =
      rw add-one (
        λ i. accepted (e i).refusal (added_job (e i).job (f i) (g i)) (e i),
        λ i. accepted (e i).refusal (added_cells (e i).job (f i) (g i)) (f i),
      )

-- The piece that comes next.
pub piece_read : (from : Job) {items : List Record} (k : ℕ) → items ≡ take from.count from.pieces → k < length items
    → get_or items k no_record ≡ get_or from.pieces k no_record
piece_read from k e h =
    ap (λ (l : List Record). get_or l k no_record) e
    ∙ get_or-take from.count from.pieces k no_record (omega (arith, ap length e, length-take from.count from.pieces))

-- The sheet opened.
pub begun_none : (from : Job) (t : List ℕ) {a b : ℕ} → a ≡ from.width → b ≡ from.height
    → (opened a b t ≡ (begun from t 0).answer) × (opened_cells a b t ≡ (begun from t 0).cells)
unfolding added_all
begun_none from t e f = (λ i. opened (e i) (f i) t, λ i. opened_cells (e i) (f i) t)
