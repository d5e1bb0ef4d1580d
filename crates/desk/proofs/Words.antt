-- The promise of each call is what the rules say: for all input, exactly the answers and tables that their words allow (rule 11.1).
use Prim.Native.Nat.{ℕ, zero, suc, ◌*◌, ◌≤◌}
use mathlib.Core.Bool.{Bool}
use mathlib.Core.List.{List, []}
use mathlib.Core.Logic.{◌↔◌}
use mathlib.Core.Path.{◌≡◌, refl, sym, ap, ◌∙◌, subst}
use native.Mathlib.Omega.{arith}
use lib.ListN.{length}
use Rattle.laws.specs.Inner.{Says}
use Rattle.laws.proofs.Says.{says_iff, says_or}
use Rattle.cutting.specs.Piece.{Inside}
use Rattle.cells.specs.Cells.{cell_of}
use Rattle.cells.specs.Box.{is_empty, count_in_box}
use Rattle.cells.specs.Inner.{fits, emptied, emptied_where}
use Rattle.cells.proofs.Emptied.{fits_says, empties_exactly}
use Rattle.fill.specs.Filled.{Fills}
use Rattle.fill.proofs.Filled.{fills_exactly}
use Rattle.job.specs.declared.Piece.{Piece as Record}
use Rattle.job.specs.declared.Job.{Job}
use Rattle.job.specs.Job.{job_of, zero_job, lay_of}
use Rattle.job.specs.Change.{with_added, with_corrected, with_removed}
use Rattle.desk.specs.Asking.{Asked}
use Rattle.desk.specs.Asking.{Answered}
use Rattle.desk.specs.Refusals.{AskRefusal}
use Rattle.desk.specs.Inner.{accepted, ask_refused, changed, opened, opened_cells, emptied_size, added_job, added_cells, corrected_job, corrected_cells, removed_job, removed_cells, asked_with, job_rows, filled_for, asked, asked_cells, OpenPromise, AddPromise, CorrectPromise, RemovePromise, AskPromise}
use Rattle.desk.specs.Changing.{Changed, Changes, Opens, SizeFits, Adds, Corrects, Removes, record_of_piece}
use Rattle.desk.specs.Asking.{Asks}
use Rattle.desk.proofs.Answers.{change_given, change_refused, asked_given, asked_refused}
use Rattle.desk.proofs.Exactly.{open_number, add_number, correct_number, remove_number, ask_number}
use Rattle.desk.proofs.Granted.{open_granted, add_granted, correct_granted, remove_granted, ask_granted}
use Rattle.desk.proofs.Holding.{job_hold}

-- A change whose number is the one that its list gives, and which empties where a test strikes that says what is hit.
module _ (a b : ℕ) (struck : ℕ → ℕ → Bool) (t : List ℕ) (after left : Job) {number : ℕ} {refusal : ℕ → Type 0} {hit : ℕ → ℕ → Type 0}
    (numbered : (k : ℕ) → refusal k ↔ (k ≡ number)) (room : number ≡ 0 → a * b ≤ length t)
    (says : (x y : ℕ) → Inside x y a b → Says (struck x y) (hit x y)) where
  abbrev cells : List ℕ
  cells = emptied_where a b struck t

  to_words : (n : ℕ) {r : Changed} {t' : List ℕ} → refusal n → (n ≡ 0 → a * b ≤ length t) → (r ≡ changed n after left) × (t' ≡ accepted n cells t)
      → Changes a b refusal hit after left t r t'
  unfolding accepted
  to_words zero {t' = t'} g h p =
      subst (λ (r : Changed). Changes a b refusal hit after left t r t') (sym p.0)
      (Changes.accepted g ((empties_exactly a b struck hit t (h refl) says t').0 p.1))
  to_words (suc k) {r} g h p =
      subst (Changes a b refusal hit after left t r) (sym p.1)
      (subst (λ (r : Changed). Changes a b refusal hit after left t r t) (sym p.0) (Changes.refused g))

  from_words : {r : Changed} {t' : List ℕ} → Changes a b refusal hit after left t r t' → (r ≡ changed number after left) × (t' ≡ accepted number cells t)
  from_words (Changes.accepted {t' = t'} g e) =
      let z = (numbered 0).0 g in
      change_given left t z refl refl ((empties_exactly a b struck hit t (room (sym z)) says t').1 e)
  from_words (Changes.refused {k = k} g) = change_refused after cells ((numbered (suc k)).0 g) (λ e. omega arith) refl

  changes_exactly : {r : Changed} {t' : List ℕ} → ((r ≡ changed number after left) × (t' ≡ accepted number cells t)) ↔ Changes a b refusal hit after left t r t'
  changes_exactly = (to_words number ((numbered number).1 refl) room, from_words)

-- A size that fits is struck.
size_says : (size : Record) (x y : ℕ) → Says (fits size.width size.height x y) (SizeFits size x y)
size_says size x y = fits_says size.width size.height x y

pub open_exactly : (a b : ℕ) (t : List ℕ) {r : Changed} {t' : List ℕ} → OpenPromise a b t r t' ↔ Opens a b t r t'
unfolding opened opened_cells emptied
open_exactly a b t =
    changes_exactly a b (fits 1 1) t (job_of a b []) zero_job (λ n. open_number a b t)
    (λ z. (open_granted a b t refl z).room)
    (λ x y i. says_iff ((λ _. tt), (λ _. omega arith)) (fits_says 1 1 x y))

module _ (job : Job) (t : List ℕ) where
  pub add_exactly : (piece : Record) {r : Changed} {t' : List ℕ} → AddPromise job t piece r t' ↔ Adds job t piece r t'
  unfolding added_job added_cells emptied_size emptied
  add_exactly piece =
      changes_exactly job.width job.height _ t (with_added job piece) job (λ n. add_number job t piece)
      (λ z. (add_granted job t piece refl z).usable.room)
      (λ x y i. size_says piece x y)

  pub correct_exactly : (k : ℕ) (piece : Record) {r : Changed} {t' : List ℕ} → CorrectPromise job t k piece r t' ↔ Corrects job t k piece r t'
  unfolding corrected_job corrected_cells
  correct_exactly k piece =
      changes_exactly job.width job.height _ t (with_corrected job k piece) job (λ n. correct_number job t k piece)
      (λ z. (correct_granted job t k piece refl z).usable.room)
      (λ x y i. says_or (size_says (record_of_piece job k) x y) (size_says piece x y))

  pub remove_exactly : (k : ℕ) {r : Changed} {t' : List ℕ} → RemovePromise job t k r t' ↔ Removes job t k r t'
  unfolding removed_job removed_cells emptied_size emptied
  remove_exactly k =
      changes_exactly job.width job.height _ t (with_removed job k) job (λ n. remove_number job t k)
      (λ z. (remove_granted job t k refl z).usable.room)
      (λ x y i. size_says (record_of_piece job k) x y)

  module _ (x y : ℕ) where
    -- The filled table of an accepted question is exactly the one that fills.
    pub filled_for_lem : AskRefusal job t x y 0 → (t' : List ℕ) → (t' ≡ filled_for job t x y) ↔ Fills (lay_of job) job.width job.height x y t t'
    unfolding filled_for
    filled_for_lem g =
        let h = ask_granted job t x y ((ask_number job t x y).0 g) refl in
        fills_exactly (job_rows job) job.width job.height x y t h.usable.room h.inside.width_most h.inside.height_most
        (lay_of job) (job_hold job h.usable.range)

    abbrev value : List ℕ → ℕ
    value t' = cell_of job.width t' x y

    abbrev worked : ℕ
    worked = count_in_box x y (is_empty job.width t)

    asked_words : (n : ℕ) {r : Asked} {t' : List ℕ} → AskRefusal job t x y n
        → (r ≡ asked_with n (value (filled_for job t x y)) worked) × (t' ≡ accepted n (filled_for job t x y) t) → Asks job t x y r t'
    unfolding accepted
    asked_words zero {t' = t'} g p =
        subst (λ (r : Asked). Asks job t x y r t') (sym (p.0 ∙ ap (λ (l : List ℕ). Answered (value l) worked) (sym p.1)))
        (Asks.answered g ((filled_for_lem g t').0 p.1))
    asked_words (suc k) {r} g p =
        subst (Asks job t x y r) (sym p.1) (subst (λ (r : Asked). Asks job t x y r t) (sym p.0) (Asks.refused g))

    pub ask_exactly : {r : Asked} {t' : List ℕ} → AskPromise job t x y r t' ↔ Asks job t x y r t'
    unfolding asked asked_cells
    ask_exactly = (asked_words (ask_refused job t x y) ((ask_number job t x y).1 refl), back)
      where
        back : {r : Asked} {t' : List ℕ} → Asks job t x y r t' → AskPromise job t x y r t'
        back (Asks.answered {t' = t'} g f) =
            let e = (filled_for_lem g t').1 f in
            asked_given t ((ask_number job t x y).0 g) refl (ap value e) refl e
        back (Asks.refused g) = asked_refused _ worked _ ((ask_number job t x y).0 g) (λ e. omega arith)
