-- What is printed for each answer, as the code goes.
use Prim.Native.Nat.{ℕ, zero, suc, ◌+◌, ◌≤◌}
use Rattle.std.proofs.Common.{Some, None, Result, Ok, Err, IsErrAnd}
use Rattle.refusals.specs.declared.Refusal.{Refusal}
use Rattle.refusals.specs.Refusals.{bad_job, number}
use Rattle.refusals.proofs.Numbers.{never_zero}
use mathlib.Core.Path.{◌≡◌, refl, sym, ap, ◌∙◌}
use mathlib.Core.List.{List}
use native.Mathlib.Omega.{arith}
use lib.ListN.{length, drop, replicate, length-replicate}
use Rattle.laws.specs.Put.{put}
use Rattle.laws.proofs.ByIndex.{by_index-length}
use Rattle.cutting.specs.Limits.{pieces_max}
use Rattle.cells.specs.Cells.{cell_of}
use Rattle.cells.specs.Box.{is_empty, count_in_box}
use Rattle.job.specs.declared.Job.{Job}
use Rattle.job.specs.Job.{job_of}
use Rattle.job.specs.Block.{job_in, count_in, piece_in}
use Rattle.job.specs.Inner.{from_block}
use Rattle.job.specs.Range.{JobInRange}
use Rattle.job.proofs.Blocks.{from_block_some}
use Rattle.printing.specs.declared.Text.{Text}
use Rattle.printing.proofs.Printed.{writes_nothing}
use Rattle.desk.specs.Asking.{Answered, Refused}
use Rattle.desk.specs.Inner.{accepted, ask_refused, asked, asked_cells, filled_for, asked_with}
use Rattle.plan.specs.Planning.{Written, Refused as NoPlan}
use Rattle.plan.specs.Inner.{tree_for, plan_file, plan_refused, planned, planned_bytes, planned_with, Ready}
use Rattle.plan.proofs.Tracing.{tree_by_rules, tree_earns}
use Rattle.plan.proofs.Exactly.{plan_granted}
use Rattle.listing.specs.Line.{refused_text}
use Rattle.program.specs.Entry.{entered}
use Rattle.program.specs.Sizes.{plan_room}
use Rattle.program.specs.Inner.{HoldsPlan, AnswersAs, PrintsText}
use Rattle.program.specs.Program.{text_or, plan_text, planned_text, asked_text, entered_text, new_table, job_text, block_text, program_text}

-- A refusal, or the text.
pub or_refused : (n : ℕ) (text : List ℕ) → (n ≡ 0 → ⊥) → refused_text n ≡ text_or n text
unfolding text_or
or_refused zero text h = absurd (h refl)
or_refused (suc k) text h = refl

pub or_text : {n : ℕ} (text : List ℕ) → n ≡ 0 → text ≡ text_or n text
unfolding text_or
or_text text e = ap (λ (n : ℕ). text_or n text) (sym e)

-- Where a list of refusals gives a number, its line is the text.
pub refusal_text : (refusal : Refusal) {n : ℕ} (text : List ℕ) → number refusal ≡ n → text_or n text ≡ refused_text (number refusal)
refusal_text refusal text e = ap (λ (k : ℕ). text_or k text) (sym e) ∙ sym (or_refused (number refusal) text (never_zero refusal))

-- Where `?` hands a refusal on, nothing is printed.
pub text_left : {text : List ℕ} (t : Text) (r : Result (Unit {0}) Refusal) (refusal : Refusal) → IsErrAnd r (λ e. e ≡ refusal)
    → text ≡ refused_text (number refusal) → PrintsText text t r t
text_left t (Ok n) refusal e f = absurd e
text_left t (Err other) refusal e f = (f ∙ ap (λ (k : Refusal). refused_text (number k)) (sym e), writes_nothing t)

-- What an accepted plan may count on, with a buffer that has this room.
pub plan_with : (job : Job) (t : List ℕ) (x y room : ℕ) → plan_refused job t x y room ≡ 0 → Ready job t x y (replicate room 0)
plan_with job t x y room e = plan_granted job t x y (replicate room 0) (ap (plan_refused job t x y) (sym (length-replicate room 0))) e

-- The answers of plan.
plan_no : (n length value k : ℕ) (text : List ℕ) → NoPlan k ≡ planned_with n length value → refused_text k ≡ text_or n text
unfolding text_or
plan_no zero length value k text e = let z : ◌≡◌ {A = ℕ} 0 1 = cc in absurd (omega arith)
plan_no (suc j) length value k text e = let z : k ≡ suc j = cc in ap refused_text z

plan_yes : (n length value : ℕ) {l v : ℕ} → Written l v ≡ planned_with n length value → 0 ≡ n
plan_yes zero length value e = refl
plan_yes (suc j) length value e = let z : ◌≡◌ {A = ℕ} 0 1 = cc in absurd (omega arith)

module _ (job : Job) (t : List ℕ) {x y : ℕ} (f : x ≡ job.width) (g : y ≡ job.height) where
  whole_plan : {room : ℕ} → room ≡ plan_room → planned job t x y room ≡ planned job t job.width job.height plan_room
  whole_plan m = λ i. planned job t (f i) (g i) (m i)

  pub plan_refused_text : {room k : ℕ} (value worked : ℕ) → NoPlan k ≡ planned job t x y room → room ≡ plan_room
      → refused_text k ≡ planned_text job t value worked
  unfolding planned planned_text
  plan_refused_text value worked h m =
      let a = job.width in
      let b = job.height in
      plan_no (plan_refused job t a b plan_room) (length (plan_file job t a b)) (cell_of a t a b) _ (plan_text job t value worked) (h ∙ whole_plan m)

  module _ {l v room : ℕ} (h : Written l v ≡ planned job t x y room) (m : room ≡ plan_room) where
    granted : 0 ≡ plan_refused job t job.width job.height plan_room
    unfolding planned
    granted =
        let a = job.width in
        let b = job.height in
        plan_yes (plan_refused job t a b plan_room) (length (plan_file job t a b)) (cell_of a t a b) (h ∙ whole_plan m)

    ready : Ready job t job.width job.height (replicate plan_room 0)
    ready = plan_with job t job.width job.height plan_room (sym granted)

    pub plan_range : JobInRange job
    plan_range = ready.readable.usable.range

    -- What stands in the buffer then.
    written_bytes : (o : List ℕ) {p : List ℕ} → length o ≡ room → p ≡ planned_bytes job t x y o → p ≡ put o 0 (plan_file job t job.width job.height)
    unfolding planned_bytes accepted
    written_bytes o k b =
        let none = ap (plan_refused job t job.width job.height) (k ∙ m) ∙ sym granted in
        b ∙ ((λ i. planned_bytes job t (f i) (g i) o) ∙ ap (λ (n : ℕ). accepted n (put o 0 (plan_file job t job.width job.height)) o) none)

    pub plan_held : (o : List ℕ) {p : List ℕ} → length o ≡ room → p ≡ planned_bytes job t x y o → HoldsPlan job p (tree_for job t job.width job.height)
    unfolding put
    plan_held o k b =
        let a = job.width in
        let c = job.height in
        record {
          behind = drop (0 + length (plan_file job t a c)) o;
          valid = (tree_earns job t a c ready.readable (tree_by_rules job t a c ready.readable ready.traces)).0;
          bytes = written_bytes o k b;
        }

    pub plan_written_text : (value worked : ℕ) → plan_text job t value worked ≡ planned_text job t value worked
    unfolding planned_text
    plan_written_text value worked = or_text (plan_text job t value worked) (sym granted)

-- The answers of ask.
ask_no : (n value worked k : ℕ) (text : List ℕ) → Refused k ≡ asked_with n value worked → refused_text k ≡ text_or n text
unfolding text_or
ask_no zero value worked k text e = let z : ◌≡◌ {A = ℕ} 0 1 = cc in absurd (omega arith)
ask_no (suc j) value worked k text e = let z : k ≡ suc j = cc in ap refused_text z

ask_yes : (n value worked : ℕ) (job : Job) {v w : ℕ} (filled t : List ℕ) {after : List ℕ} → Answered v w ≡ asked_with n value worked
    → after ≡ accepted n filled t → planned_text job after v w ≡ text_or n (planned_text job filled value worked)
unfolding text_or accepted
ask_yes zero value worked job {v} {w} filled t e f =
    let g : v ≡ value = cc in
    let h : w ≡ worked = cc in
    λ i. planned_text job (f i) (g i) (h i)
ask_yes (suc j) value worked job filled t e f = let z : ◌≡◌ {A = ℕ} 0 1 = cc in absurd (omega arith)

module _ (job : Job) (t : List ℕ) {x y : ℕ} (f : x ≡ job.width) (g : y ≡ job.height) where
  abbrev ask_number : ℕ
  ask_number = ask_refused job t job.width job.height

  abbrev table : List ℕ
  table = filled_for job t job.width job.height

  abbrev value : ℕ
  value = cell_of job.width table job.width job.height

  abbrev worked : ℕ
  worked = count_in_box job.width job.height (is_empty job.width t)

  whole_ask : asked job t x y ≡ asked job t job.width job.height
  whole_ask = λ i. asked job t (f i) (g i)

  pub ask_refused_text : {k : ℕ} → Refused k ≡ asked job t x y → refused_text k ≡ asked_text job t
  unfolding asked asked_text
  ask_refused_text h = ask_no ask_number value worked _ _ (h ∙ whole_ask)

  pub ask_answered_text : {v w : ℕ} {after : List ℕ} → Answered v w ≡ asked job t x y → after ≡ asked_cells job t x y
      → planned_text job after v w ≡ asked_text job t
  unfolding asked asked_text asked_cells
  ask_answered_text h k = ask_yes ask_number value worked job table t (h ∙ whole_ask) (k ∙ (λ i. asked_cells job t (f i) (g i)))

-- The job as it was entered on a new table.
module _ (from : Job) {t : List ℕ} where
  pub entered_refused_text : (refusal : Refusal) → number refusal ≡ (entered from t).answer.refusal → t ≡ new_table
      → job_text from ≡ refused_text (number refusal)
  unfolding job_text entered_text
  entered_refused_text refusal e table =
      ap (λ (l : List ℕ). entered_text (entered from l).answer (entered from l).cells) (sym table)
      ∙ refusal_text refusal (asked_text (entered from t).answer.job (entered from t).cells) e

  pub entered_text_lem : {job : Job} {cells : List ℕ} → AnswersAs (Ok job) (entered from t).answer → cells ≡ (entered from t).cells → t ≡ new_table
      → asked_text job cells ≡ job_text from
  unfolding job_text entered_text text_or
  entered_text_lem e f table =
      (λ i. text_or (e i).refusal (asked_text (e i).job (f i))) ∙ ap (λ (l : List ℕ). entered_text (entered from l).answer (entered from l).cells) table

-- The block.
pub block_none : (s : List ℕ) → from_block s ≡ None → program_text s ≡ refused_text bad_job
unfolding program_text block_text
block_none s e = ap block_text e

pub block_some : (s : List ℕ) {from : Job} → from_block s ≡ Some from → job_text from ≡ program_text s
unfolding program_text block_text
block_some s e = ap block_text (sym e)

pub block_few : (s : List ℕ) {job : Job} → Some job ≡ from_block s → job.count ≤ pieces_max
unfolding job_in job_of
block_few s e =
    let k = from_block_some s e in
    omega (arith, k.0.most, by_index-length (piece_in s) (count_in s), ap (λ (j : Job). j.count) k.1)
