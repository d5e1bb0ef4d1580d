-- Each refusal number of plan is given exactly when the list says, and what number 0 grants.
use Prim.Native.Nat.{ℕ, ◌≤◌}
use mathlib.Core.Bool.{Bool}
use mathlib.Core.List.{List}
use mathlib.Core.Path.{◌≡◌, refl, sym, ap, ◌∙◌}
use mathlib.Core.Logic.{inr, ◌↔◌}
use native.Mathlib.Omega.{arith}
use lib.Dec.{leb}
use lib.ListN.{length, take}
use Rattle.laws.specs.Refusal.{Gives}
use Rattle.laws.specs.Inner.{Says, Tested, says, end, every_number, PassesAt}
use Rattle.laws.proofs.Says.{says_le, says_iff}
use Rattle.laws.proofs.Refusal.{gives_exactly, tested_take, granted}
use Rattle.cutting.specs.Piece.{Inside}
use Rattle.cutting.specs.Tree.{Tree}
use Rattle.cells.specs.Cells.{cell_of}
use Rattle.cells.specs.Box.{is_empty}
use Rattle.cells.specs.Inner.{any_in_box}
use Rattle.fill.specs.Filled.{Full, Bounded}
use Rattle.fill.proofs.Growing.{full_says}
use Rattle.job.specs.declared.Job.{Job}
use Rattle.job.specs.Range.{JobInRange}
use Rattle.job.proofs.Range.{job_says}
use Rattle.refusals.specs.Refusals.{bad_job, short_table, not_inside, not_asked, alien_table, short_buffer}
use Rattle.desk.specs.Refusals.{cells_of}
use Rattle.desk.proofs.Exactly.{inside_says, bounded_says}
use Rattle.plan.specs.File.{TreeFor, file_of}
use Rattle.plan.specs.Inner.{tree_for, plan_file, box_rows, plan_tests, box_refused, plan_refused, Ready}
use Rattle.plan.specs.Refusals.{Readable, HasTree, HasRoom, plan_refusals, PlanRefusal}
use Rattle.plan.proofs.Tracing.{tree_by_rules, rules_tree, tree_says}

module _ (job : Job) (t : List ℕ) (x y : ℕ) where
  -- The tests of the box, with the code's width.
  pub empty_test : {a : ℕ} {r : Bool} → r ≡ any_in_box x y (is_empty a t) → a ≡ job.width → r ≡ any_in_box x y (is_empty job.width t)
  empty_test e g = e ∙ ap (λ (m : ℕ). any_in_box x y (is_empty m t)) g

  -- The facts before the tree: the box can be read.
  abbrev pub readable : JobInRange job → cells_of job ≤ length t → Inside x y job.width job.height → Full job.width t x y
      → Bounded (cell_of job.width t) x y → Readable job t x y
  readable range cells i f b = record { usable = record { range = range; room = cells }; inside = i; full = f; bounded = b }

  -- The file of a tree by the rules is as long as the one that is written.
  file_same : {tree : Tree} → Readable job t x y → TreeFor job t x y tree → length (file_of job x y tree) ≡ length (plan_file job t x y)
  file_same r k = ap (λ (u : Tree). length (file_of job x y u)) (rules_tree job t x y r k).1

  room_says : (room : ℕ) → Readable job t x y → HasTree job t x y → Says (leb (length (plan_file job t x y)) room) (HasRoom job t x y room)
  room_says room r k =
      says_iff (
        (λ h. (tree_for job t x y, tree_by_rules job t x y r (rules_tree job t x y r k.1).0, h)),
        (λ h. omega (arith, h.2, file_same r h.1)),
      )
      (says_le (length (plan_file job t x y)) room)

  module _ (room : ℕ) where
    tested : Tested (plan_refusals job t x y room) (plan_tests job t x y room)
    unfolding plan_refusals plan_tests
    tested =
        says (job_says job) (λ range.
        says (says_le (cells_of job) (length t)) (λ cells.
        says (inside_says x y job.width job.height) (λ i.
        says (full_says job.width t x y) (λ f.
        says (bounded_says job.width t x y) (λ b.
        let r = readable range cells i f b in
        says (tree_says job t x y r) (λ k.
        says (room_says room r k) (λ _. end)))))))

    pub plan_number : {k : ℕ} → PlanRefusal job t x y room k ↔ (k ≡ plan_refused job t x y room)
    unfolding plan_refused
    plan_number {k} = gives_exactly (plan_refusals job t x y room) (plan_tests job t x y room) tested k

  -- What number 0 grants, asked for by number: before the tree, that the box can be read ..
  pub readable_of : {r : ℕ} → r ≡ box_refused job t x y → r ≡ 0 → Readable job t x y
  unfolding box_refused plan_refusals PassesAt every_number
  readable_of e z =
      let rows = take box_rows (plan_refusals job t x y 0) in
      let tests = take box_rows (plan_tests job t x y 0) in
      let given = (gives_exactly rows tests (tested_take box_rows (plan_refusals job t x y 0) (plan_tests job t x y 0) (tested 0)) 0).1 (sym z ∙ e) in
      let fact = granted rows refl given in
      readable (fact bad_job).0 (fact short_table).0 (fact not_inside).0 (fact not_asked).0 (fact alien_table).0

-- .. and, in the end, that there is a tree and room for its file.
pub plan_granted : (job : Job) (t : List ℕ) (x y : ℕ) (o : List ℕ) {r : ℕ} → r ≡ plan_refused job t x y (length o) → r ≡ 0 → Ready job t x y o
unfolding plan_refusals PassesAt every_number
plan_granted job t x y o e z =
    let fact = granted (plan_refusals job t x y (length o)) refl ((plan_number job t x y (length o)).1 (sym z ∙ e)) in
    let r = readable job t x y (fact bad_job).0 (fact short_table).0 (fact not_inside).0 (fact not_asked).0 (fact alien_table).0 in
    let fits = (fact short_buffer).0 in
    record { readable = r; traces = (rules_tree job t x y r fits.1).0; room = omega (arith, fits.2, file_same job t x y r fits.1) }

-- The list grants a plan that can be written.
pub plan_accepted : (job : Job) (t : List ℕ) (x y room : ℕ) {tree : Tree} → Readable job t x y → TreeFor job t x y tree → length (file_of job x y tree) ≤ room
    → PlanRefusal job t x y room 0
unfolding Gives plan_refusals
plan_accepted job t x y room {tree} r k h =
    inr (r.usable.range, inr (r.usable.room, inr (r.inside, inr (r.full, inr (r.bounded, inr ((tree, k), inr ((tree, k, h), refl)))))))
