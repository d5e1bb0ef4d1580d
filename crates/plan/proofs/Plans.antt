-- The promise of plan says what the rules say, neither more nor less (rule 11.1).
use Prim.Native.Nat.{ℕ, zero, suc}
use mathlib.Core.List.{List}
use mathlib.Core.Path.{◌≡◌, refl, ap, ◌∙◌}
use mathlib.Core.Logic.{◌↔◌}
use native.Mathlib.Omega.{arith}
use lib.ListN.{length}
use Rattle.laws.specs.Put.{put}
use Rattle.cutting.specs.Tree.{Tree}
use Rattle.cells.specs.Cells.{cell_of}
use Rattle.job.specs.declared.Job.{Job}
use Rattle.desk.specs.Inner.{accepted}
use Rattle.desk.proofs.Answers.{given}
use Rattle.plan.specs.File.{file_of}
use Rattle.plan.specs.Inner.{plan_file, plan_refused, planned_with, planned, planned_bytes, PlanPromise}
use Rattle.plan.specs.Refusals.{PlanRefusal}
use Rattle.plan.specs.Planning.{Planned, Written, Plans}
use Rattle.plan.proofs.Tracing.{tree_by_rules, rules_tree}
use Rattle.plan.proofs.Exactly.{plan_number, plan_granted, plan_accepted}
use Rattle.plan.proofs.Answers.{refused_answer}

module _ (job : Job) (t : List ℕ) (x y : ℕ) (o : List ℕ) where
  -- What is answered with the list's number, and what the buffer holds then.
  answers : (k : ℕ) → k ≡ plan_refused job t x y (length o) → PlanRefusal job t x y (length o) k
      → Plans job t x y o (planned_with k (length (plan_file job t x y)) (cell_of job.width t x y)) (accepted k (put o 0 (plan_file job t x y)) o)
  unfolding accepted
  answers zero e h =
      let r = plan_granted job t x y o e refl in
      Plans.written r.readable (tree_by_rules job t x y r.readable r.traces) r.room
  answers (suc k) e h = Plans.refused h

  promise_plans : {r : Planned} {p : List ℕ} → PlanPromise job t x y o r p → Plans job t x y o r p
  unfolding planned planned_bytes
  promise_plans f =
      rw (f.0, f.1) (answers (plan_refused job t x y (length o)) refl ((plan_number job t x y (length o)).1 refl))

  plans_promise : {r : Planned} {p : List ℕ} → Plans job t x y o r p → PlanPromise job t x y o r p
  unfolding planned planned_bytes
  plans_promise (Plans.written {tree} r k h) =
      let none = (plan_number job t x y (length o)).0 (plan_accepted job t x y (length o) r k h) in
      let same = (rules_tree job t x y r k).1 in (
        ap (λ (u : Tree). Written (length (file_of job x y u)) (cell_of job.width t x y)) same
            ∙ ap (λ (n : ℕ). planned_with n (length (plan_file job t x y)) (cell_of job.width t x y)) none,
        ap (λ (u : Tree). put o 0 (file_of job x y u)) same ∙ given (put o 0 (plan_file job t x y)) o none refl,
      )
  plans_promise (Plans.refused h) = refused_answer _ _ _ ((plan_number job t x y (length o)).0 h) (λ e. omega arith)

  pub plan_exactly : {r : Planned} {p : List ℕ} → PlanPromise job t x y o r p ↔ Plans job t x y o r p
  plan_exactly = (promise_plans, plans_promise)
