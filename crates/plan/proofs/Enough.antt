-- KHON_PLAN_ENOUGH bytes always hold the plan.
use Prim.Native.Nat.{ℕ, ◌≤◌}
use mathlib.Core.List.{List}
use mathlib.Core.Logic.{⊎_elim}
use mathlib.Core.Path.{refl}
use native.Mathlib.Omega.{arith}
use lib.ListN.{length}
use Rattle.laws.specs.Inner.{every_number, PassesAt, StopsAt, rows_before}
use Rattle.laws.proofs.Refusal.{stopped, granted_before}
use Rattle.cutting.specs.Tree.{Tree, Valid}
use Rattle.cutting.proofs.Tree.{nodes_few}
use Rattle.job.specs.declared.Job.{Job}
use Rattle.job.specs.Job.{pieces_of}
use Rattle.nodes.proofs.Encoding.{encode-length}
use Rattle.refusals.specs.Refusals.{bad_job, short_table, not_inside, not_asked, alien_table, short_buffer}
use Rattle.plan.specs.File.{sheet_of, file_of}
use Rattle.plan.specs.Refusals.{plan_refusals, PlanRefusal}
use Rattle.plan.specs.Enough.{plan_enough}
use Rattle.plan.proofs.Tracing.{tree_dissects}
use Rattle.plan.proofs.Writing.{file-length}
use Rattle.plan.proofs.Exactly.{readable}

-- The file of any tree that dissects x by y is no longer.
pub plan_enough_lem : (job : Job) {tree : Tree} {x y : ℕ} → Valid (pieces_of job) tree x y → 1 ≤ x → 1 ≤ y
    → length (file_of job x y tree) ≤ plan_enough job.count x y
plan_enough_lem job {tree} {x} {y} v h k = omega (arith, file-length (sheet_of job x y) tree, encode-length tree, nodes_few v h k)

-- With that room plan never answers 8.
pub never_eight : (job : Job) (t : List ℕ) (x y room : ℕ) → plan_enough job.count x y ≤ room → PlanRefusal job t x y room short_buffer → ⊥
unfolding plan_refusals rows_before every_number PassesAt StopsAt
never_eight job t x y room enough g =
    let rows = plan_refusals job t x y room in
    let fact = granted_before rows short_buffer (λ e. omega arith) refl g in
    let r = readable job t x y (fact bad_job).0 (fact short_table).0 (fact not_inside).0 (fact not_asked).0 (fact alien_table).0 in
    let tree = (fact alien_table).1.0 in
    ⊎_elim
    (λ n. n (tree.0, tree.1, omega (arith, plan_enough_lem job (tree_dissects job t x y r tree.1).valid r.inside.width_least r.inside.height_least)))
    (λ z. z)
    (stopped rows short_buffer (λ e. omega arith) g)
