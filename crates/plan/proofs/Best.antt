-- On a table whose filled cells hold best values: refusal 7 never arises, 6 only where a cell was not asked, and with room in the
-- buffer plan writes the file of a tree that earns the best value.
use Prim.Native.Nat.{ℕ, ◌≤◌}
use mathlib.Core.Bool.{true}
use mathlib.Core.List.{List}
use mathlib.Core.Logic.{⊎_elim}
use mathlib.Core.Path.{◌≡◌, refl, sym, ap, ◌∙◌, subst}
use native.Mathlib.Omega.{arith}
use lib.ListN.{length}
use Rattle.laws.specs.Inner.{every_number, PassesAt, StopsAt, rows_before}
use Rattle.laws.proofs.Refusal.{stopped, granted_before}
use Rattle.cutting.specs.Piece.{Inside}
use Rattle.cutting.specs.Dissection.{Best}
use Rattle.cutting.proofs.Bound.{best_bound}
use Rattle.cells.specs.Cells.{cell_of}
use Rattle.fill.specs.Filled.{Full}
use Rattle.job.specs.declared.Job.{Job}
use Rattle.job.specs.Job.{pieces_of, lay_of}
use Rattle.tracer.specs.Inner.{Dissects}
use Rattle.tracer.proofs.Best.{best_traced}
use Rattle.refusals.specs.Refusals.{not_inside, not_asked, alien_table}
use Rattle.desk.specs.Refusals.{Usable}
use Rattle.plan.specs.File.{TreeFor}
use Rattle.plan.specs.Inner.{tree_for, traces_for, plan_file, planned_with, planned, PlanPromise, HoldsBest}
use Rattle.plan.specs.Refusals.{Readable, plan_refusals, PlanRefusal}
use Rattle.plan.specs.Enough.{plan_enough}
pub use Rattle.plan.specs.Best.{PlansBest}
use Rattle.plan.proofs.Tracing.{hold, tree_by_rules, rules_tree, tree_dissects}
use Rattle.plan.proofs.Exactly.{plan_number, plan_accepted}
use Rattle.plan.proofs.Enough.{plan_enough_lem}
use Rattle.plan.proofs.Promise.{plan_file_lem}
use Rattle.plan.specs.Planning.{Planned, Written}

module _ (job : Job) (t : List ℕ) (usable : Usable job t) (best : HoldsBest job t) (x y : ℕ) where
  module _ (i : Inside x y job.width job.height) (full : Full job.width t x y) where
    box_best : (u w : ℕ) → Inside u w x y → Best (lay_of job) u w (cell_of job.width t u w)
    box_best u w j = best u w (omega arith) (full u w j)

    -- A full box can be read, and rule 6.6 strikes nowhere in it.
    pub best_readable : Readable job t x y
    best_readable = record { usable = usable; inside = i; full = full; bounded = λ u w j h. best_bound usable.range.pieces (box_best u w j) }

    pub best_traces : traces_for job t x y ≡ true
    best_traces =
        let held = hold job t x y best_readable in
        let tree = best_traced held usable.range.pieces (cell_of job.width t) x y i.width_most i.height_most box_best x y (omega arith) in
        (rules_tree job t x y best_readable tree.1).0

    pub best_tree : TreeFor job t x y (tree_for job t x y)
    best_tree = tree_by_rules job t x y best_readable best_traces

    best_dissects : Dissects (pieces_of job) (tree_for job t x y) x y (cell_of job.width t x y)
    best_dissects = tree_dissects job t x y best_readable best_tree

  -- Rule 7.7 never applies on such a table.
  pub never_seven : (room : ℕ) → PlanRefusal job t x y room alien_table → ⊥
  unfolding plan_refusals rows_before every_number PassesAt StopsAt
  never_seven room g =
      let rows = plan_refusals job t x y room in
      let fact = granted_before rows alien_table (λ e. omega arith) refl g in
      let i = (fact not_inside).0 in
      let full = (fact not_asked).0 in
      ⊎_elim (λ n. n (best_readable i full).bounded) (⊎_elim (λ n. n (tree_for job t x y, best_tree i full)) (λ z. z))
      (stopped rows alien_table (λ e. omega arith) g)

  -- Refusal 6: the box is not full.
  pub six_empty : (room : ℕ) → PlanRefusal job t x y room not_asked → Full job.width t x y → ⊥
  unfolding plan_refusals StopsAt
  six_empty room g full = ⊎_elim (λ n. n full) (λ z. z) (stopped (plan_refusals job t x y room) not_asked (λ e. omega arith) g)

  -- With room in the buffer plan writes.
  pub plan_writes : (i : Inside x y job.width job.height) → Full job.width t x y → (o : List ℕ) → length (plan_file job t x y) ≤ length o
      → {r : Planned} {p : List ℕ} → PlanPromise job t x y o r p → PlansBest job x y r p
  unfolding planned
  plan_writes i full o room {r} {p} f =
      record {
        tree = tree_for job t x y;
        value = cell_of job.width t x y;
        valid = (best_dissects i full).valid;
        earns = (best_dissects i full).earns;
        best = box_best i full x y (omega arith);
        written = written;
        file = plan_file_lem job t x y o g;
      }
    where
      written : r ≡ Written (length (plan_file job t x y)) (cell_of job.width t x y)
      written =
          let none = (plan_number job t x y (length o)).0 (plan_accepted job t x y (length o) (best_readable i full) (best_tree i full) room) in
          f.0 ∙ ap (λ (k : ℕ). planned_with k (length (plan_file job t x y)) (cell_of job.width t x y)) (sym none)

      g : PlanPromise job t x y o (Written (length (plan_file job t x y)) (cell_of job.width t x y)) p
      g = subst (λ (s : Planned). PlanPromise job t x y o s p) written f

  -- KHON_PLAN_ENOUGH bytes are room enough.
  pub plan_writes_enough : (i : Inside x y job.width job.height) → Full job.width t x y → (o : List ℕ) → plan_enough job.count x y ≤ length o
      → {r : Planned} {p : List ℕ} → PlanPromise job t x y o r p → PlansBest job x y r p
  plan_writes_enough i full o enough =
      plan_writes i full o (omega (arith, plan_enough_lem job (best_dissects i full).valid i.width_least i.height_least))
