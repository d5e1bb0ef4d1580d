-- The promise determines answer and buffer; a planned file is accepted by check.
use Prim.Native.Nat.{ℕ, zero, suc, ◌+◌}
use mathlib.Core.List.{List, []}
use mathlib.Core.Path.{◌≡◌, refl, sym, ap, ap₂, ◌∙◌}
use native.Mathlib.Omega.{arith}
use lib.ListN.{length, take}
use Rattle.laws.specs.Put.{put}
use Rattle.laws.proofs.Put.{put_front}
use Rattle.cutting.specs.Tree.{Tree, Valid, piece_area_of, scrap_area_of}
use Rattle.cutting.proofs.Tree.{areas}
use Rattle.cells.specs.Cells.{cell_of}
use Rattle.job.specs.declared.Job.{Job}
use Rattle.job.specs.Job.{pieces_of}
use Rattle.job.specs.Range.{JobInRange}
use Rattle.checker.specs.Checked.{Checked}
use Rattle.checker.specs.Inner.{checked}
use Rattle.checker.proofs.Accepts.{plan_accepted}
use Rattle.desk.proofs.Answers.{given}
use Rattle.plan.specs.File.{sheet_of}
use Rattle.plan.specs.Inner.{tree_for, plan_file, plan_refused, planned_with, planned, planned_bytes, Ready, PlanPromise, AcceptedAs}
use Rattle.plan.proofs.Tracing.{tree_by_rules, tree_dissects}
use Rattle.plan.proofs.Writing.{sheet_pieces}
use Rattle.plan.proofs.Exactly.{plan_granted}
use Rattle.plan.proofs.Answers.{cell_earned, file_short}
use Rattle.plan.specs.Planning.{Planned, Written, planned_from, planned_numbers}
use Rattle.plan.specs.declared.Written.{Written as Values}
use Rattle.std.specs.Prelude.{Result, Ok, Err}
use Rattle.refusals.specs.declared.Refusal.{Refusal}
use Rattle.refusals.proofs.Numbers.{never_zero, number_only}

-- Two answers that keep the promise are equal (rule 11.2): answer and all bytes.
pub plan_unique : (job : Job) (t : List ℕ) (x y : ℕ) (o : List ℕ) {r s : Planned} {p q : List ℕ} → PlanPromise job t x y o r p → PlanPromise job t x y o s q
    → (r ≡ s) × (p ≡ q)
plan_unique job t x y o f g = (f.0 ∙ sym g.0, f.1 ∙ sym g.1)

-- Two answers of the code that are read alike are one.
pub planned_from_only : (r s : Result Values Refusal) → planned_from r ≡ planned_from s → r ≡ s
planned_from_only (Ok a) (Ok b) e = λ i. Ok (record { length = (planned_numbers (e i)).length; value = (planned_numbers (e i)).value })
planned_from_only (Ok a) (Err f) e = absurd (never_zero f (sym (ap (λ (c : Planned). (planned_numbers c).refusal) e)))
planned_from_only (Err f) (Ok a) e = absurd (never_zero f (ap (λ (c : Planned). (planned_numbers c).refusal) e))
planned_from_only (Err f) (Err g) e = ap Err (number_only f g (ap (λ (c : Planned). (planned_numbers c).refusal) e))

-- What an answer says of the refusal, the length and the value.
written_says : {n v bytes value : ℕ} (k : ℕ) → Written n v ≡ planned_with k bytes value → (k ≡ 0) × (n ≡ bytes) × (v ≡ value)
written_says zero e = (refl, cc, cc)
written_says (suc k) e = let z : ◌≡◌ {A = ℕ} 0 1 = cc in absurd (omega arith)

module _ (job : Job) (t : List ℕ) (x y : ℕ) (o : List ℕ) where
  module _ {n value : ℕ} {p : List ℕ} (f : PlanPromise job t x y o (Written n value) p) where
    says : (plan_refused job t x y (length o) ≡ 0) × (n ≡ length (plan_file job t x y)) × (value ≡ cell_of job.width t x y)
    unfolding planned
    says = written_says (plan_refused job t x y (length o)) f.0

    ready : Ready job t x y o
    ready = plan_granted job t x y o refl says.0

    put_there : p ≡ put o 0 (plan_file job t x y)
    unfolding planned_bytes
    put_there = f.1 ∙ sym (given (put o 0 (plan_file job t x y)) o refl says.0)

    -- The value is the number in the cell.
    pub plan_value : value ≡ cell_of job.width t x y
    plan_value = says.2

    end : n ≡ 0 + length (plan_file job t x y)
    end = omega (arith, says.1)

    -- The first bytes are the file (rule 4.10).
    pub plan_file_lem : take n p ≡ plan_file job t x y
    plan_file_lem = ap₂ take end put_there ∙ put_front o 0 (plan_file job t x y) (omega arith)

    abbrev sheet : Job
    sheet = sheet_of job x y

    abbrev tree : Tree
    tree = tree_for job t x y

    range : JobInRange sheet
    range =
        let u = ready.readable.usable.range in
        let i = ready.readable.inside in
        record {
          width_least = i.width_least;
          width_most = omega (arith, i.width_most, u.width_most);
          height_least = i.height_least;
          height_most = omega (arith, i.height_most, u.height_most);
          count_most = u.count_most;
          pieces = rw (sheet_pieces job x y) u.pieces;
        }

    valid : Valid (pieces_of sheet) tree x y
    valid = rw (sheet_pieces job x y) (tree_dissects job t x y ready.readable (tree_by_rules job t x y ready.readable ready.traces)).valid

    -- Whenever plan writes, check accepts the file, with note length 0, the answered value, and areas that make x by y.
    pub plan_checked : AcceptedAs (take n p) x y value
    plan_checked =
        let earned = cell_earned job t x y ready.readable ready.traces plan_value in
        record {
          piece_area_of = piece_area_of (pieces_of sheet) tree;
          scrap_area_of = scrap_area_of tree x y;
          answer =
              ap checked plan_file_lem
              ∙ (sym (plan_accepted [] sheet tree range valid (file_short job t x y ready.readable ready.traces))
              ∙ ap (λ (v : ℕ). Checked.Accepted v 0 (piece_area_of (pieces_of sheet) tree) (scrap_area_of tree x y)) (sym earned));
          areas = areas valid;
        }
