-- Every refusal number that the program can meet has one digit or two.
use Prim.Native.Nat.{ℕ, zero, suc, ◌<◌}
use mathlib.Core.List.{List}
use mathlib.Core.Path.{refl}
use native.Mathlib.Omega.{arith}
use Rattle.laws.specs.Inner.{every_number}
use Rattle.laws.proofs.Refusal.{number_within}
use Rattle.job.specs.declared.Piece.{Piece as Record}
use Rattle.job.specs.declared.Job.{Job}
use Rattle.desk.specs.Changing.{Changed}
use Rattle.desk.specs.Refusals.{open_refusals, add_refusals, ask_refusals}
use Rattle.desk.specs.Inner.{accepted, open_tests, open_refused, add_tests, add_refused, ask_tests, ask_refused, opened, opened_cells, added_job}
use Rattle.plan.specs.Refusals.{plan_refusals}
use Rattle.plan.specs.Inner.{plan_tests, plan_refused}
use Rattle.program.specs.Entry.{added_to, added_all, entered}

module _ (job : Job) (t : List ℕ) where
  add_digits : (piece : Record) → add_refused job t piece < 100
  unfolding add_refused add_refusals every_number
  add_digits piece = number_within (add_refusals job t piece) (add_tests job t piece) 100 (omega arith) refl

  module _ (x y : ℕ) where
    pub ask_digits : ask_refused job t x y < 100
    unfolding ask_refused ask_refusals every_number
    ask_digits = number_within (ask_refusals job t x y) (ask_tests job t x y) 100 (omega arith) refl

    pub plan_digits : (room : ℕ) → plan_refused job t x y room < 100
    unfolding plan_refused plan_refusals every_number
    plan_digits room = number_within (plan_refusals job t x y room) (plan_tests job t x y room) 100 (omega arith) refl

open_digits : (a b : ℕ) (t : List ℕ) → open_refused a b t < 100
unfolding open_refused open_refusals every_number
open_digits a b t = number_within (open_refusals a b t) (open_tests a b t) 100 (omega arith) refl

added_digits : (before : Changed) (t : List ℕ) (piece : Record) → before.refusal < 100 → (added_to before t piece).refusal < 100
unfolding added_to added_job accepted
added_digits before t piece h = by before.refusal
  where
    by : (k : ℕ) → (accepted k (added_job before.job t piece) before).refusal < 100
    by zero = add_digits before.job t piece
    by (suc k) = h

pub entered_digits : (from : Job) (t : List ℕ) → (entered from t).answer.refusal < 100
unfolding entered added_all opened
entered_digits from t = all from.count
  where
    all : (k : ℕ) → (added_all (opened from.width from.height t) (opened_cells from.width from.height t) from.pieces k).answer.refusal < 100
    all zero = open_digits from.width from.height t
    all (suc k) = added_digits _ _ _ (all k)
