-- Only the cells of the sheet matter: tables that agree on them get the same answers, and agree still.
-- The entries behind them belong to no cell (rule 4.3): no answer depends on them.
use Prim.Native.Nat.{ℕ, zero, suc, ◌*◌, ◌≤◌}
use mathlib.Core.Bool.{Bool, true, false, not, cond, ◌&&◌}
use mathlib.Core.List.{List, [], ◌∷◌}
use mathlib.Core.Path.{◌≡◌, refl, sym, ap, ◌∙◌, subst}
use native.Mathlib.Omega.{arith}
use lib.ListN.{length}
use lib.Dec.{leb, eqb}
use borrow.Author.Tests.{le-leb}
use Rattle.laws.specs.Inner.{Says, number_given}
use Rattle.laws.proofs.Says.{says_no, says_false}
use Rattle.cutting.specs.Limits.{value_max}
use Rattle.cutting.specs.Piece.{Fits, Inside}
use Rattle.cells.specs.Cells.{empty, cell_of}
use Rattle.cells.specs.Inner.{fits, emptied_where, exceeds, too_much, any_in_box}
use Rattle.cells.specs.Box.{is_empty, count_in_box}
use Rattle.cells.proofs.Emptied.{fits_says, emptied_where_cell, emptied_where-length}
use Rattle.cells.proofs.Box.{any_in_box_same, count_in_box_same}
use Rattle.board.specs.Inner.{Rows}
use Rattle.fill.specs.Inner.{worth_of, settled, final, filled}
use Rattle.fill.proofs.Filled.{final_only, final_own, filled_inside, filled_outside}
use Rattle.fill.proofs.Growing.{filled-length}
use Rattle.job.specs.declared.Job.{Job}
use Rattle.job.specs.Inner.{job_in_range, within}
use Rattle.refusals.specs.Refusals.{bad_job, not_inside}
use Rattle.desk.specs.Refusals.{cells_of, ask_refusals}
use Rattle.desk.specs.Inner.{accepted, ask_tests, ask_refused, changed, asked_with, job_rows, filled_for, asked, asked_cells}
use Rattle.desk.proofs.Exactly.{inside_says}
use Rattle.tracer.specs.Inner.{whole}
use Rattle.tracer.proofs.Same.{SameCells, traced_same, traces_same}
use Rattle.checker.specs.PlanFile.{plan_bytes}
use Rattle.plan.specs.File.{sheet_of}
use Rattle.plan.specs.Inner.{plan_file, plan_tests, plan_refused}
use Rattle.plan.specs.Refusals.{plan_refusals}
use Rattle.demands.specs.Script.{Said, said, empty_cells}

-- Both tables have the cells of a sheet a by b, with the same numbers.
pub record Agree (a b : ℕ) (t s : List ℕ) : Type 0 where
  pub room : a * b ≤ length t
  pub other : a * b ≤ length s
  pub cells : (u w : ℕ) → Inside u w a b → cell_of a t u w ≡ cell_of a s u w

-- .. of the sheet of a job.
abbrev pub AgreeFor : Job → List ℕ → List ℕ → Type 0
AgreeFor job t s = Agree job.width job.height t s

-- The same cells emptied in both.
pub agree_emptied : (a b : ℕ) (t s : List ℕ) (struck : ℕ → ℕ → Bool) → Agree a b t s → Agree a b (emptied_where a b struck t) (emptied_where a b struck s)
agree_emptied a b t s struck g =
    record {
      room = omega (arith, g.room, emptied_where-length a b struck t);
      other = omega (arith, g.other, emptied_where-length a b struck s);
      cells = λ u w i. emptied_where_cell struck t g.room i ∙ (ap (cond (struck u w) empty) (g.cells u w i) ∙ sym (emptied_where_cell struck s g.other i));
    }

-- The same box filled in both.
pub agree_final : (rows : Rows) (a b : ℕ) (t s : List ℕ) (x y : ℕ) → x ≤ a → y ≤ b → Agree a b t s → (u w : ℕ) → Inside u w x y
    → final rows (cell_of a t) u w ≡ final rows (cell_of a s) u w
agree_final rows a b t s x y h k g =
    final_only rows (cell_of a s) (final rows (cell_of a t)) x y
    (λ u w i. final_own rows (cell_of a t) u w ∙ ap (λ (v : ℕ). settled v (worth_of rows (final rows (cell_of a t)) u w)) (g.cells u w (omega arith)))

pub agree_filled : (rows : Rows) (a b : ℕ) (t s : List ℕ) (x y : ℕ) → x ≤ a → y ≤ b → Agree a b t s → Agree a b (filled rows a b x y t) (filled rows a b x y s)
agree_filled rows a b t s x y h k g =
    record {
      room = omega (arith, g.room, filled-length rows a b x y t);
      other = omega (arith, g.other, filled-length rows a b x y s);
      cells = λ u w i. by u w i (fits u w x y) (fits_says u w x y);
    }
  where
    by : (u w : ℕ) → Inside u w a b → (r : Bool) → Says r (Fits u w x y) → cell_of a (filled rows a b x y t) u w ≡ cell_of a (filled rows a b x y s) u w
    by u w i true p =
        let f = p.means refl in
        let j : Inside u w x y = omega arith in
        filled_inside rows a b x y t g.room h k u w j ∙ (agree_final rows a b t s x y h k g u w j ∙ sym (filled_inside rows a b x y s g.other h k u w j))
    by u w i false p =
        let n : Fits u w x y → ⊥ = says_false p refl in
        filled_outside rows a b x y t g.room h k u w i n ∙ (g.cells u w i ∙ sym (filled_outside rows a b x y s g.other h k u w i n))

-- Counts and tests over the sheet.
pub agree_empties : (a b x y : ℕ) (t s : List ℕ) → x ≤ a → y ≤ b → Agree a b t s → count_in_box x y (is_empty a t) ≡ count_in_box x y (is_empty a s)
unfolding is_empty
agree_empties a b x y t s h k g = count_in_box_same x y _ _ (λ u w i. ap (λ (v : ℕ). eqb v empty) (g.cells u w (omega arith)))

pub agree_sheet : (job : Job) (t s : List ℕ) → AgreeFor job t s → empty_cells job t ≡ empty_cells job s
agree_sheet job t s g = agree_empties job.width job.height job.width job.height t s (omega arith) (omega arith) g

pub agree_exceeds : (a b x y : ℕ) (t s : List ℕ) → x ≤ a → y ≤ b → Agree a b t s → any_in_box x y (exceeds a t) ≡ any_in_box x y (exceeds a s)
unfolding exceeds
agree_exceeds a b x y t s h k g = any_in_box_same x y _ _ (λ u w i. ap (λ (v : ℕ). too_much v (u * w * value_max)) (g.cells u w (omega arith)))

-- The test of refusal 2 is the same for both: both have the cells.
pub agree_room : (job : Job) (t s : List ℕ) → Agree job.width job.height t s → leb (cells_of job) (length t) ≡ leb (cells_of job) (length s)
agree_room job t s g = le-leb (cells_of job) (length t) g.room ∙ sym (le-leb (cells_of job) (length s) g.other)

-- What a change with this number leaves of a table.
abbrev changed_cells : Job → (ℕ → ℕ → Bool) → ℕ → List ℕ → List ℕ
changed_cells job struck n t = accepted n (emptied_where job.width job.height struck t) t

-- A change of both: one answer, and they agree still.
pub change_agree : (job after : Job) (t s : List ℕ) (struck : ℕ → ℕ → Bool) (k m : ℕ) → k ≡ m → after.width ≡ job.width → after.height ≡ job.height
    → Agree job.width job.height t s
    → (changed k after job ≡ changed m after job) × AgreeFor (changed m after job).job (changed_cells job struck k t) (changed_cells job struck m s)
unfolding accepted
change_agree job after t s struck k m e f h g =
    let left = changed_cells job struck in
    (ap (λ (n : ℕ). changed n after job) e, subst (λ (n : ℕ). AgreeFor (changed m after job).job (left n t) (left m s)) (sym e) (by m))
  where
    by : (n : ℕ) → AgreeFor (changed n after job).job (changed_cells job struck n t) (changed_cells job struck n s)
    by zero =
        let first = emptied_where job.width job.height struck t in
        let second = emptied_where job.width job.height struck s in
        let high = subst (λ (b : ℕ). Agree job.width b first second) (sym h) (agree_emptied job.width job.height t s struck g) in
        subst (λ (a : ℕ). Agree a after.height first second) (sym f) high
    by (suc n) = g

-- A question on both: one answer, and they agree still.
module _ (job : Job) (t s : List ℕ) (x y : ℕ) (g : Agree job.width job.height t s) where
  pub ask_agree : (asked job t x y ≡ asked job s x y) × Agree job.width job.height (asked_cells job t x y) (asked_cells job s x y)
  unfolding asked asked_cells ask_refused ask_refusals ask_tests number_given accepted filled_for
  ask_agree = by (within x job.width && within y job.height) (inside_says x y job.width job.height)
    where
      bounded : List ℕ → Bool
      bounded l = not (any_in_box x y (exceeds job.width l))

      tests : Bool → List ℕ → List Bool
      tests r l = job_in_range job ∷ leb (cells_of job) (length l) ∷ r ∷ bounded l ∷ []

      refusal : List Bool → ℕ
      refusal = number_given (ask_refusals job t x y)

      value : List ℕ → ℕ
      value l = cell_of job.width (filled_for job l x y) x y

      worked : List ℕ → ℕ
      worked l = count_in_box x y (is_empty job.width l)

      left : ℕ → List ℕ → List ℕ
      left n l = accepted n (filled_for job l x y) l

      Same : ℕ → ℕ → Type 0
      Same m n = (asked_with m (value t) (worked t) ≡ asked_with n (value s) (worked s)) × AgreeFor job (left m t) (left n s)

      after : (n : ℕ) → Inside x y job.width job.height → AgreeFor job (left n t) (left n s)
      after zero i = agree_filled (job_rows job) job.width job.height t s x y i.width_most i.height_most g
      after (suc n) i = g

      -- Outside the sheet both are refused.
      outside : (b d m n : Bool) → Same (refusal (b ∷ d ∷ false ∷ m ∷ [])) (refusal (b ∷ d ∷ false ∷ n ∷ []))
      outside false d m n = (refl, g)
      outside true false m n = (refl, g)
      outside true true m n = (refl, g)

      by : (r : Bool) → Says r (Inside x y job.width job.height) → Same (refusal (tests r t)) (refusal (tests r s))
      by true p =
          let i = p.means refl in
          let over = agree_exceeds job.width job.height x y t s i.width_most i.height_most g in
          let empties = agree_empties job.width job.height x y t s i.width_most i.height_most g in
          let n = refusal (tests true s) in
          let e : refusal (tests true t) ≡ n = λ j. refusal (job_in_range job ∷ agree_room job t s g j ∷ true ∷ not (over j) ∷ []) in
          let agree = subst (λ (m : ℕ). AgreeFor job (left m t) (left n s)) (sym e) (after n i) in
          ((λ j. asked_with (e j) ((after zero i).cells x y i j) (empties j)), agree)
      by false p = rw (agree_room job t s g) (outside (job_in_range job) (leb (cells_of job) (length s)) (bounded t) (bounded s))

pub agree_any_empty : (a b x y : ℕ) (t s : List ℕ) → x ≤ a → y ≤ b → Agree a b t s → any_in_box x y (is_empty a t) ≡ any_in_box x y (is_empty a s)
unfolding is_empty
agree_any_empty a b x y t s h k g = any_in_box_same x y _ _ (λ u w i. ap (λ (v : ℕ). eqb v empty) (g.cells u w (omega arith)))

-- What a plan says: its number, its value and its file.
abbrev pub plan_says : Job → ℕ → ℕ → List ℕ → ℕ → Said
plan_says job x y l k =
    record {
      refusal = k;
      value = accepted k (cell_of job.width l x y) 0;
      worked = 0;
      empties = empty_cells job l;
      file = accepted k (plan_file job l x y) [];
    }

-- A plan from either table: the same refusal, and, where it is none, the same file and value.
module _ (job : Job) (t s : List ℕ) (x y room : ℕ) (g : Agree job.width job.height t s) where
  abbrev plan_says_lem : List ℕ → ℕ → Said
  plan_says_lem l k = plan_says job x y l k

  module _ (i : Inside x y job.width job.height) where
    same_cells : SameCells (cell_of job.width t) (cell_of job.width s) x y
    same_cells u w j = g.cells u w (omega arith)

    same_file : plan_file job t x y ≡ plan_file job s x y
    same_file = ap (plan_bytes [] (sheet_of job x y)) (traced_same (job_rows job) _ _ (whole x y) i.width_least i.height_least same_cells)

    same_refusal : plan_refused job t x y room ≡ plan_refused job s x y room
    unfolding plan_refused plan_refusals plan_tests number_given
    same_refusal =
        let any = agree_any_empty job.width job.height x y t s i.width_most i.height_most g in
        let over = agree_exceeds job.width job.height x y t s i.width_most i.height_most g in
        rw (agree_room job t s g, any, over, traces_same (job_rows job) _ _ (whole x y) i.width_least i.height_least same_cells, same_file)

    inside_says_same : plan_says_lem t (plan_refused job t x y room) ≡ plan_says_lem s (plan_refused job s x y room)
    inside_says_same =
        λ j. record {
          refusal = same_refusal j;
          value = accepted (same_refusal j) (g.cells x y i j) 0;
          worked = 0;
          empties = agree_sheet job t s g j;
          file = accepted (same_refusal j) (same_file j) [];
        }

  -- A refused plan says its number and nothing more.
  both_refused : (m : ℕ) → suc m ≡ plan_refused job t x y room → suc m ≡ plan_refused job s x y room
      → plan_says_lem t (plan_refused job t x y room) ≡ plan_says_lem s (plan_refused job s x y room)
  unfolding accepted
  both_refused m e f = ap (plan_says_lem t) (sym e) ∙ (ap (said (suc m) 0 0) (agree_sheet job t s g) ∙ ap (plan_says_lem s) f)

  -- The number of a plan outside the sheet.
  number : (Inside x y job.width job.height → ⊥) → (l : List ℕ) → cells_of job ≤ length l
      → cond (job_in_range job) not_inside bad_job ≡ plan_refused job l x y room
  unfolding plan_refused plan_refusals plan_tests number_given
  number n l h = rw (le-leb (cells_of job) (length l) h, says_no (inside_says x y job.width job.height) n)

  outside : (Inside x y job.width job.height → ⊥) → plan_says_lem t (plan_refused job t x y room) ≡ plan_says_lem s (plan_refused job s x y room)
  outside n = go (job_in_range job) (number n t g.room) (number n s g.other)
    where
      go : (b : Bool) → cond b not_inside bad_job ≡ plan_refused job t x y room → cond b not_inside bad_job ≡ plan_refused job s x y room
          → plan_says_lem t (plan_refused job t x y room) ≡ plan_says_lem s (plan_refused job s x y room)
      go true e f = both_refused 2 e f
      go false e f = both_refused 0 e f

  pub plan_agree : plan_says job x y t (plan_refused job t x y room) ≡ plan_says job x y s (plan_refused job s x y room)
  plan_agree = by_inside (within x job.width && within y job.height) (inside_says x y job.width job.height)
    where
      by_inside : (r : Bool) → Says r (Inside x y job.width job.height)
          → plan_says_lem t (plan_refused job t x y room) ≡ plan_says_lem s (plan_refused job s x y room)
      by_inside true p = inside_says_same (p.means refl)
      by_inside false p = outside (says_false p refl)
