-- K1 to K10 through the calls: what any library that keeps the promises says.
use Prim.Native.Nat.{ℕ, zero, suc, ◌+◌, ◌*◌, ◌≤◌}
use mathlib.Core.Bool.{Bool, ◌||◌}
use mathlib.Core.List.{List, [], ◌∷◌}
use mathlib.Core.Path.{◌≡◌, refl, sym, ap, ap₂, ◌∙◌, subst}
use native.Mathlib.Omega.{arith}
use native.Mathlib.Nat.{zero-add}
use lib.ListN.{length, get_or, take, replicate, length-replicate}
use Rattle.cells.proofs.Emptied.{emptied_whole, emptied-length}
use Rattle.laws.specs.Below.{sum_below}
use Rattle.laws.specs.Inner.{number_given, all_below, any_below, best_below, first_below, first_number, deep, to_depth}
use Rattle.laws.specs.ByIndex.{by_index}
use Rattle.cutting.specs.Change.{added, corrected, removed}
use Rattle.board.specs.Inner.{marks_of, mark_row, is_point, reaches, reaches_up_to, some_makes, makes, rows_on, pieces_board, with_points, board_of}
use Rattle.fill.specs.Inner.{worth_of, fitting_value, line_value, line_at, final, filled}
use Rattle.cells.specs.Box.{count_in_box, count_in_row, is_empty}
use Rattle.cells.specs.Inner.{any_in_box, any_in_row, exceeds, too_much, redrawn, fits, emptied, emptied_where}
use Rattle.cells.specs.Cells.{empty, cell_of, place}
use Rattle.job.specs.declared.Piece.{Piece as Record}
use Rattle.job.specs.declared.Job.{Job}
use Rattle.job.specs.Job.{record_of, job_of, zero_job, pieces_of}
use Rattle.job.specs.Inner.{job_in_range, pieces_in_range, piece_in_range, block_shape, from_block}
use Rattle.job.specs.Change.{with_added, with_corrected, with_removed}
use Rattle.desk.specs.Changing.{Changed, record_of_piece}
use Rattle.desk.specs.Refusals.{add_refusals, remove_refusals, correct_refusals, ask_refusals}
use Rattle.desk.specs.Inner.{opened, opened_cells, emptied_size, added_job, added_cells, corrected_job, corrected_cells, removed_job, removed_cells, OpenPromise, accepted, open_refused, ask_tests, ask_refused, add_tests, add_refused, remove_tests, remove_refused, correct_tests, correct_refused, asked, asked_cells, filled_for, job_rows}
use Rattle.desk.proofs.Answers.{given}
use Rattle.desk.proofs.Granted.{open_granted}
use Rattle.demands.proofs.Agree.{Agree, AgreeFor, agree_room, agree_sheet, change_agree, ask_agree, plan_says, plan_agree}
use Rattle.laws.specs.Put.{put}
use Rattle.laws.proofs.Put.{put_front}
use Rattle.fields.specs.Number.{bytes2, bytes4, number2_of, number4_of}
use Rattle.fields.specs.Sum.{running_sum}
use Rattle.job.specs.Block.{block, bytes_of_head, bytes_of_pieces, bytes_of_piece, piece_from, job_in}
use Rattle.cutting.specs.Piece.{piece_at, Lays}
use Rattle.cutting.specs.Tree.{earning}
use Rattle.nodes.specs.Encoding.{encode, node}
use Rattle.nodes.specs.Inner.{is_inside, is_piece, letter_node, node_at, with_first, then_read, both_parts, part_by, part_at}
use Rattle.tracer.specs.Inner.{two_cells, suits, first_piece, adds_to, least_line, trimmed_to, cut_out, strikes, ruled, step_in, tree_by, traces_by, traced, traces}
use Rattle.checker.specs.PlanFile.{plan_bytes, summed, body, pointers}
use Rattle.checker.specs.Fields.{summed_bytes, block_bytes}
use Rattle.checker.specs.Inner.{checked, framed, sum_agrees, agreed, nodes_read, valued, leaves_of, judged_job}
use Rattle.plan.specs.Planning.{Planned}
use Rattle.plan.specs.Refusals.{plan_refusals}
use Rattle.plan.specs.Inner.{plan_file, plan_tests, plan_refused, planned_with as plans_answer, planned, planned_bytes, PlanPromise}
use Rattle.khonvertseg.specs.declared.KhonChanged.{KhonChanged}
use Rattle.khonvertseg.specs.Flat.{flat_changed, flat_asked, flat_planned, flat_checked}
use Rattle.khonvertseg.specs.Calls.{KhonOpens}
use Rattle.desk.proofs.Words.{open_exactly, add_exactly, correct_exactly, remove_exactly, ask_exactly}
use Rattle.plan.proofs.Plans.{plan_exactly}
use Rattle.checker.proofs.Given.{only}
use Rattle.job.proofs.Blocks.{own_block}
use Rattle.cutting.specs.Dissection.{Best}
use Rattle.cutting.specs.Inner.{exactly, exact_value, best_by, best_value}
use Rattle.cutting.proofs.BestValue.{best_value_best}
use Rattle.demands.specs.Script.{pieces_after, SheetKept, Each, ScriptStep, Said, said, empty_cells, said_of_change, said_of_answer, said_of_plan, said_of_check, Runs, Sheet, K1, K2, K3, K4K9K10, K5, K6, K7, K8, sheets}
use Rattle.demands.proofs.Outcome.{Own, own_after}
use Rattle.demands.proofs.Changes.{add_outcome, correct_outcome, remove_outcome, open_outcome}
use Rattle.demands.proofs.Questions.{with_own}

-- Each change of both tables.
add_agree : (job : Job) (t s : List ℕ) (piece : Record) → Agree job.width job.height t s
    → (added_job job t piece ≡ added_job job s piece) × AgreeFor (added_job job s piece).job (added_cells job t piece) (added_cells job s piece)
unfolding added_job added_cells add_refused add_refusals add_tests number_given with_added job_of emptied_size emptied
add_agree job t s piece g =
    let e : add_refused job t piece ≡ add_refused job s piece = rw (agree_room job t s g) in
    change_agree job (with_added job piece) t s (fits piece.width piece.height) (add_refused job t piece) (add_refused job s piece) e refl refl g

remove_agree : (job : Job) (t s : List ℕ) (k : ℕ) → Agree job.width job.height t s
    → (removed_job job t k ≡ removed_job job s k) × AgreeFor (removed_job job s k).job (removed_cells job t k) (removed_cells job s k)
unfolding removed_job removed_cells remove_refused remove_refusals remove_tests number_given with_removed job_of emptied_size emptied
remove_agree job t s k g =
    let old = record_of_piece job k in
    let e : remove_refused job t k ≡ remove_refused job s k = rw (agree_room job t s g) in
    change_agree job (with_removed job k) t s (fits old.width old.height) (remove_refused job t k) (remove_refused job s k) e refl refl g

correct_agree : (job : Job) (t s : List ℕ) (k : ℕ) (piece : Record) → Agree job.width job.height t s
    → (corrected_job job t k piece ≡ corrected_job job s k piece)
    × AgreeFor (corrected_job job s k piece).job (corrected_cells job t k piece) (corrected_cells job s k piece)
unfolding corrected_job corrected_cells correct_refused correct_refusals correct_tests number_given with_corrected job_of
correct_agree job t s k piece g =
    let old = record_of_piece job k in
    let e : correct_refused job t k piece ≡ correct_refused job s k piece = rw (agree_room job t s g) in
    let struck : ℕ → ℕ → Bool = λ x y. fits old.width old.height x y || fits piece.width piece.height x y in
    change_agree job (with_corrected job k piece) t s struck (correct_refused job t k piece) (correct_refused job s k piece) e refl refl g

-- What the promises come to, computed.
run : Job → List ℕ → List ScriptStep → List Said
run job t [] = []
run job t (ScriptStep.add piece ∷ steps) =
    let c = added_job job t (record_of piece) in
    let l = added_cells job t (record_of piece) in
    said_of_change (flat_changed c) l ∷ run c.job l steps
run job t (ScriptStep.correct k piece ∷ steps) =
    let c = corrected_job job t k (record_of piece) in
    let l = corrected_cells job t k (record_of piece) in
    said_of_change (flat_changed c) l ∷ run c.job l steps
run job t (ScriptStep.remove k ∷ steps) =
    let c = removed_job job t k in
    let l = removed_cells job t k in
    said_of_change (flat_changed c) l ∷ run c.job l steps
run job t (ScriptStep.ask x y ∷ steps) = said_of_answer job (flat_asked (asked job t x y)) (asked_cells job t x y) ∷ run job (asked_cells job t x y) steps
run job t (ScriptStep.plan x y room ∷ steps) = plan_says job x y t (plan_refused job t x y room) ∷ run job t steps
run job t (ScriptStep.check file ∷ steps) = said_of_check job t (flat_checked (checked file)) ∷ run job t steps

-- What a plan that keeps its promise says.
plan_said : (job : Job) (t : List ℕ) (x y room : ℕ) (o : List ℕ) {r : Planned} {o' : List ℕ} → length o ≡ room → PlanPromise job t x y o r o'
    → said_of_plan job t (flat_planned r) o' ≡ plan_says job x y t (plan_refused job t x y room)
unfolding planned planned_bytes accepted
plan_said job t x y room o {r} {o'} e p =
    ap₂ (λ (c : Planned) (l : List ℕ). said_of_plan job t (flat_planned c) l) p.0 p.1
    ∙ by (plan_refused job t x y (length o))
    ∙ ap (λ (n : ℕ). plan_says job x y t (plan_refused job t x y n)) e
  where
    file : List ℕ
    file = plan_file job t x y

    whole : (n : ℕ) → take n (put o 0 file) ≡ take (0 + n) (put o 0 file)
    whole n = ap (λ (m : ℕ). take m (put o 0 file)) (sym (zero-add n))

    by : (k : ℕ) → said_of_plan job t (flat_planned (plans_answer k (length file) (cell_of job.width t x y))) (accepted k (put o 0 file) o) ≡ plan_says job x y t k
    by zero =
        let front = whole (length file) ∙ put_front o 0 file (omega arith) in
        ap (λ (l : List ℕ). record { refusal = 0; value = cell_of job.width t x y; worked = 0; empties = empty_cells job t; file = l }) front
    by (suc k) = refl

-- A change, and what follows it.
follow : {r : KhonChanged} {c : Changed} {t' l : List ℕ} {sayings : List Said} (steps : List ScriptStep) → r ≡ flat_changed c → t' ≡ l
    → sayings ≡ run r.job t' steps → said_of_change r t' ∷ sayings ≡ said_of_change (flat_changed c) l ∷ run c.job l steps
follow {r} {c} {t'} {l} steps e f h = ap (λ (m : List Said). said_of_change r t' ∷ m) h ∙ (λ i. said_of_change (e i) (f i) ∷ run (e i).job (f i) steps)

-- Whoever keeps the promises says that, call by call; the job stays that of its own block.
runs_run : {job : Job} {t : List ℕ} {steps : List ScriptStep} {sayings : List Said} → Own job → Runs job t steps sayings → sayings ≡ run job t steps
unfolding run
runs_run own Runs.done = refl
runs_run {job} {t} own (Runs.add {steps = steps} piece p rest) =
    let e = (add_exactly job t (record_of piece)).1 p.keeps in
    follow steps (p.laid ∙ ap flat_changed e.0) e.1 (runs_run (own_after own (add_outcome job t (record_of piece) p)) rest)
runs_run {job} {t} own (Runs.correct {steps = steps} k piece p rest) =
    let e = (correct_exactly job t k (record_of piece)).1 p.keeps in
    follow steps (p.laid ∙ ap flat_changed e.0) e.1 (runs_run (own_after own (correct_outcome job t k (record_of piece) p)) rest)
runs_run {job} {t} own (Runs.remove {steps = steps} k p rest) =
    let e = (remove_exactly job t k).1 p.keeps in
    follow steps (p.laid ∙ ap flat_changed e.0) e.1 (runs_run (own_after own (remove_outcome job t k p)) rest)
runs_run {job} {t} own (Runs.ask {t' = t'} {r = r} {steps = steps} x y p rest) =
    let e = (ask_exactly job t x y).1 (with_own own p.keeps) in
    ap (λ (m : List Said). said_of_answer job r t' ∷ m) (runs_run own rest)
    ∙ (λ i. said_of_answer job ((p.laid ∙ ap flat_asked e.0) i) (e.1 i) ∷ run job (e.1 i) steps)
runs_run {job} {t} own (Runs.plan {o' = o'} x y room o e p rest) =
    let plan = (plan_exactly job t x y o).1 (with_own own p.keeps) in
    ap₂ ◌∷◌ (ap (λ r. said_of_plan job t r o') p.laid ∙ plan_said job t x y room o e plan) (runs_run own rest)
runs_run {job} {t} own (Runs.check file bytes p rest) =
    ap₂ ◌∷◌ (ap (said_of_check job t) (p.laid ∙ ap flat_checked (only file bytes p.keeps))) (runs_run own rest)

-- Tables that agree on the sheet hear the same.
after_change : (c d : Changed) (t s : List ℕ) (steps : List ScriptStep) → (c ≡ d) × AgreeFor d.job t s
    → run d.job t steps ≡ run d.job s steps
    → said_of_change (flat_changed c) t ∷ run c.job t steps ≡ said_of_change (flat_changed d) s ∷ run d.job s steps
after_change c d t s steps a h =
    (λ i. said_of_change (flat_changed (a.0 i)) t ∷ run (a.0 i).job t steps)
    ∙ ap₂ (λ (n : ℕ) (l : List Said). said d.refusal 0 0 n ∷ l) (agree_sheet d.job t s a.1) h

run_agree : (steps : List ScriptStep) (job : Job) (t s : List ℕ) → Agree job.width job.height t s → run job t steps ≡ run job s steps
unfolding run
run_agree [] job t s g = refl
run_agree (ScriptStep.add piece ∷ steps) job t s g = let a = add_agree job t s (record_of piece) g in after_change _ _ _ _ steps a (run_agree steps _ _ _ a.1)
run_agree (ScriptStep.correct k piece ∷ steps) job t s g =
    let a = correct_agree job t s k (record_of piece) g in
    after_change _ _ _ _ steps a (run_agree steps _ _ _ a.1)
run_agree (ScriptStep.remove k ∷ steps) job t s g = let a = remove_agree job t s k g in after_change _ _ _ _ steps a (run_agree steps _ _ _ a.1)
run_agree (ScriptStep.ask x y ∷ steps) job t s g =
    let a = ask_agree job t s x y g in
    let r = flat_asked (asked job s x y) in
    let empties = agree_sheet job (asked_cells job t x y) (asked_cells job s x y) a.1 in
    (λ i. said_of_answer job (flat_asked (a.0 i)) (asked_cells job t x y) ∷ run job (asked_cells job t x y) steps)
    ∙ ap₂ (λ (n : ℕ) (l : List Said). said r.refusal r.value r.worked n ∷ l) empties (run_agree steps job _ _ a.1)
run_agree (ScriptStep.plan x y room ∷ steps) job t s g = ap₂ ◌∷◌ (plan_agree job t s x y room g) (run_agree steps job t s g)
run_agree (ScriptStep.check file ∷ steps) job t s g =
    let r = flat_checked (checked file) in
    ap₂ (λ (n : ℕ) (l : List Said). said r.refusal r.value 0 n ∷ l) (agree_sheet job t s g) (run_agree steps job t s g)

-- A fresh sheet of empty cells.
abbrev blank : ℕ → ℕ → List ℕ
blank a b = replicate (a * b) empty

opened_agree : (a b : ℕ) (t : List ℕ) → a * b ≤ length t → Agree a b (emptied a b 1 1 t) (blank a b)
unfolding cell_of
opened_agree a b t h =
    record {
      room = omega (arith, h, emptied-length a b 1 1 t);
      other = omega (arith, length-replicate (a * b) empty);
      cells = λ u w i. emptied_whole t h i ∙ sym (all_empty (a * b) (place a u w));
    }
  where
    all_empty : (n k : ℕ) → get_or (replicate n empty) k empty ≡ empty
    all_empty zero k = refl
    all_empty (suc n) zero = refl
    all_empty (suc n) (suc k) = all_empty n k

-- What the promises come to on a fresh sheet, and the best value by trying every line, by computation.
record Computes (s : Sheet) : Type 0 where
  pub said : run (job_of s.width s.height []) (blank s.width s.height) s.steps ≡ s.sayings
  pub best : (best_value (pieces_after [] s.steps) s.x s.y ≡ s.best) × (1 ≤ s.x) × (1 ≤ s.y)

each : (s : Sheet) → run (job_of s.width s.height []) (blank s.width s.height) s.steps ≡ s.sayings
    → best_value (pieces_after [] s.steps) s.x s.y ≡ s.best → 1 ≤ s.x → 1 ≤ s.y → Computes s
each s e f g h = record { said = e; best = (f, g, h) }

opened_sheet : (s : Sheet) (t : List ℕ) → open_refused s.width s.height t ≡ 0
    → AgreeFor (job_of s.width s.height []) (emptied s.width s.height 1 1 t) (blank s.width s.height)
unfolding job_of
opened_sheet s t z = opened_agree s.width s.height t (open_granted s.width s.height t refl z).room

computed : (s : Sheet) → Computes s → SheetKept s
unfolding opened opened_cells
computed s c =
    let pieces = pieces_after [] s.steps in
    let best = best_value_best pieces s.x s.y c.best.1 c.best.2 in
    record { said = kept; best = subst (Best (Lays pieces) s.x s.y) c.best.0 best }
  where
    kept : (t t' : List ℕ) (r : KhonChanged) (sayings : List Said) → KhonOpens s.width s.height t r t' → r.refusal ≡ 0
        → Runs r.job t' s.steps sayings → sayings ≡ s.sayings
    kept t t' r sayings p e runs =
        let o = open_outcome s.width s.height t p e in
        runs_run (own_block r.job o.usable.range o.tidy) runs
        ∙ ((λ i. run (same i) (cells i) s.steps)
        ∙ (run_agree s.steps (job_of s.width s.height []) _ _ (opened_sheet s t z) ∙ c.said))
      where
        f : OpenPromise s.width s.height t p.answer t'
        f = (open_exactly s.width s.height t).1 p.keeps

        number : r ≡ flat_changed (opened s.width s.height t)
        number = p.laid ∙ ap flat_changed f.0

        z : open_refused s.width s.height t ≡ 0
        z = sym (ap (λ (k : KhonChanged). k.refusal) number) ∙ e

        same : r.job ≡ job_of s.width s.height []
        same = ap (λ (k : KhonChanged). k.job) number ∙ sym (given (job_of s.width s.height []) zero_job refl z)

        cells : t' ≡ emptied s.width s.height 1 1 t
        cells = f.1 ∙ sym (given (emptied s.width s.height 1 1 t) t refl z)

computes : Each Computes sheets
unfolding run added_job added_cells corrected_job corrected_cells asked_cells asked add_refused correct_refused remove_refused ask_refused add_refusals correct_refusals remove_refusals ask_refusals add_tests correct_tests remove_tests ask_tests number_given accepted job_in_range pieces_in_range piece_in_range all_below with_added with_corrected job_of zero_job pieces_of added corrected by_index emptied_size emptied emptied_where redrawn fits cell_of place record_of_piece filled_for filled final deep to_depth worth_of fitting_value line_value line_at job_rows rows_on board_of with_points pieces_board put marks_of mark_row is_point reaches reaches_up_to some_makes makes any_below best_below sum_below count_in_box count_in_row is_empty any_in_box any_in_row exceeds too_much plan_refused plan_refusals plan_tests plan_bytes summed body pointers block bytes_of_head bytes_of_pieces bytes_of_piece bytes2 bytes4 encode node running_sum earning piece_at first_below first_number two_cells suits first_piece adds_to least_line trimmed_to cut_out strikes ruled step_in tree_by traced traces_by traces checked framed sum_agrees agreed nodes_read valued leaves_of judged_job summed_bytes block_bytes number2_of number4_of piece_from job_in block_shape from_block is_piece is_inside letter_node node_at with_first then_read both_parts part_by part_at best_value best_by exact_value exactly pieces_after removed
computes =
    let k1 = each K1 refl refl (omega arith) (omega arith) in
    let k2 = each K2 refl refl (omega arith) (omega arith) in
    let k3 = each K3 refl refl (omega arith) (omega arith) in
    let k4 = each K4K9K10 refl refl (omega arith) (omega arith) in
    let k5 = each K5 refl refl (omega arith) (omega arith) in
    let k6 = each K6 refl refl (omega arith) (omega arith) in
    let k7 = each K7 refl refl (omega arith) (omega arith) in
    let k8 = each K8 refl refl (omega arith) (omega arith) in
    (k1, (k2, (k3, (k4, (k5, (k6, (k7, (k8, tt))))))))

each_holds : (l : List Sheet) → Each Computes l → Each SheetKept l
each_holds [] e = tt
each_holds (s ∷ l) e = (computed s e.0, each_holds l e.1)

-- K1 to K10, over the promises of the calls and whatever the table held before.
pub sheets_kept : Each SheetKept sheets
sheets_kept = each_holds sheets computes
