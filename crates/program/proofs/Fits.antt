-- The text buffer has room for every text: a line for each node (rule 9.5) of a plan that its buffer holds.
use Rattle.std.proofs.Common.{Option, Some, None}
use Prim.Native.Nat.{ℕ, zero, suc, ◌*◌, ◌≤◌, ◌<◌}
use mathlib.Core.Path.{◌≡◌, refl}
use mathlib.Core.List.{List}
use native.Mathlib.Omega.{arith}
use native.Mathlib.Nat.{mul-le-mul}
use lib.ListN.{length, length-append, length-replicate}
use Rattle.cutting.specs.Limits.{side_max}
use Rattle.cutting.specs.Tree.{nodes}
use Rattle.cutting.proofs.Bound.{most_mono}
use Rattle.nodes.proofs.Encoding.{encode-length}
use Rattle.cells.specs.Cells.{cell_of}
use Rattle.cells.specs.Box.{is_empty}
use Rattle.cells.proofs.Box.{count_in_box_bound}
use Rattle.job.specs.declared.Job.{Job}
use Rattle.job.specs.Job.{pieces_of}
use Rattle.job.specs.Inner.{from_block}
use Rattle.job.proofs.Pieces.{pieces-length}
use Rattle.refusals.specs.Refusals.{bad_job}
use Rattle.desk.specs.Inner.{filled_for}
use Rattle.plan.specs.File.{sheet_of}
use Rattle.plan.specs.Inner.{tree_for, plan_refused}
use Rattle.plan.proofs.Tracing.{tree_by_rules, tree_dissects}
use Rattle.plan.proofs.Writing.{file-length}
use Rattle.listing.proofs.Lengths.{head-length, refused-length, listing-length}
use Rattle.program.specs.Sizes.{plan_room, text_most}
use Rattle.program.specs.Program.{text_or, tree_lines, plan_text, planned_text, asked_text, entered_text, new_table, job_text, block_text, program_text}
use Rattle.program.proofs.Texts.{plan_with}
use Rattle.program.proofs.Digits.{ask_digits, plan_digits, entered_digits}

-- A refusal's line is short.
or_fits : (n : ℕ) (text : List ℕ) → n < 100 → (n ≡ 0 → length text ≤ text_most) → length (text_or n text) ≤ text_most
unfolding text_or
or_fits zero text h f = f refl
or_fits (suc k) text h f = omega (arith, refused-length (suc k) h)

-- An accepted plan has at most 10,915 nodes, three bytes each, before a trailer and after a block of 6 bytes or more.
plan_fits : (job : Job) (t : List ℕ) (worked : ℕ) → worked ≤ job.width * job.height → plan_refused job t job.width job.height plan_room ≡ 0
    → length (plan_text job t (cell_of job.width t job.width job.height) worked) ≤ text_most
unfolding plan_text tree_lines
plan_fits job t worked w e =
    let a = job.width in
    let b = job.height in
    let ready = plan_with job t a b plan_room e in
    let range = ready.readable.usable.range in
    let inside = ready.readable.inside in
    let tree = tree_for job t a b in
    let dissects = tree_dissects job t a b ready.readable (tree_by_rules job t a b ready.readable ready.traces) in
    let few-nodes : nodes tree ≤ 10_915 =
    omega (arith, ready.room, length-replicate {A = ℕ} plan_room 0, file-length (sheet_of job a b) tree, encode-length tree) in
    let most = most_mono a b side_max side_max range.width_most range.height_most in
    let value : cell_of a t a b < 10_000_000_000 = omega (arith, ready.readable.bounded a b inside (ready.readable.full a b inside), most) in
    let few : length (pieces_of job) < 1_000 = omega (arith, pieces-length job, range.count_most) in
    let head = head-length (cell_of a t a b) worked value (omega (arith, mul-le-mul range.width_most range.height_most)) in
    let lines = listing-length range.pieces few 1 a b (omega arith) range.width_most range.height_most dissects.valid in
    simp length-append (omega (arith, head, lines))

planned_fits : (job : Job) (t : List ℕ) (worked : ℕ) → worked ≤ job.width * job.height
    → length (planned_text job t (cell_of job.width t job.width job.height) worked) ≤ text_most
unfolding planned_text
planned_fits job t worked w = or_fits _ _ (plan_digits job t job.width job.height plan_room) (plan_fits job t worked w)

asked_fits : (job : Job) (t : List ℕ) → length (asked_text job t) ≤ text_most
unfolding asked_text
asked_fits job t =
    let a = job.width in
    let b = job.height in
    or_fits _ _ (ask_digits job t a b) (λ _. planned_fits job (filled_for job t a b) _ (count_in_box_bound a b (is_empty a t)))

job_fits : (from : Job) → length (job_text from) ≤ text_most
unfolding job_text entered_text
job_fits from = or_fits _ _ (entered_digits from new_table) (λ _. asked_fits _ _)

pub text_fits : (block : List ℕ) → length (program_text block) ≤ text_most
unfolding program_text block_text
text_fits block = by (from_block block)
  where
    by : (o : Option Job) → length (block_text o) ≤ text_most
    by (Some from) = job_fits from
    by None = omega (arith, refused-length bad_job (omega arith))
