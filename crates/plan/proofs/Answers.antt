-- How plan joins its refusal and its work, over the definitions.
use Prim.Native.Nat.{ℕ, zero, suc, ◌+◌, ◌*◌, ◌≤◌}
use mathlib.Core.Bool.{Bool, true, false, cond}
use mathlib.Core.List.{List}
use mathlib.Core.Path.{◌≡◌, refl, sym, ap, ap₂, ◌∙◌}
use native.Mathlib.Omega.{arith}
use native.Mathlib.Nat.{mul-le-mul}
use lib.ListN.{length}
use lib.Dec.{leb}
use Rattle.laws.specs.Inner.{number_given, every_number, Wrote}
use Rattle.laws.proofs.Refusal.{answers, begun_stops, begun_passes}
use Rattle.laws.specs.Put.{put}
use Rattle.cutting.specs.Limits.{side_max}
use Rattle.cutting.specs.Piece.{Inside}
use Rattle.cutting.specs.Tree.{earning}
use Rattle.cells.specs.Cells.{cell_of}
use Rattle.cells.specs.Inner.{Holds}
use Rattle.job.specs.declared.Job.{Job}
use Rattle.job.specs.Job.{pieces_of}
use Rattle.job.specs.Block.{block_length}
use Rattle.nodes.specs.Encoding.{encode}
use Rattle.board.specs.declared.Board.{Board}
use Rattle.board.specs.Inner.{rows_on, width_on, board_of}
use Rattle.tracer.specs.Inner.{whole, measured}
use Rattle.fields.specs.Format.{trailer_length, file_most}
use Rattle.refusals.specs.Refusals.{alien_table, short_buffer}
use Rattle.desk.specs.Inner.{accepted}
use Rattle.desk.proofs.Answers.{given, left-as-it-was}
use Rattle.plan.specs.File.{sheet_of}
use Rattle.plan.specs.Inner.{tree_for, traces_for, plan_file, box_rows, plan_tests, box_refused, file_refused, file_number, plan_refused, planned_with, Ready}
use Rattle.plan.specs.Refusals.{Readable, plan_refusals}
use Rattle.plan.proofs.Tracing.{on_table, measured_as, tree_by_rules, tree_dissects}
use Rattle.plan.proofs.Writing.{sheet_pieces, file-length}
use Rattle.plan.proofs.Enough.{plan_enough_lem}
use Rattle.plan.specs.declared.Written.{Written as Values}
use Rattle.plan.specs.Planning.{Written, Refused, planned_from}
use Rattle.std.proofs.Common.{Option, Some, None, Result, Ok, Err, IsErrAnd}
use Rattle.refusals.specs.declared.Refusal.{Refusal}
use Rattle.refusals.specs.Refusals.{number}
use Rattle.refusals.proofs.Numbers.{never_zero}

pub refused_answer : {r refusal : ℕ} {o : List ℕ} (bytes value : ℕ) (file : List ℕ) → r ≡ refusal → (r ≡ 0 → ⊥)
    → (Refused r ≡ planned_with refusal bytes value) × (o ≡ accepted refusal file o)
refused_answer {r = zero} bytes value file e h = absurd (h refl)
refused_answer {r = suc k} {o = o} bytes value file e h = (ap (λ (n : ℕ). planned_with n bytes value) e, left-as-it-was file o e h)

-- So where `?` hands a refusal on.
pub plan_left : (r : Result Values Refusal) (refusal : Refusal) (bytes value : ℕ) (file o : List ℕ) {n : ℕ} → IsErrAnd r (λ e. e ≡ refusal)
    → number refusal ≡ n → (planned_from r ≡ planned_with n bytes value) × (o ≡ accepted n file o)
plan_left (Ok written) refusal bytes value file o e f = absurd e
plan_left (Err other) refusal bytes value file o e f = refused_answer bytes value file (ap number e ∙ f) (never_zero other)

pub written_answer : {r refusal n v value : ℕ} {o o' : List ℕ} {file : List ℕ} → r ≡ refusal → r ≡ 0 → Wrote o 0 file n o' → v ≡ value
    → (Written n v ≡ planned_with refusal (length file) value) × (o' ≡ accepted refusal (put o 0 file) o)
written_answer {value = value} {o = o} {file = file} e z w f =
    (ap₂ Written (omega (arith, w.place)) f ∙ ap (λ (k : ℕ). planned_with k (length file) value) (sym z ∙ e), w.bytes ∙ given (put o 0 file) o e z)

module _ (job : Job) (t : List ℕ) (x y : ℕ) where
  -- The cell that is read, with the code's width.
  pub cell_there : {a : ℕ} → Readable job t x y → a ≡ job.width → Holds a y t × Inside x y a y
  cell_there r f = let k = on_table job t x y r f in (k.holds, k.inside)

  pub cell_read : {a v : ℕ} → v ≡ cell_of a t x y → a ≡ job.width → v ≡ cell_of job.width t x y
  cell_read e f = e ∙ ap (λ (m : ℕ). cell_of m t x y) f

  -- The number in the cell is what the tree earns.
  pub cell_earned : {v : ℕ} → Readable job t x y → traces_for job t x y ≡ true → v ≡ cell_of job.width t x y
      → v ≡ earning (pieces_of (sheet_of job x y)) (tree_for job t x y)
  cell_earned r h e =
      e ∙ sym (ap (λ ps. earning ps (tree_for job t x y)) (sheet_pieces job x y) ∙ (tree_dissects job t x y r (tree_by_rules job t x y r h)).earns)

  -- No file is longer than check takes.
  pub file_short : Readable job t x y → traces_for job t x y ≡ true → length (plan_file job t x y) ≤ file_most
  file_short r h =
      let i = r.inside in
      let u = r.usable.range in
      let sides : x * y ≤ side_max * side_max = mul-le-mul {n₁ = x} {m₁ = y} {n₂ = side_max} {m₂ = side_max} (omega arith) (omega arith) in
      omega (arith, plan_enough_lem job (tree_dissects job t x y r (tree_by_rules job t x y r h)).valid i.width_least i.height_least)

  pub length_fits : {o o' : List ℕ} {n : ℕ} → Ready job t x y o → Wrote o 0 (plan_file job t x y) n o' → n ≤ file_most
  length_fits k w = omega (arith, w.place, file_short k.readable k.traces)

  -- The refusals of the tree and its file, by the length of the nodes that was measured.
  file_number_lem : {n : Option ℕ} (room : ℕ) → n ≡ cond (traces_for job t x y) (Some (length (encode (tree_for job t x y)))) None
      → file_number job.count n room ≡ file_refused job t x y room
  unfolding file_number file_refused plan_refusals plan_tests number_given
  file_number_lem room e =
      ap (λ (m : Option ℕ). file_number job.count m room) e
      ∙ go (traces_for job t x y) (length (encode (tree_for job t x y))) (length (plan_file job t x y)) (file-length (sheet_of job x y) (tree_for job t x y))
    where
      go : (b : Bool) (nodes whole : ℕ) → whole ≡ block_length job.count + nodes + trailer_length
          → file_number job.count (cond b (Some nodes) None) room ≡ cond b (cond (leb whole room) 0 short_buffer) alien_table
      go true nodes whole l = ap (λ (m : ℕ). cond (leb m room) 0 short_buffer) (sym l)
      go false nodes whole l = refl

  -- The refusals before the tree, and those of the tree and its file, as plan comes to them.
  pub box_decides : {r : ℕ} (room : ℕ) → r ≡ box_refused job t x y → (r ≡ 0 → ⊥) → r ≡ plan_refused job t x y room
  unfolding plan_refused box_refused plan_refusals plan_tests
  box_decides room e h = answers (begun_stops box_rows e h)

  pub file_decides : {r k : ℕ} {n : Option ℕ} {board : Board} (room : ℕ) (read : Readable job t x y) → r ≡ box_refused job t x y → r ≡ 0 → board ≡ board_of job
      → n ≡ measured (rows_on board) (cell_of (width_on board) t) (whole x y) → k ≡ file_number job.count n room → k ≡ plan_refused job t x y room
  unfolding plan_refused box_refused file_refused plan_refusals plan_tests every_number
  file_decides room read e z laid m f =
      answers (begun_passes box_rows refl e z (record { is = f ∙ file_number_lem room (measured_as job t x y read laid m) }))
