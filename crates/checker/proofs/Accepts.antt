-- A file is accepted exactly when it is a note, a job block in range, the encoding of a valid tree, and a true trailer.
use Prim.Native.Nat.{ℕ, ◌+◌, ◌-◌, ◌*◌, ◌≤◌, ◌<◌}
use mathlib.Core.Path.{◌≡◌, refl, sym, ap, ap₂, subst, ◌∙◌}
use Rattle.std.proofs.Common.{Some}
use mathlib.Core.Logic.{◌↔◌}
use mathlib.Core.List.{List, [], ◌++◌, append-nil}
use native.Mathlib.Omega.{arith}
use lib.ListN.{length, take, drop, length-append, length-take, drop_of_length-le}
use lib.Seq.{take-add, length-take-le}
use Rattle.cutting.specs.Limits.{side_max}
use Rattle.cutting.specs.Piece.{Piece}
use Rattle.cutting.specs.Tree.{Tree, Valid, earning, piece_area_of, scrap_area_of}
use Rattle.cutting.proofs.Tree.{dissection_of, areas}
use Rattle.cutting.proofs.Bound.{earning_bound, most_mono}
use Rattle.fields.specs.Number.{bytes4, Bytes}
use Rattle.fields.proofs.Number.{bytes4-length}
use Rattle.fields.specs.Sum.{sum_of}
use Rattle.fields.proofs.Sum.{sum_below_lem}
use Rattle.job.specs.declared.Job.{Job}
use Rattle.job.specs.Job.{pieces_of, job_of}
use Rattle.job.specs.Range.{JobInRange}
use Rattle.job.specs.Block.{block_of}
use Rattle.job.specs.Inner.{from_block}
use Rattle.job.proofs.Pieces.{pieces-length, pieces-job_of}
use Rattle.job.proofs.Range.{job_says, job_of_in_range}
use Rattle.job.proofs.Blocks.{shape_says, block-length, from_block_of_block, block_written, range_fits}
use Rattle.nodes.specs.Encoding.{encode}
use Rattle.nodes.specs.declared.Tally.{Tally}
use Rattle.nodes.specs.Reads.{tally_of}
use Rattle.nodes.specs.Inner.{Part}
use Rattle.nodes.proofs.Encoding.{encode_least, valid_written}
use Rattle.nodes.proofs.Exactly.{complete}
use Rattle.fields.specs.Format.{file_most}
use Rattle.checker.specs.Fields.{trailer_at, block_distance, nodes_distance, stated_value, stated_sum, note_length, nodes_at, summed_bytes, block_bytes, before_trailer, job_at}
use Rattle.checker.specs.Checked.{Checked, Answer, answer, Framed}
use Rattle.checker.specs.Inner.{agreed, nodes_read, checked}
use Rattle.checker.specs.Given.{SumTrue, JobFits, NodesObey, Given}
use Rattle.checker.specs.PlanFile.{body, pointers, summed, plan_bytes, PlanFile}
use Rattle.checker.proofs.Stages.{sum_says, nodes_done, leaves_read, judged_yes, judges}
use Rattle.checker.proofs.Parts.{layout, pointers_of, laid-length, laid_trailer, laid_far, laid_value, laid-sum, laid_note, laid_summed, laid_block, laid_found, taken, dropped, laid_out_lem}
use Rattle.checker.proofs.Given.{bytes_take, bytes_drop, fits_shape, block_bytes-length, given}

-- The file of a valid tree is accepted, with the tree's value and areas.
module _ (note : List ℕ) (job : Job) (tree : Tree) (range : JobInRange job) (valid : Valid (pieces_of job) tree job.width job.height)
    (most : length (plan_bytes note job tree) ≤ file_most) where
  abbrev pieces : List Piece
  pieces = pieces_of job

  abbrev far : ℕ
  far = length (body job tree)

  abbrev near : ℕ
  near = length (encode tree)

  abbrev value : ℕ
  value = earning pieces tree

  abbrev sum : ℕ
  sum = sum_of (summed job tree)

  abbrev file : List ℕ
  file = layout note (block_of job) (encode tree) far near value sum

  few : length (plan_bytes note job tree) ≡ length note + (length (block_of job) + near) + 16
  unfolding plan_bytes summed body pointers
  few = laid-length note (block_of job) (encode tree) far near value sum

  far-length : far ≡ length (block_of job) + near
  unfolding body
  far-length = length-append (block_of job) (encode tree)

  small_far : far < 4_294_967_296
  small_far = omega (arith, few, most, far-length)

  small_near : near < 4_294_967_296
  small_near = omega (arith, few, most)

  small_value : value < 4_294_967_296
  small_value =
      let bound = earning_bound range.pieces (dissection_of valid) in
      omega (arith, bound, most_mono job.width job.height side_max side_max range.width_most range.height_most)

  small_sum : sum < 4_294_967_296
  small_sum = sum_below_lem 1 (summed job tree) (omega arith)

  -- The parts of the file, once for all.
  pub is_laid : plan_bytes note job tree ≡ file
  unfolding plan_bytes summed body pointers
  is_laid = refl

  far_at : block_distance file ≡ far
  far_at = laid_far note (block_of job) (encode tree) far near value sum small_far small_near small_value small_sum

  value_at_lem : stated_value file ≡ value
  value_at_lem = laid_value note (block_of job) (encode tree) far near value sum small_far small_near small_value small_sum

  trailer_at_lem : trailer_at file ≡ length note + (length (block_of job) + near)
  trailer_at_lem = laid_trailer note (block_of job) (encode tree) far near value sum

  note_at : note_length file ≡ length note
  unfolding body
  note_at = laid_note note (block_of job) (encode tree) far near value sum small_far small_near small_value small_sum refl refl

  framed_file : Framed file
  framed_file =
      record {
        least = omega (arith, length_file, block-length job.width job.height pieces, encode_least tree);
        most = omega (arith, length_file, few, most);
        distance = omega (arith, far_at, far-length, block-length job.width job.height pieces, encode_least tree);
        inside = omega (arith, far_at, far-length, trailer_at_lem);
      }
    where
      length_file : length file ≡ length note + (length (block_of job) + near) + 16
      length_file = laid-length note (block_of job) (encode tree) far near value sum

  sum_file : sum_of (summed_bytes file) ≡ stated_sum file
  unfolding body summed pointers
  sum_file =
      ap sum_of (laid_summed note (block_of job) (encode tree) far near value sum small_far small_near small_value small_sum refl refl)
      ∙ sym (laid-sum note (block_of job) (encode tree) far near value sum small_far small_near small_value small_sum)

  -- The job that the block is read as has the same sides and pieces.
  abbrev again : Job
  again = job_of job.width job.height pieces

  pieces_few : length pieces ≤ 64
  pieces_few = omega (arith, pieces-length job, range.count_most)

  again_range : JobInRange again
  again_range =
      job_of_in_range job.width job.height pieces (record { least = range.width_least; most = range.width_most })
      (record { least = range.height_least; most = range.height_most }) pieces_few range.pieces

  agreed_file : agreed (from_block (block_bytes file)) ≡ Some again
  unfolding agreed body
  agreed_file =
      let laid = laid_block note (block_of job) (encode tree) far near value sum small_far small_near small_value small_sum refl refl in
      ap (λ (s : List ℕ). agreed (from_block s)) laid
      ∙ (ap agreed (from_block_of_block job.width job.height pieces (range_fits job range)) ∙ rw ((job_says again).found again_range))

  nodes_file : Part.Read (trailer_at file) (tally_of pieces tree job.width job.height) ≡ nodes_read file again
  unfolding body job_of
  nodes_file =
      let written = valid_written (omega (arith, pieces_few)) (omega (arith, range.width_most)) (omega (arith, range.height_most)) valid in
      sym (complete pieces (before_trailer file) valid written (nodes_at file) (trailer_at file)
      (laid_found note (block_of job) (encode tree) far near value sum small_far small_near small_value small_sum refl refl))
      ∙ nodes_done file again (sym (pieces-job_of job.width job.height pieces pieces_few)) refl refl refl refl

  pub plan_accepted : Checked.Accepted (earning (pieces_of job) tree) (length note) (piece_area_of (pieces_of job) tree) (scrap_area_of tree job.width job.height)
      ≡ checked (plan_bytes note job tree)
  unfolding tally_of
  plan_accepted =
      judges file framed_file (sym ((sum_says file).found sum_file)) agreed_file
      (judged_yes file _ (leaves_read file (sym nodes_file)) (sym value_at_lem) (sym note_at))
      ∙ ap checked (sym is_laid)

-- What lies behind m in the first n of a list.
drop_take : (m n k : ℕ) (l : List ℕ) → n ≡ m + k → n ≤ length l → drop m (take n l) ≡ take k (drop m l)
drop_take m n k l e h =
    dropped (take n l) (take m l) (take k (drop m l)) m (ap (λ (j : ℕ). take j l) e ∙ take-add m k l) (length-take-le m l (omega arith))

-- A file that the list accepts is that of the tree which was read.
module _ (file : List ℕ) (bytes : Bytes file) (f : Framed file) (s : SumTrue file) (j : JobFits file) {t : Tally}
    (o : NodesObey file t) (v : t.value ≡ stated_value file) where
  abbrev own : Job
  own = job_at file

  abbrev front : List ℕ
  front = take (note_length file) file

  order : nodes_distance file ≤ block_distance file
  order = omega (arith, j.distances)

  note-length : length front ≡ note_length file
  note-length = length-take-le (note_length file) file (omega arith)

  block_same : block_bytes file ≡ block_of own
  unfolding job_at block_bytes
  block_same =
      let behind = bytes_drop (note_length file) file bytes in
      block_written (block_bytes file) (bytes_take (block_distance file - nodes_distance file) (drop (note_length file) file) behind)
      ((shape_says (block_bytes file)).means (fits_shape file f j))

  nodes-length : nodes_distance file ≡ length (encode o.tree)
  nodes-length = omega (arith, o.found.place, order, f.inside)

  nodes_same : take (nodes_distance file) (drop (nodes_at file) file) ≡ encode o.tree
  nodes_same =
      let at : trailer_at file ≡ nodes_at file + nodes_distance file = omega (arith, order, f.inside) in
      let none : drop (trailer_at file) (before_trailer file) ≡ [] =
      drop_of_length-le (before_trailer file) {i = trailer_at file} (omega (arith, length-take (trailer_at file) file)) in
      sym (drop_take (nodes_at file) (trailer_at file) (nodes_distance file) file at (omega arith))
      ∙ (o.found.bytes ∙ (ap (λ (l : List ℕ). encode o.tree ++ l) none ∙ append-nil (encode o.tree)))

  far_same : block_distance file ≡ length (body own o.tree)
  unfolding body
  far_same =
      omega (arith, length-append (block_of own) (encode o.tree), ap length block_same, block_bytes-length file f, nodes-length, order)

  value_same : stated_value file ≡ earning (pieces_of own) o.tree
  unfolding tally_of
  value_same = sym v ∙ ap (λ (q : Tally). q.value) o.sums

  abbrev made : List ℕ
  made = (block_bytes file ++ take (nodes_distance file) (drop (nodes_at file) file)) ++ pointers_of (block_distance file) (nodes_distance file) (stated_value file)

  made_same : made ≡ summed own o.tree
  unfolding summed body pointers
  made_same = λ i. (block_same i ++ nodes_same i) ++ pointers_of (far_same i) (nodes-length i) (value_same i)

  laid_file : file ≡ front ++ (made ++ bytes4 (stated_sum file))
  laid_file = laid_out_lem file bytes f order

  summed_same : summed_bytes file ≡ made
  unfolding summed_bytes
  summed_same =
      let whole = ap length laid_file ∙ length-append front (made ++ bytes4 (stated_sum file)) in
      taken (drop (note_length file) file) made (bytes4 (stated_sum file)) (block_distance file + 12)
      (dropped file front (made ++ bytes4 (stated_sum file)) (note_length file) laid_file note-length)
      (omega (arith, whole, length-append made (bytes4 (stated_sum file)), bytes4-length (stated_sum file), note-length, f.inside, f.least))

  sum_same : stated_sum file ≡ sum_of (summed own o.tree)
  sum_same = sym s ∙ ap sum_of (summed_same ∙ made_same)

  pub plan_of : PlanFile file (answer (Checked.Accepted t.value (note_length file) t.pieces t.scrap))
  unfolding plan_bytes tally_of
  plan_of =
      record {
        note = front;
        job = own;
        tree = o.tree;
        most = f.most;
        range = j.range;
        valid = o.valid;
        bytes = laid_file ∙ (λ i. front ++ (made_same i ++ bytes4 (sum_same i)));
        answers = ap₂ (λ (q : Tally) (n : ℕ). record { number = 0; value = q.value; note = n; piece_area_of = q.pieces; scrap_area_of = q.scrap })
            o.sums (sym note-length);
      }

-- Both directions, whoever wrote the file.
pub accepts_exactly : (file : List ℕ) → Bytes file → (a : Answer) → ((answer (checked file) ≡ a) × (a.number ≡ 0)) ↔ PlanFile file a
accepts_exactly file bytes a =
    let number : Answer → ℕ = λ b. b.number in
    (λ h. subst (PlanFile file) h.0 (found (given file bytes) (ap number h.0 ∙ h.1)), λ p. (accepted p, ap number p.answers))
  where
    found : {r : Checked} → Given file r → (answer r).number ≡ 0 → PlanFile file (answer r)
    found (Given.nine n) z = absurd (omega arith)
    found (Given.ten f n) z = absurd (omega arith)
    found (Given.eleven f s n) z = absurd (omega arith)
    found (Given.twelve f s j n) z = absurd (omega arith)
    found (Given.thirteen f s j o v) z = absurd (omega arith)
    found (Given.accepted f s j o v) z = plan_of file bytes f s j o v

    accepted : PlanFile file a → answer (checked file) ≡ a
    accepted p =
        let most = subst (λ (l : List ℕ). length l ≤ file_most) p.bytes p.most in
        ap (λ (l : List ℕ). answer (checked l)) p.bytes
        ∙ (sym (ap answer (plan_accepted p.note p.job p.tree p.range p.valid most)) ∙ sym p.answers)

-- Both areas together make the rectangle of the block (rule 2.7).
pub plan_areas : {file : List ℕ} {a : Answer} (p : PlanFile file a) → a.piece_area_of + a.scrap_area_of ≡ p.job.width * p.job.height
plan_areas p = ap (λ (b : Answer). b.piece_area_of + b.scrap_area_of) p.answers ∙ areas p.valid
