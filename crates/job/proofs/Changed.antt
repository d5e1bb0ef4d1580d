-- The laws of the changed job: what stands at each number after an addition, a correction, a removal, and the job that has it.
use Prim.Native.Nat.{ℕ, ◌+◌, ◌-◌, ◌≤◌, ◌<◌}
use mathlib.Core.Path.{◌≡◌, sym, ap, ◌∙◌, subst}
use mathlib.Core.Logic.{◌⊎◌, inl, inr, ⊎_elim}
use mathlib.Core.List.{List, [], ◌∷◌, ◌++◌}
use native.Mathlib.Omega.{arith}
use lib.ListN.{length, get_or, set, take, drop, length-append, length-drop, length-set, get_or-append, get_or-eq_default}
use lib.Seq.{get_or-append_seam, get_or-take, get_or-drop, get_or-set_same, get_or-set_other, length-take-le}
use Rattle.laws.proofs.Order.{le_or_lt, last_or_below, eq_or_not}
use Rattle.laws.proofs.ByIndex.{is_by_index}
use Rattle.std.specs.List.{SameBelow}
use Rattle.std.proofs.lemmas.List.{get_or-append_right}
use Rattle.cutting.specs.Piece.{Piece, no_piece}
use Rattle.cutting.specs.Limits.{pieces_max}
use Rattle.cutting.specs.Change.{added, corrected, removed}
use Rattle.job.specs.declared.Piece.{Piece as Record}
use Rattle.job.specs.declared.Job.{Job}
use Rattle.job.specs.Job.{piece_of, record_of, no_record, pieces_of, job_of}
use Rattle.job.specs.Change.{with_added, with_corrected, with_removed}
use Rattle.job.specs.Range.{JobInRange}
use Rattle.job.proofs.Range.{PieceIn, RecordIn, in_range_each, each_in_range, job_of_in_range}
use Rattle.job.proofs.Pieces.{pieces-length, pieces_at, pieces-job_of, is_job_of, records_set}

-- The lists of pieces, number by number.
module _ (pieces : List Piece) where
  pub added-length : (new : Piece) → length (added pieces new) ≡ length pieces + 1
  unfolding added
  added-length new = length-append pieces (new ∷ [])

  pub added_at : (new : Piece) (k : ℕ) → k < length pieces → get_or (added pieces new) k no_piece ≡ get_or pieces k no_piece
  unfolding added
  added_at new k h = get_or-append pieces (new ∷ []) no_piece k h

  pub added_other : (new : Piece) (k : ℕ) → (k ≡ length pieces → ⊥) → get_or (added pieces new) k no_piece ≡ get_or pieces k no_piece
  unfolding added
  added_other new k h = ⊎_elim behind (added_at new k) (le_or_lt (length pieces) k)
    where
      last_or_more : length pieces ≤ k → (k ≡ length pieces) ⊎ (length pieces < k)
      last_or_more l = ⊎_elim (λ q. inl (omega arith)) (λ q. inr q) (le_or_lt k (length pieces))

      behind : length pieces ≤ k → get_or (pieces ++ (new ∷ [])) k no_piece ≡ get_or pieces k no_piece
      behind l =
          let more : length pieces < k = ⊎_elim (λ q. absurd (h q)) (λ q. q) (last_or_more l) in
          get_or-eq_default (pieces ++ (new ∷ [])) no_piece (omega (arith, length-append pieces (new ∷ []))) ∙ sym (get_or-eq_default pieces no_piece l)

  pub added_last : (new : Piece) → get_or (added pieces new) (length pieces) no_piece ≡ new
  unfolding added
  added_last new = get_or-append_seam pieces new [] no_piece

  pub corrected-length : (number : ℕ) (new : Piece) → length (corrected pieces number new) ≡ length pieces
  unfolding corrected
  corrected-length number new = length-set pieces (number - 1) new

  pub corrected_same : (number : ℕ) (new : Piece) → number - 1 < length pieces → get_or (corrected pieces number new) (number - 1) no_piece ≡ new
  unfolding corrected
  corrected_same number new h = get_or-set_same pieces (number - 1) new no_piece h

  pub corrected_other : (number : ℕ) (new : Piece) (k : ℕ) → (k ≡ number - 1 → ⊥) → get_or (corrected pieces number new) k no_piece ≡ get_or pieces k no_piece
  unfolding corrected
  corrected_other number new k h = get_or-set_other pieces (number - 1) k new no_piece h

  module _ (number : ℕ) (first : 1 ≤ number) (last : number ≤ length pieces) where
    front_length : length (take (number - 1) pieces) ≡ number - 1
    front_length = length-take-le (number - 1) pieces (omega arith)

    pub removed-length : length (removed pieces number) ≡ length pieces - 1
    unfolding removed
    removed-length = simp (length-append, length-drop) (omega (arith, front_length))

    pub removed_before : (k : ℕ) → k < number - 1 → get_or (removed pieces number) k no_piece ≡ get_or pieces k no_piece
    unfolding removed
    removed_before k h =
        get_or-append (take (number - 1) pieces) (drop number pieces) no_piece k (omega (arith, front_length)) ∙ get_or-take (number - 1) pieces k no_piece h

    -- Those behind come one number earlier.
    pub removed_behind : (k : ℕ) → number - 1 ≤ k → get_or (removed pieces number) k no_piece ≡ get_or pieces (k + 1) no_piece
    unfolding removed
    removed_behind k h =
        get_or-append_right (take (number - 1) pieces) (drop number pieces) (number - 1) k no_piece front_length h
        ∙ (get_or-drop number pieces (k - (number - 1)) no_piece ∙ ap (λ (i : ℕ). get_or pieces i no_piece) (omega arith))

-- The job that the code makes of a tidied one.
module _ (job : Job) {tidy : Job} (e : tidy ≡ job_of job.width job.height (pieces_of job)) where
  pub tidied_count : tidy.count ≡ job.count
  unfolding job_of
  tidied_count = ap (λ (j : Job). j.count) e ∙ pieces-length job

  pub added_done : (new : Record) {n : ℕ} → job.count < pieces_max → n ≡ job.count
      → ◌≡◌ {A = Job} (record { width = tidy.width; height = tidy.height; count = tidy.count + 1; pieces = set tidy.pieces n new }) (with_added job new)
  unfolding with_added job_of
  added_done new {n} room f =
      let pieces : List Piece = pieces_of job in
      let long : length pieces ≡ n = pieces-length job ∙ sym f in
      ap (λ (j : Job). record { width = j.width; height = j.height; count = j.count + 1; pieces = set j.pieces n new }) e
      ∙ is_job_of job.width job.height (length pieces + 1) (added pieces (piece_of new)) (sym (added-length pieces (piece_of new)))
      (records_set pieces (added pieces (piece_of new)) n new (omega arith)
      (ap record_of (sym (ap (λ (i : ℕ). get_or (added pieces (piece_of new)) i no_piece) (sym long) ∙ added_last pieces (piece_of new))))
      (λ k other. sym (added_other pieces (piece_of new) k (λ q. other (q ∙ long)))))

  pub corrected_done : (number : ℕ) (new : Record) → job.count ≤ pieces_max → 1 ≤ number → number ≤ job.count
      → ◌≡◌ {A = Job} (record { width = tidy.width; height = tidy.height; count = tidy.count; pieces = set tidy.pieces (number - 1) new })
      (with_corrected job number new)
  unfolding with_corrected job_of
  corrected_done number new room first last =
      let pieces : List Piece = pieces_of job in
      let long : length pieces ≡ job.count = pieces-length job in
      ap (λ (j : Job). record { width = j.width; height = j.height; count = j.count; pieces = set j.pieces (number - 1) new }) e
      ∙ is_job_of job.width job.height (length pieces) (corrected pieces number (piece_of new)) (sym (corrected-length pieces number (piece_of new)))
      (records_set pieces (corrected pieces number (piece_of new)) (number - 1) new (omega arith)
      (ap record_of (sym (corrected_same pieces number (piece_of new) (omega arith))))
      (λ k other. sym (corrected_other pieces number (piece_of new) k other)))

-- The job whose records have one more.
pub grown_done : (job : Job) (new : Record) {n : ℕ} {r : Job} → length job.pieces ≡ pieces_max → job.count < pieces_max → n ≡ job.count
    → r ≡ job_of job.width job.height (pieces_of (record { width = job.width; height = job.height; count = job.count + 1; pieces = set job.pieces n new }))
    → r ≡ with_added job new
unfolding with_added pieces_of
grown_done job new {n} full room f e =
    e ∙ ap (job_of job.width job.height) same
  where
    records : List Record
    records = set job.pieces n new

    long : length (pieces_of job) ≡ job.count
    long = pieces-length job

    piece_at : (k : ℕ) → (k ≡ job.count) ⊎ (k < job.count) → piece_of (get_or records k no_record) ≡ get_or (added (pieces_of job) (piece_of new)) k no_piece
    piece_at k (inl q) =
        ap piece_of (ap (λ (i : ℕ). get_or records i no_record) (q ∙ sym f) ∙ get_or-set_same job.pieces n new no_record (omega arith))
        ∙ sym (ap (λ (i : ℕ). get_or (added (pieces_of job) (piece_of new)) i no_piece) (q ∙ sym long) ∙ added_last (pieces_of job) (piece_of new))
    piece_at k (inr l) =
        ap piece_of (get_or-set_other job.pieces n k new no_record (λ q. omega arith))
        ∙ (sym (pieces_at job k l) ∙ sym (added_at (pieces_of job) (piece_of new) k (omega (arith, long))))

    same : pieces_of (record { width = job.width; height = job.height; count = job.count + 1; pieces = records }) ≡ added (pieces_of job) (piece_of new)
    same =
        sym (is_by_index (λ k. piece_of (get_or records k no_record)) (job.count + 1) (added (pieces_of job) (piece_of new)) no_piece
        (added-length (pieces_of job) (piece_of new) ∙ omega (arith, long))
        (λ k l. sym (piece_at k (last_or_below (omega arith)))))

-- The job whose records behind one of them were moved one number down.
pub removed_done : (job : Job) (number : ℕ) (records : List Record) {n : ℕ} {r : Job} → 1 ≤ number → number ≤ job.count → n ≡ job.count - 1
    → SameBelow job.pieces records (number - 1)
    → ((k : ℕ) → number - 1 ≤ k → k < n → get_or records k no_record ≡ get_or job.pieces (k + 1) no_record)
    → r ≡ job_of job.width job.height (pieces_of (record { width = job.width; height = job.height; count = n; pieces = records }))
    → r ≡ with_removed job number
unfolding with_removed pieces_of
removed_done job number records {n} first last few before behind e =
    e ∙ ap (job_of job.width job.height) same
  where
    after : Job
    after = record { width = job.width; height = job.height; count = n; pieces = records }

    last_length : number ≤ length (pieces_of job)
    last_length = omega (arith, pieces-length job)

    piece_at : (k : ℕ) → k < n → piece_of (get_or records k no_record) ≡ get_or (removed (pieces_of job) number) k no_piece
    piece_at k l =
        ⊎_elim
        (λ h. ap piece_of (behind k h l) ∙ (sym (pieces_at job (k + 1) (omega arith)) ∙ sym (removed_behind (pieces_of job) number first last_length k h)))
        (λ h. ap piece_of (before k no_record h) ∙ (sym (pieces_at job k (omega arith)) ∙ sym (removed_before (pieces_of job) number first last_length k h)))
        (le_or_lt (number - 1) k)

    same : pieces_of after ≡ removed (pieces_of job) number
    same =
        sym (is_by_index (λ k. piece_of (get_or records k no_record)) n (removed (pieces_of job) number) no_piece
        (removed-length (pieces_of job) number first last_length ∙ omega (arith, pieces-length job))
        (λ k l. sym (piece_at k l)))

-- The changed job's pieces are the changed pieces, and its sides stay.
pub pieces_added : (job : Job) (new : Record) → job.count < pieces_max → pieces_of (with_added job new) ≡ added (pieces_of job) (piece_of new)
unfolding with_added
pieces_added job new h =
    pieces-job_of job.width job.height (added (pieces_of job) (piece_of new)) (omega (arith, added-length (pieces_of job) (piece_of new), pieces-length job))

pub pieces_corrected : (job : Job) (number : ℕ) (new : Record) → job.count ≤ pieces_max
    → pieces_of (with_corrected job number new) ≡ corrected (pieces_of job) number (piece_of new)
unfolding with_corrected
pieces_corrected job number new h =
    pieces-job_of job.width job.height (corrected (pieces_of job) number (piece_of new))
    (omega (arith, corrected-length (pieces_of job) number (piece_of new), pieces-length job))

pub pieces_removed : (job : Job) (number : ℕ) → job.count ≤ pieces_max → 1 ≤ number → number ≤ job.count
    → pieces_of (with_removed job number) ≡ removed (pieces_of job) number
unfolding with_removed
pieces_removed job number h first last =
    let long : length (pieces_of job) ≡ job.count = pieces-length job in
    let below : number ≤ length (pieces_of job) = omega arith in
    pieces-job_of job.width job.height (removed (pieces_of job) number) (omega (arith, removed-length (pieces_of job) number first below))

-- The changed job is in range where the job and the new piece are.
module _ (job : Job) (range : JobInRange job) where
  sides : (pieces : List Piece) → length pieces ≤ pieces_max → ((k : ℕ) → k < length pieces → PieceIn (get_or pieces k no_piece))
      → JobInRange (job_of job.width job.height pieces)
  sides pieces most each =
      job_of_in_range job.width job.height pieces
      (record { least = range.width_least; most = range.width_most })
      (record { least = range.height_least; most = range.height_most })
      most
      (each_in_range pieces each)

  old : (k : ℕ) → k < length (pieces_of job) → PieceIn (get_or (pieces_of job) k no_piece)
  old = in_range_each (pieces_of job) range.pieces

  pub added_in_range : (new : Record) → job.count < pieces_max → RecordIn new → JobInRange (with_added job new)
  unfolding with_added
  added_in_range new room good =
      sides more (omega (arith, long, pieces-length job)) (λ k l. either k (last_or_below (omega (arith, long))))
    where
      more : List Piece
      more = added (pieces_of job) (piece_of new)

      long : length more ≡ length (pieces_of job) + 1
      long = added-length (pieces_of job) (piece_of new)

      either : (k : ℕ) → (k ≡ length (pieces_of job)) ⊎ (k < length (pieces_of job)) → PieceIn (get_or more k no_piece)
      either k (inl e) = subst PieceIn (sym (ap (λ (i : ℕ). get_or more i no_piece) e ∙ added_last (pieces_of job) (piece_of new))) good
      either k (inr l) = subst PieceIn (sym (added_at (pieces_of job) (piece_of new) k l)) (old k l)

  pub corrected_in_range : (number : ℕ) (new : Record) → RecordIn new → JobInRange (with_corrected job number new)
  unfolding with_corrected
  corrected_in_range number new good =
      sides other (omega (arith, long, pieces-length job, range.count_most)) (λ k l. either k (omega (arith, long)) (eq_or_not k (number - 1)))
    where
      other : List Piece
      other = corrected (pieces_of job) number (piece_of new)

      long : length other ≡ length (pieces_of job)
      long = corrected-length (pieces_of job) number (piece_of new)

      either : (k : ℕ) → k < length (pieces_of job) → (k ≡ number - 1) ⊎ (k ≡ number - 1 → ⊥) → PieceIn (get_or other k no_piece)
      either k l (inl e) =
          subst PieceIn (sym (ap (λ (i : ℕ). get_or other i no_piece) e ∙ corrected_same (pieces_of job) number (piece_of new) (omega arith))) good
      either k l (inr n) = subst PieceIn (sym (corrected_other (pieces_of job) number (piece_of new) k n)) (old k l)

  pub removed_in_range : (number : ℕ) → 1 ≤ number → number ≤ job.count → JobInRange (with_removed job number)
  unfolding with_removed
  removed_in_range number first last =
      let below : number ≤ length (pieces_of job) = omega (arith, pieces-length job) in
      let long : length (removed (pieces_of job) number) ≡ length (pieces_of job) - 1 = removed-length (pieces_of job) number first below in
      sides (removed (pieces_of job) number) (omega (arith, pieces-length job, range.count_most))
      (λ k l. ⊎_elim
      (λ h. subst PieceIn (sym (removed_behind (pieces_of job) number first below k h)) (old (k + 1) (omega arith)))
      (λ h. subst PieceIn (sym (removed_before (pieces_of job) number first below k h)) (old k (omega arith)))
      (le_or_lt (number - 1) k))
