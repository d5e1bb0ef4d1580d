-- The laws of pieces_of and job_of: the pieces of a job that has given pieces are those, and what makes a job that one.
use Rattle.std.proofs.Common.{◌≡◌, ℕ, ◌+◌, ◌-◌, ◌≤◌, ◌<◌, List, [], ◌++◌, length, get_or, take, drop, set, replicate, refl, sym, ap, ap₂, ◌∙◌, append-nil, arith, ⊎_elim, length-append, length-drop, length-set, get_or-set_same, get_or-set_other, drop-drop}
use lib.ListN.{get_or-append, get_or-eq_default}
use Rattle.std.proofs.lemmas.List.{length-replicate, get_or-replicate, get_or-append_right, length-take-le, drop_all, get_or-take}
use Rattle.std.specs.Array.{AllOfLen}
use borrow.Rule.Slice.PartMut.{mid_of, post_of, put_mid}
use Rattle.laws.specs.ByIndex.{by_index}
use Rattle.laws.proofs.Order.{le_or_lt, eq_or_not}
use Rattle.laws.proofs.ByIndex.{by_index-length, by_index_at, is_by_index}
use Rattle.cutting.specs.Piece.{Piece, no_piece}
use Rattle.cutting.specs.Limits.{pieces_max}
use Rattle.job.specs.declared.Piece.{Piece as Record}
use Rattle.job.specs.declared.Job.{Job}
use Rattle.job.specs.Job.{piece_of, record_of, no_record, pieces_of, job_of, zero_job, Tidy}
use Rattle.job.specs.Inner.{records_of}

pub pieces-length : (job : Job) → length (pieces_of job) ≡ job.count
unfolding pieces_of
pieces-length job = by_index-length (λ k. piece_of (get_or job.pieces k no_record)) job.count

pub pieces_at : (job : Job) (k : ℕ) → k < job.count → get_or (pieces_of job) k no_piece ≡ piece_of (get_or job.pieces k no_record)
unfolding pieces_of
pieces_at job k h = by_index_at (λ i. piece_of (get_or job.pieces i no_record)) job.count k no_piece h

-- The same of the record, which the code reads.
pub record_at_lem : (job : Job) (k : ℕ) → k < job.count → get_or job.pieces k no_record ≡ record_of (get_or (pieces_of job) k no_piece)
record_at_lem job k h = ap record_of (sym (pieces_at job k h))

pub pieces-job_of : (width height : ℕ) (pieces : List Piece) → length pieces ≤ pieces_max → pieces_of (job_of width height pieces) ≡ pieces
unfolding pieces_of job_of
pieces-job_of width height pieces h =
    sym
    (is_by_index (λ k. piece_of (get_or (job_of width height pieces).pieces k no_record)) (length pieces) pieces no_piece refl
    (λ k l. ap piece_of (sym (by_index_at (λ i. record_of (get_or pieces i no_piece)) pieces_max k no_record (omega arith)))))

pub job_of_tidy : (width height : ℕ) (pieces : List Piece) → length pieces ≤ pieces_max → Tidy (job_of width height pieces)
unfolding job_of
job_of_tidy width height pieces h = record { zeros = ap (job_of width height) (sym (pieces-job_of width height pieces h)) }

-- Its records past n are zeros.
pub job_of_zeros : (width height : ℕ) (pieces : List Piece) (k : ℕ) → length pieces ≤ k → get_or (job_of width height pieces).pieces k no_record ≡ no_record
unfolding job_of
job_of_zeros width height pieces k h =
    let f : ℕ → Record = λ i. record_of (get_or pieces i no_piece) in
    ⊎_elim (λ g. get_or-eq_default (by_index f pieces_max) no_record (omega (arith, by_index-length f pieces_max)))
    (λ g. by_index_at f pieces_max k no_record g ∙ ap record_of (get_or-eq_default pieces no_piece h))
    (le_or_lt pieces_max k)

-- A job with these sides, this count and the records of these pieces is that job.
pub is_job_of : (width height n : ℕ) (pieces : List Piece) {records : List Record} → n ≡ length pieces → records ≡ records_of pieces
    → ◌≡◌ {A = Job} (record { width = width; height = height; count = n; pieces = records }) (job_of width height pieces)
unfolding job_of
is_job_of width height n pieces {records} e f = λ i. record { width = width; height = height; count = e i; pieces = f i }

-- Records that begin with those of the pieces, and zeros behind them.
pub are_records : (pieces : List Piece) (front back : List Record) → length pieces ≤ pieces_max → length front ≡ length pieces
    → ((k : ℕ) → k < length pieces → get_or front k no_record ≡ record_of (get_or pieces k no_piece))
    → back ≡ replicate (pieces_max - length pieces) no_record → front ++ back ≡ records_of pieces
are_records pieces front back h e f g =
    is_by_index (λ k. record_of (get_or pieces k no_piece)) pieces_max (front ++ back) no_record
    (length-append front back ∙ (omega (arith, e, ap length g, length-replicate (pieces_max - length pieces) no_record)))
    (λ k l. ⊎_elim (behind k l) (before k) (le_or_lt (length pieces) k))
  where
    before : (k : ℕ) → k < length pieces → get_or (front ++ back) k no_record ≡ record_of (get_or pieces k no_piece)
    before k l = get_or-append front back no_record k (omega (arith, e)) ∙ f k l

    behind : (k : ℕ) → k < pieces_max → length pieces ≤ k → get_or (front ++ back) k no_record ≡ record_of (get_or pieces k no_piece)
    behind k m l =
        get_or-append_right front back (length pieces) k no_record e l
        ∙ (ap (λ (r : List Record). get_or r (k - length pieces) no_record) g
        ∙ (get_or-replicate (pieces_max - length pieces) (k - length pieces) no_record no_record (omega arith)
        ∙ ap record_of (sym (get_or-eq_default pieces no_piece l))))

-- What a default is.
pub is_no_record : {r : Record} → (r.width ≡ 0) × ((r.height ≡ 0) × (r.value ≡ 0)) → r ≡ no_record
is_no_record h = λ i. record { width = h.0 i; height = h.1.0 i; value = h.1.1 i }

pub are_zeros : {records : List Record} → AllOfLen (λ (r : Record). (r.width ≡ 0) × ((r.height ≡ 0) × (r.value ≡ 0))) records pieces_max → records ≡ records_of []
are_zeros {records} h =
    is_by_index (λ k. no_record) pieces_max records no_record h.long (λ k l. is_no_record (h.at k no_record l))

-- The default job is the job of zeros.
pub is_zero_job : {job : Job}
    → (job.width ≡ 0)
    × ((job.height ≡ 0)
    × ((job.count ≡ 0) × AllOfLen (λ (r : Record). (r.width ≡ 0) × ((r.height ≡ 0) × (r.value ≡ 0))) job.pieces pieces_max))
    → job ≡ zero_job
unfolding zero_job
is_zero_job {job} h =
    is_job_of job.width job.height job.count [] h.1.1.0 (are_zeros h.1.1.1) ∙ ap₂ (λ (a b : ℕ). job_of a b []) h.0 h.1.0

-- A job whose records past n were filled with zeros.
pub tidied_done : (job : Job) {n : ℕ} {zero : Record} {filled : List Record} → length job.pieces ≡ pieces_max → job.count ≤ pieces_max → n ≡ job.count
    → zero ≡ no_record → filled ≡ replicate (length (mid_of n (length job.pieces - n) job.pieces)) zero
    → ◌≡◌ {A = Job} (record { width = job.width; height = job.height; count = job.count; pieces = put_mid n (length job.pieces - n) job.pieces filled })
    (job_of job.width job.height (pieces_of job))
tidied_done job {n} {zero} {filled} full few e f g =
    let long : length (pieces_of job) ≡ job.count = pieces-length job in
    let front : List Record = take n job.pieces in
    let none : post_of n (length job.pieces - n) job.pieces ≡ [] =
    drop-drop (length job.pieces - n) n job.pieces ∙ drop_all (n + (length job.pieces - n)) job.pieces (omega arith) in
    let many : length (mid_of n (length job.pieces - n) job.pieces) ≡ pieces_max - length (pieces_of job) =
    length-take-le (length job.pieces - n) (drop n job.pieces) (omega (arith, length-drop n job.pieces)) ∙ omega arith in
    let back : filled ++ post_of n (length job.pieces - n) job.pieces ≡ replicate (pieces_max - length (pieces_of job)) no_record =
    ap (λ (l : List Record). filled ++ l) none ∙ (append-nil filled ∙ (g ∙ ap₂ replicate many f)) in
    is_job_of job.width job.height job.count (pieces_of job) (sym long)
    (are_records (pieces_of job) front (filled ++ post_of n (length job.pieces - n) job.pieces) (omega arith)
    (length-take-le n job.pieces (omega arith) ∙ omega arith)
    (λ k l. get_or-take n job.pieces k no_record (omega arith) ∙ record_at_lem job k (omega arith))
    back)

-- One record more or another one: the others are those that they were.
pub records_set : (old new : List Piece) (n : ℕ) (r : Record) → n < pieces_max → r ≡ record_of (get_or new n no_piece)
    → ((k : ℕ) → (k ≡ n → ⊥) → get_or old k no_piece ≡ get_or new k no_piece) → set (records_of old) n r ≡ records_of new
records_set old new n r h e f =
    is_by_index (λ k. record_of (get_or new k no_piece)) pieces_max (set (records_of old) n r) no_record
    (length-set (records_of old) n r ∙ long)
    (λ k l. ⊎_elim
    (λ q. ap (λ (i : ℕ). get_or (set (records_of old) n r) i no_record) q
    ∙ (get_or-set_same (records_of old) n r no_record (omega (arith, long)) ∙ (e ∙ ap (λ (i : ℕ). record_of (get_or new i no_piece)) (sym q))))
    (λ q. get_or-set_other (records_of old) n k r no_record q
    ∙ (by_index_at (λ i. record_of (get_or old i no_piece)) pieces_max k no_record l ∙ ap record_of (f k q)))
    (eq_or_not k n))
  where
    long : length (records_of old) ≡ pieces_max
    long = by_index-length (λ i. record_of (get_or old i no_piece)) pieces_max
