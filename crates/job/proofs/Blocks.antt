-- The laws of the job block: its length, how it is written piece by piece, and that reading and writing are inverse.
use Rattle.std.specs.Prelude.{Some, None}
use Rattle.std.proofs.lemmas.Option.{cond_some, none-some}
use Rattle.std.proofs.lemmas.List.{drop-replicate, get_or-take}
use Prim.Native.Nat.{ℕ, zero, suc, ◌+◌, ◌-◌, ◌*◌, ◌≤◌, ◌<◌}
use mathlib.Core.Bool.{Bool, cond}
use mathlib.Core.Path.{◌≡◌, refl, sym, ap, ap₂, subst, ◌∙◌}
use mathlib.Core.Logic.{◌⊎◌, inl, inr}
use mathlib.Core.List.{List, [], ◌∷◌, ◌++◌, append_assoc, append-nil}
use native.Mathlib.Omega.{arith}
use lib.ListN.{length, replicate, get_or, take, drop, length-append, length-drop, take-append-drop, get_or-eq_default}
use native.Mathlib.Nat.{add-zero}
use lib.Seq.{drop-drop, drop-nil, drop-append-add, take-add, drop-cons, take_all, drop_at}
use Rattle.laws.specs.Inner.{Says}
use Rattle.laws.specs.ByIndex.{by_index}
use Rattle.laws.specs.Put.{put}
use Rattle.laws.proofs.Order.{le_or_lt}
use Rattle.laws.proofs.Says.{says_le, says_eq, says_and, says_iff, says_no}
use Rattle.laws.proofs.ByIndex.{by_index-length, by_index_at, by_index_more, by_index_same, is_by_index}
use Rattle.laws.proofs.Put.{put_none, put_next}
use Rattle.fields.specs.Number.{number2_of, bytes2, Bytes}
use Rattle.fields.proofs.Number.{bytes2-length, number2_drop, number2_bytes, number2_behind, bytes2_number}
use Rattle.cutting.specs.Limits.{pieces_max}
use Rattle.cutting.specs.Piece.{Piece, no_piece}
use Rattle.job.specs.declared.Piece.{Piece as Record}
use Rattle.job.specs.declared.Job.{Job}
use Rattle.job.specs.Job.{piece_of, record_of, no_record, pieces_of, job_of, Tidy}
use Rattle.job.specs.Inner.{records_of, block_shape, from_block}
use Rattle.job.specs.Block.{InFields, block_length, bytes_of_piece, bytes_of_pieces, bytes_of_head, block, block_of, count_in, piece_from, piece_in, job_in, BlockShape}
use Rattle.fields.specs.Format.{head_bytes, piece_bytes}
use Rattle.job.specs.Range.{JobInRange}
use Rattle.job.proofs.Range.{in_range_each}
use Rattle.job.proofs.Pieces.{pieces-length, is_job_of, are_records, pieces-job_of}

-- Lengths.

pub head-length : (width height n : ℕ) → length (bytes_of_head width height n) ≡ head_bytes
unfolding bytes_of_head bytes2
head-length width height n = refl

pub piece-length : (p : Piece) → length (bytes_of_piece p) ≡ piece_bytes
unfolding bytes_of_piece bytes2
piece-length p = refl

pub pieces_bytes-length : (pieces : List Piece) → length (bytes_of_pieces pieces) ≡ length pieces * piece_bytes
unfolding bytes_of_pieces
pieces_bytes-length [] = refl
pieces_bytes-length (p ∷ pieces) =
    length-append (bytes_of_piece p) (bytes_of_pieces pieces) ∙ omega (arith, piece-length p, pieces_bytes-length pieces)

pub block-length : (width height : ℕ) (pieces : List Piece) → length (block width height pieces) ≡ block_length (length pieces)
unfolding block
block-length width height pieces =
    length-append (bytes_of_head width height (length pieces)) (bytes_of_pieces pieces)
    ∙ ap₂ ◌+◌ (head-length width height (length pieces)) (pieces_bytes-length pieces)

pub pieces-append : (s t : List Piece) → bytes_of_pieces (s ++ t) ≡ bytes_of_pieces s ++ bytes_of_pieces t
unfolding bytes_of_pieces
pieces-append [] t = refl
pieces-append (p ∷ s) t = ap (λ (l : List ℕ). bytes_of_piece p ++ l) (pieces-append s t) ∙ sym (append_assoc (bytes_of_piece p) (bytes_of_pieces s) (bytes_of_pieces t))

-- Writing.

-- No piece yet, and all of them.
pub put_pieces_none : (o : List ℕ) (piece : ℕ → Piece) → o ≡ put o head_bytes (bytes_of_pieces (by_index piece 0))
unfolding bytes_of_pieces by_index
put_pieces_none o piece = sym (put_none o head_bytes)

pub put_pieces_end : (o : List ℕ) (job : Job) {items : List Record} {n : ℕ} {p : List ℕ}
    → p ≡ put o head_bytes (bytes_of_pieces (by_index (λ k. piece_of (get_or items k no_record)) n)) → items ≡ take job.count job.pieces → n ≡ job.count
    → p ≡ put o head_bytes (bytes_of_pieces (pieces_of job))
unfolding pieces_of
put_pieces_end o job {items} {n} e f g =
    let same : by_index (λ k. piece_of (get_or items k no_record)) n ≡ by_index (λ k. piece_of (get_or job.pieces k no_record)) n =
    by_index_same (λ k. piece_of (get_or items k no_record)) (λ k. piece_of (get_or job.pieces k no_record)) n
    (λ k l. ap piece_of (ap (λ (r : List Record). get_or r k no_record) f ∙ get_or-take job.count job.pieces k no_record (omega arith))) in
    e
    ∙ ap (λ (l : List Piece). put o head_bytes (bytes_of_pieces l)) (same ∙ ap (by_index (λ k. piece_of (get_or job.pieces k no_record))) g)

-- One piece more behind those that are written.
pub put_piece_more : (o : List ℕ) (piece : ℕ → Piece) (k : ℕ) {p q : List ℕ} {at : ℕ} → block_length k ≤ length o → at ≡ block_length k
    → p ≡ put o head_bytes (bytes_of_pieces (by_index piece k)) → q ≡ put p at (bytes_of_piece (piece k))
    → q ≡ put o head_bytes (bytes_of_pieces (by_index piece (k + 1)))
unfolding bytes_of_pieces
put_piece_more o piece k h l e f =
    let before : length (bytes_of_pieces (by_index piece k)) ≡ k * piece_bytes =
    pieces_bytes-length (by_index piece k) ∙ ap (λ (n : ℕ). n * piece_bytes) (by_index-length piece k) in
    let more : bytes_of_pieces (by_index piece (k + 1)) ≡ bytes_of_pieces (by_index piece k) ++ bytes_of_piece (piece k) =
    ap bytes_of_pieces (by_index_more piece k)
    ∙ (pieces-append (by_index piece k) (piece k ∷ []) ∙ ap (λ (b : List ℕ). bytes_of_pieces (by_index piece k) ++ b) (append-nil (bytes_of_piece (piece k)))) in
    put_next o head_bytes (bytes_of_pieces (by_index piece k)) (bytes_of_piece (piece k)) (omega arith) (omega arith) e f
    ∙ ap (put o head_bytes) (sym more)

-- The head and then the pieces.
pub put_block_done : (o : List ℕ) (width height : ℕ) (pieces : List Piece) {n : ℕ} {p q : List ℕ} → head_bytes ≤ length o → n ≡ length pieces
    → p ≡ put o 0 (bytes_of_head width height n) → q ≡ put p head_bytes (bytes_of_pieces pieces) → q ≡ put o 0 (block width height pieces)
unfolding block
put_block_done o width height pieces {n} h l e f =
    let six : length (bytes_of_head width height n) ≡ head_bytes = head-length width height n in
    put_next o 0 (bytes_of_head width height n) (bytes_of_pieces pieces) (omega arith) (omega arith) e f
    ∙ ap (λ (k : ℕ). put o 0 (bytes_of_head width height k ++ bytes_of_pieces pieces)) l

-- Reading.

pub shape_says : (s : List ℕ) → Says (block_shape s) (BlockShape s)
unfolding block_shape
shape_says s =
    says_iff
    (λ h. record { head = h.0; most = h.1.0; whole = h.1.1 }, λ i. (i.head, (i.most, i.whole)))
    (says_and (says_le head_bytes (length s)) (says_and (says_le (count_in s) pieces_max) (says_eq (length s) (block_length (count_in s)))))

pub piece_in_lem : (s : List ℕ) (k : ℕ) {at : ℕ} {r : Record} → at ≡ block_length k → r ≡ record_of (piece_from s at) → r ≡ record_of (piece_in s k)
piece_in_lem s k e f = f ∙ ap (λ (at : ℕ). record_of (piece_from s at)) e

-- A block is read by whether it has the shape.
from_block_by : (s : List ℕ) {b : Bool} → block_shape s ≡ b → from_block s ≡ cond b (Some (job_in s)) None
unfolding from_block
from_block_by s e = ap (λ (b : Bool). cond b (Some (job_in s)) None) e

pub from_block_no : (s : List ℕ) → (BlockShape s → ⊥) → None ≡ from_block s
from_block_no s h = sym (from_block_by s (says_no (shape_says s) h))

pub from_block_yes : (s : List ℕ) {job : Job} → BlockShape s → job ≡ job_in s → Some job ≡ from_block s
from_block_yes s h e = ap Some e ∙ sym (from_block_by s ((shape_says s).found h))

-- What the answer tells.
pub from_block_some : (s : List ℕ) {job : Job} → Some job ≡ from_block s → BlockShape s × (job ≡ job_in s)
unfolding from_block
from_block_some s {job} e =
    let h = cond_some (block_shape s) (job_in s) job (sym e) in
    ((shape_says s).means h.0, sym h.1)

pub from_block_none : (s : List ℕ) → None ≡ from_block s → BlockShape s → ⊥
from_block_none s e h = none-some (job_in s) (e ∙ sym (from_block_yes s h refl))

-- The records that are read, and those behind them.
pub records_read : (s : List ℕ) (count : ℕ) (front back : List Record) → count ≤ pieces_max → length front ≡ count
    → ((k : ℕ) → k < count → get_or front k no_record ≡ record_of (piece_in s k)) → back ≡ replicate (pieces_max - count) no_record
    → front ++ back ≡ records_of (by_index (piece_in s) count)
records_read s count front back h e f g =
    let long : length (by_index (piece_in s) count) ≡ count = by_index-length (piece_in s) count in
    are_records (by_index (piece_in s) count) front back (omega arith) (omega arith)
    (λ k l. let below : k < count = omega arith in f k below ∙ ap record_of (sym (by_index_at (piece_in s) count k no_piece below)))
    (g ∙ ap (λ (n : ℕ). replicate (pieces_max - n) no_record) (sym long))

pub zeros_left : (n k : ℕ) {zero : Record} → zero ≡ no_record → drop k (replicate n zero) ≡ replicate (n - k) no_record
zeros_left n k e = drop-replicate k n _ ∙ ap (replicate (n - k)) e

pub job_in_done : (s : List ℕ) {w h n : ℕ} {records : List Record} → w ≡ number2_of s 0 → h ≡ number2_of s 2 → n ≡ count_in s
    → records ≡ records_of (by_index (piece_in s) n)
    → ◌≡◌ {A = Job} (record { width = w; height = h; count = n; pieces = records }) (job_in s)
unfolding job_in
job_in_done s {w} {h} {n} {records} e f g i =
    let pieces : List Piece = by_index (piece_in s) (count_in s) in
    is_job_of w h n pieces (g ∙ sym (by_index-length (piece_in s) (count_in s))) (i ∙ ap (λ (k : ℕ). records_of (by_index (piece_in s) k)) g)
    ∙ ap₂ (λ (a b : ℕ). job_of a b pieces) e f

-- Reading and writing are inverse: three numbers behind one another, a piece, the pieces, the block.

module _ (a b d : ℕ) (r : List ℕ) where
  abbrev three : List ℕ
  three = bytes2 a ++ (bytes2 b ++ bytes2 d) ++ r

  regrouped : three ≡ bytes2 a ++ (bytes2 b ++ (bytes2 d ++ r))
  regrouped = simp append_assoc

  three_first : a < 65_536 → number2_of three 0 ≡ a
  three_first h = ap (λ (l : List ℕ). number2_of l 0) regrouped ∙ number2_bytes a (bytes2 b ++ (bytes2 d ++ r)) h

  three_second : b < 65_536 → number2_of three 2 ≡ b
  three_second h = ap (λ (l : List ℕ). number2_of l 2) regrouped ∙ number2_behind (bytes2 a) b (bytes2 d ++ r) 2 (bytes2-length a) h

  three_third : d < 65_536 → number2_of three 4 ≡ d
  three_third h =
      let four : length (bytes2 a ++ bytes2 b) ≡ 4 = simp length-append (omega (arith, bytes2-length a, bytes2-length b)) in
      ap (λ (l : List ℕ). number2_of l 4) (regrouped ∙ sym (append_assoc (bytes2 a) (bytes2 b) (bytes2 d ++ r)))
      ∙ number2_behind (bytes2 a ++ bytes2 b) d r 4 four h

-- The numbers of three fields are written as the bytes that stand there.
three_written : (s : List ℕ) (at : ℕ) → Bytes s → at + 6 ≤ length s
    → bytes2 (number2_of s at) ++ (bytes2 (number2_of s (at + 2)) ++ bytes2 (number2_of s (at + 4))) ≡ take 6 (drop at s)
three_written s at b h =
    let first : bytes2 (number2_of s at) ≡ take 2 (drop at s) = bytes2_number s at b (omega arith) in
    let second : bytes2 (number2_of s (at + 2)) ≡ take 2 (drop 2 (drop at s)) =
    bytes2_number s (at + 2) b (omega arith) ∙ ap (take 2) (sym (drop-drop 2 at s)) in
    let four : at + 2 + 2 ≡ at + 4 = omega arith in
    let third : bytes2 (number2_of s (at + 4)) ≡ take 2 (drop 2 (drop 2 (drop at s))) =
    bytes2_number s (at + 4) b (omega arith) ∙ ap (take 2) (sym (ap (drop 2) (drop-drop 2 at s) ∙ (drop-drop 2 (at + 2) s ∙ ap (λ (k : ℕ). drop k s) four))) in
    ap₂ ◌++◌ first (ap₂ ◌++◌ second third ∙ sym (take-add 2 2 (drop 2 (drop at s)))) ∙ sym (take-add 2 4 (drop at s))

-- What stands before a piece does not matter.
piece-drop : (s : List ℕ) (at : ℕ) → piece_from s at ≡ piece_from (drop at s) 0
unfolding piece_from
piece-drop s at = λ i. record { width = number2_drop s at i; height = behind 2 i; value = behind 4 i }
  where
    behind : (n : ℕ) → number2_of s (at + n) ≡ number2_of (drop at s) n
    behind n = number2_drop s (at + n) ∙ (ap (λ (l : List ℕ). number2_of l 0) (sym (drop-drop n at s)) ∙ sym (number2_drop (drop at s) n))

-- The bytes of a piece are read as that piece.
pub piece_bytes_lem : (p : Piece) (r : List ℕ) → p.width < 65_536 → p.height < 65_536 → p.value < 65_536 → piece_from (bytes_of_piece p ++ r) 0 ≡ p
unfolding piece_from bytes_of_piece
piece_bytes_lem p r wide high worth =
    λ i. record {
      width = three_first p.width p.height p.value r wide i;
      height = three_second p.width p.height p.value r high i;
      value = three_third p.width p.height p.value r worth i;
    }

-- Behind the bytes of k pieces stand those of the others.
pub pieces-drop : (k : ℕ) (pieces : List Piece) → drop (k * piece_bytes) (bytes_of_pieces pieces) ≡ bytes_of_pieces (drop k pieces)
unfolding bytes_of_pieces
pieces-drop zero pieces = refl
pieces-drop (suc k) [] = drop-nil (suc k * piece_bytes)
pieces-drop (suc k) (p ∷ pieces) =
    let past : suc k * piece_bytes ≡ length (bytes_of_piece p) + k * piece_bytes = omega (arith, piece-length p) in
    ap (λ (n : ℕ). drop n (bytes_of_piece p ++ bytes_of_pieces pieces)) past
    ∙ (drop-append-add (bytes_of_piece p) (bytes_of_pieces pieces) (k * piece_bytes) ∙ pieces-drop k pieces)

-- The block of a job is read as that job.
module _ (width height : ℕ) (pieces : List Piece) (fits : InFields width height pieces) where
  abbrev bytes : List ℕ
  bytes = block width height pieces

  width_read : number2_of bytes 0 ≡ width
  unfolding block bytes_of_head
  width_read = three_first width height (length pieces) (bytes_of_pieces pieces) fits.width

  height_read : number2_of bytes 2 ≡ height
  unfolding block bytes_of_head
  height_read = three_second width height (length pieces) (bytes_of_pieces pieces) fits.height

  count_read : count_in bytes ≡ length pieces
  unfolding block bytes_of_head
  count_read = three_third width height (length pieces) (bytes_of_pieces pieces) (omega (arith, fits.count))

  piece_read : (k : ℕ) → k < length pieces → piece_in bytes k ≡ get_or pieces k no_piece
  unfolding block bytes_of_pieces
  piece_read k h =
      let head : List ℕ = bytes_of_head width height (length pieces) in
      let place : drop (block_length k) bytes ≡ bytes_of_pieces (drop k pieces) =
      sym (drop-drop (k * piece_bytes) head_bytes bytes)
      ∙ (ap (drop (k * piece_bytes)) (drop_at head (bytes_of_pieces pieces) head_bytes (head-length width height (length pieces)))
      ∙ pieces-drop k pieces) in
      piece-drop bytes (block_length k)
      ∙ (ap (λ (l : List ℕ). piece_from l 0) (place ∙ ap bytes_of_pieces (drop-cons pieces k no_piece h))
      ∙ piece_bytes_lem (get_or pieces k no_piece) (bytes_of_pieces (drop (suc k) pieces)) (fits.piece_width k) (fits.piece_height k) (fits.piece_value k))

  pub block_shape_lem : BlockShape bytes
  block_shape_lem =
      let long : length bytes ≡ block_length (length pieces) = block-length width height pieces in
      record { head = omega arith; most = omega (arith, count_read, fits.count); whole = long ∙ ap block_length (sym count_read) }

  pub block_read : job_in bytes ≡ job_of width height pieces
  unfolding job_in
  block_read =
      let read : by_index (piece_in bytes) (count_in bytes) ≡ pieces =
      ap (by_index (piece_in bytes)) count_read ∙ sym (is_by_index (piece_in bytes) (length pieces) pieces no_piece refl (λ k h. sym (piece_read k h))) in
      λ i. job_of (width_read i) (height_read i) (read i)

  -- Read back, it is accepted.
  pub from_block_of_block : from_block bytes ≡ Some (job_of width height pieces)
  from_block_of_block = sym (from_block_yes bytes block_shape_lem (sym block_read))

-- No two jobs have the same block.
pub block_injective : (a b : ℕ) (s : List Piece) (c d : ℕ) (t : List Piece) → InFields a b s → InFields c d t → block a b s ≡ block c d t
    → job_of a b s ≡ job_of c d t
block_injective a b s c d t f g e = sym (block_read a b s f) ∙ (ap job_in e ∙ block_read c d t g)

-- What is read as a block is the block of what was read.
pub piece_written : (s : List ℕ) (at : ℕ) → Bytes s → at + piece_bytes ≤ length s → bytes_of_piece (piece_from s at) ≡ take piece_bytes (drop at s)
unfolding piece_from bytes_of_piece
piece_written s at b h = three_written s at b h

pub pieces_written : (s : List ℕ) (n at : ℕ) → Bytes s → at + n * piece_bytes ≤ length s
    → bytes_of_pieces (by_index (λ k. piece_from s (at + k * piece_bytes)) n) ≡ take (n * piece_bytes) (drop at s)
unfolding bytes_of_pieces by_index
pieces_written s zero at b h = refl
pieces_written s (suc n) at b h =
    let next : by_index (λ k. piece_from s (at + suc k * piece_bytes)) n ≡ by_index (λ k. piece_from s (at + piece_bytes + k * piece_bytes)) n =
    by_index_same (λ k. piece_from s (at + suc k * piece_bytes)) (λ k. piece_from s (at + piece_bytes + k * piece_bytes)) n (λ k l. ap (piece_from s) (omega arith)) in
    let first : bytes_of_piece (piece_from s (at + 0)) ≡ take piece_bytes (drop at s) =
    ap (λ (k : ℕ). bytes_of_piece (piece_from s k)) (add-zero at) ∙ piece_written s at b (omega arith) in
    let others : bytes_of_pieces (by_index (λ k. piece_from s (at + suc k * piece_bytes)) n) ≡ take (n * piece_bytes) (drop piece_bytes (drop at s)) =
    ap bytes_of_pieces next ∙ (pieces_written s n (at + piece_bytes) b (omega arith) ∙ ap (take (n * piece_bytes)) (sym (drop-drop piece_bytes at s))) in
    let whole : piece_bytes + n * piece_bytes ≡ suc n * piece_bytes = omega arith in
    ap₂ ◌++◌ first others ∙ (sym (take-add piece_bytes (n * piece_bytes) (drop at s)) ∙ ap (λ (k : ℕ). take k (drop at s)) whole)

pub block_written : (s : List ℕ) → Bytes s → BlockShape s → s ≡ block_of (job_in s)
unfolding job_in job_of block bytes_of_head
block_written s b h =
    let pieces : List Piece = by_index (piece_in s) (count_in s) in
    let n : length pieces ≡ count_in s = by_index-length (piece_in s) (count_in s) in
    let same : pieces_of (job_in s) ≡ pieces = pieces-job_of (number2_of s 0) (number2_of s 2) pieces (omega (arith, h.most)) in
    let rest : bytes_of_pieces pieces ≡ drop head_bytes s =
    pieces_written s (count_in s) head_bytes b (omega (arith, h.whole))
    ∙ take_all (count_in s * piece_bytes) (drop head_bytes s) (omega (arith, length-drop head_bytes s, h.whole)) in
    sym
    (ap (block (number2_of s 0) (number2_of s 2)) same
    ∙ (ap₂ (λ (k : ℕ) (l : List ℕ). bytes_of_head (number2_of s 0) (number2_of s 2) k ++ l) n rest
    ∙ (ap (λ (l : List ℕ). l ++ drop head_bytes s) (three_written s 0 b (omega (arith, h.head))) ∙ take-append-drop head_bytes s)))

-- A job in range fits its fields.
abbrev Small : Piece → Type 0
Small p = (p.width < 65_536) × (p.height < 65_536) × (p.value < 65_536)

pub range_fits : (job : Job) → JobInRange job → InFields job.width job.height (pieces_of job)
range_fits job range =
    record {
      width = omega (arith, range.width_most);
      height = omega (arith, range.height_most);
      count = omega (arith, range.count_most, pieces-length job);
      piece_width = λ k. omega (arith, (each k (le_or_lt (length (pieces_of job)) k)).0);
      piece_height = λ k. omega (arith, (each k (le_or_lt (length (pieces_of job)) k)).1);
      piece_value = λ k. omega (arith, (each k (le_or_lt (length (pieces_of job)) k)).2);
    }
  where
    each : (k : ℕ) → (length (pieces_of job) ≤ k) ⊎ (k < length (pieces_of job)) → Small (get_or (pieces_of job) k no_piece)
    each k (inl h) = subst Small (sym (get_or-eq_default (pieces_of job) no_piece h)) (omega arith, omega arith, omega arith)
    each k (inr h) =
        let i = in_range_each (pieces_of job) range.pieces k h in
        (omega (arith, i.width_most), omega (arith, i.height_most), omega (arith, i.value_most))

-- A job in range whose records past n are zeros is the job of its own block.
pub own_block : (job : Job) → JobInRange job → Tidy job → BlockShape (block_of job) × (job_in (block_of job) ≡ job)
own_block job range tidy =
    let fits = range_fits job range in
    (block_shape_lem job.width job.height (pieces_of job) fits, block_read job.width job.height (pieces_of job) fits ∙ sym tidy.zeros)
