-- The tests of range say what they stand for.
use Prim.Native.Nat.{ℕ, ◌≤◌, ◌<◌}
use mathlib.Core.Path.{◌≡◌, refl, sym, ap, subst, ◌∙◌}
use mathlib.Core.List.{List, []}
use native.Mathlib.Omega.{arith}
use mathlib.Core.Bool.{Bool, true, false}
use Rattle.std.specs.Bool.{MatchBool}
use Rattle.std.specs.List.{AllWithin, HoldsAt}
use Rattle.std.proofs.lemmas.List.{length-take-le, get_or-take}
use lib.ListN.{get_or, length, take}
use Rattle.laws.specs.Inner.{Says}
use Rattle.laws.proofs.Says.{says_le, says_and, says_iff, says_no}
use Rattle.laws.specs.Inner.{all_below}
use Rattle.laws.proofs.Tests.{all_no}
use Rattle.laws.proofs.Below.{all_below_says}
use Rattle.cutting.specs.Limits.{side_max, pieces_max, size_max, value_max}
use Rattle.cutting.proofs.Listed.{lays_listed, listed_lays}
use Rattle.cutting.specs.Piece.{Piece, no_piece, Lays, PieceInRange, InRange}
use Rattle.job.specs.declared.Piece.{Piece as Record}
use Rattle.job.specs.declared.Job.{Job}
use Rattle.job.specs.Job.{piece_of, no_record, pieces_of, job_of, zero_job, lay_of}
use Rattle.job.specs.Range.{JobInRange}
use Rattle.job.specs.Inner.{within, piece_in_range, pieces_in_range, job_in_range}
use Rattle.job.proofs.Pieces.{pieces-length, pieces_at, pieces-job_of}

pub within_says : (n most : ℕ) → Says (within n most) ((1 ≤ n) × (n ≤ most))
within_says n most = says_and (says_le 1 n) (says_le n most)

-- A piece in range, and a record: its piece is.
abbrev pub PieceIn : Piece → Type 0
PieceIn p = PieceInRange p.width p.height p.value

abbrev pub RecordIn : Record → Type 0
RecordIn r = PieceIn (piece_of r)

pub piece_says : (r : Record) → Says (piece_in_range r) (RecordIn r)
unfolding piece_in_range
piece_says r =
    says_iff (
      λ h. omega arith,
      λ i. ((i.width_least, i.width_most), ((i.height_least, i.height_most), (i.value_least, i.value_most))),
    )
    (says_and (within_says r.width size_max) (says_and (within_says r.height size_max) (within_says r.value value_max)))

-- Pieces are in range where each of the list is.
module _ (pieces : List Piece) where
  pub in_range_each : InRange (Lays pieces) → (k : ℕ) → k < length pieces → PieceIn (get_or pieces k no_piece)
  in_range_each h k l = h _ _ _ (listed_lays (record { within = l; is = refl }))

  pub each_in_range : ((k : ℕ) → k < length pieces → PieceIn (get_or pieces k no_piece)) → InRange (Lays pieces)
  each_in_range h p q v l =
      let t = lays_listed l in
      subst PieceIn t.1.is (h t.0 t.1.within)

module _ (job : Job) where
  abbrev record_at : ℕ → Record
  record_at k = get_or job.pieces k no_record

  pub pieces_say : Says (pieces_in_range job) (InRange (lay_of job))
  unfolding pieces_in_range
  pieces_say =
      says_iff (
        λ h. each_in_range (pieces_of job) (λ k l. let b : k < job.count = omega (arith, pieces-length job) in
            subst PieceIn (sym (pieces_at job k b)) ((piece_says (record_at k)).means (h k b))),
        λ i k l. (piece_says (record_at k)).found (subst PieceIn (pieces_at job k l) (in_range_each (pieces_of job) i k (omega (arith, pieces-length job)))),
      )
      (all_below_says (λ k. piece_in_range (record_at k)) job.count)

  -- What a walk over the pieces answers.
  pub all_pieces : {r : Bool} → job.count ≤ length job.pieces
      → MatchBool r (AllWithin (λ p. piece_in_range p ≡ true) (take job.count job.pieces) 0 (length (take job.count job.pieces)))
      ((k : ℕ) × (k < length (take job.count job.pieces)) × HoldsAt (λ p. piece_in_range p ≡ false) (take job.count job.pieces) k)
      → r ≡ pieces_in_range job
  unfolding pieces_in_range
  all_pieces {r} h = answered r
    where
      long : length (take job.count job.pieces) ≡ job.count
      long = length-take-le job.count job.pieces h

      answered : (b : Bool)
          → MatchBool b (AllWithin (λ p. piece_in_range p ≡ true) (take job.count job.pieces) 0 (length (take job.count job.pieces)))
          ((k : ℕ) × (k < length (take job.count job.pieces)) × HoldsAt (λ p. piece_in_range p ≡ false) (take job.count job.pieces) k)
          → b ≡ all_below (λ k. piece_in_range (record_at k)) job.count
      answered true each =
          sym ((all_below_says (λ k. piece_in_range (record_at k)) job.count).found (λ k l.
          sym (ap piece_in_range (get_or-take job.count job.pieces k no_record l)) ∙ each k no_record (omega arith) (omega (arith, long))))
      answered false (k, l, fails) =
          let below : k < job.count = omega (arith, long) in
          all_no (λ k. piece_in_range (record_at k)) job.count k below (sym (fails no_record) ∙ ap piece_in_range (get_or-take job.count job.pieces k no_record below)) refl

  pub job_says : Says (job_in_range job) (JobInRange job)
  unfolding job_in_range
  job_says =
      says_iff (
        λ h. record {
          width_least = h.0.0;
          width_most = h.0.1;
          height_least = h.1.0.0;
          height_most = h.1.0.1;
          count_most = h.1.1.0;
          pieces = h.1.1.1;
        },
        λ i. ((i.width_least, i.width_most), ((i.height_least, i.height_most), (i.count_most, i.pieces))),
      )
      (says_and (within_says job.width side_max) (says_and (within_says job.height side_max) (says_and (says_le job.count pieces_max) pieces_say)))

-- The job of zeros is out of range, so every later call refuses it (rules 4.17 and 7.1).
pub zeros_refused : job_in_range zero_job ≡ false
unfolding zero_job job_of
zeros_refused = says_no (job_says zero_job) (λ i. omega (arith, i.width_least))

-- A side, in range.
pub record Side (n : ℕ) : Type 0 where
  pub least : 1 ≤ n
  pub most : n ≤ side_max

-- The job that has these sides and pieces is in range where they are.
pub job_of_in_range : (a b : ℕ) (pieces : List Piece) → Side a → Side b → length pieces ≤ pieces_max → InRange (Lays pieces) → JobInRange (job_of a b pieces)
unfolding job_of
job_of_in_range a b pieces wide high most range =
    record {
      width_least = wide.least;
      width_most = wide.most;
      height_least = high.least;
      height_most = high.most;
      count_most = most;
      pieces = subst (λ (l : List Piece). InRange (Lays l)) (sym (pieces-job_of a b pieces most)) range;
    }

-- A fresh job is in range where its sides are.
pub new_in_range : (a b : ℕ) → Side a → Side b → JobInRange (job_of a b [])
new_in_range a b wide high = job_of_in_range a b [] wide high (omega arith) (each_in_range [] (λ k l. absurd (omega arith)))
