-- What stands on the board of a job.
use Prim.Native.Nat.{ℕ, ◌-◌, ◌≤◌, ◌<◌}
use mathlib.Core.Path.{◌≡◌, refl, sym, ap, ◌∙◌}
use mathlib.Core.List.{List, ◌++◌}
use native.Mathlib.Omega.{arith}
use Rattle.std.proofs.Math.Nat.{min-le_right}
use lib.ListN.{length, take, get_or, replicate, length-replicate, get_or-replicate, get_or-append, get_or-eq_default}
use lib.Seq.{get_or-append_right}
use mathlib.Core.Logic.{⊎_elim}
use Rattle.laws.proofs.Order.{le_or_lt}
use Rattle.cutting.specs.Limits.{pieces_max}
use Rattle.job.specs.declared.Job.{Job}
use Rattle.std.proofs.lemmas.List.{length-take, get_or-take}
use Rattle.job.specs.declared.Piece.{Piece as Record}
use Rattle.job.specs.Job.{no_record}
use Rattle.board.specs.declared.Board.{Board}
use Rattle.board.specs.Inner.{entries, width_on, height_on, count_on, records_on, record_at, pieces_board}

-- Two boards with the same fields are one.
pub same_board : (b d : Board) → b.width ≡ d.width → b.height ≡ d.height → b.count ≡ d.count → b.pieces ≡ d.pieces → b.across ≡ d.across → b.up ≡ d.up → b ≡ d
same_board b d width height count pieces across up =
    λ i. record {
      width = width i;
      height = height i;
      count = count i;
      pieces = pieces i;
      across = across i;
      up = up i;
    }

-- A board has room for its pieces.
pub count_few : (board : Board) → count_on board ≤ entries
count_few board = min-le_right board.count entries

-- What stands at an index of the first n records.
pub first_record : (n : ℕ) (records : List Record) (k : ℕ) → k < length (take n records)
    → get_or (take n records) k no_record ≡ get_or records k no_record
first_record n records k h = get_or-take n records k no_record (omega (arith, h, length-take n records))

-- What stands at an index of a board's pieces.
pub record_on : (board : Board) (k : ℕ) {first : List Record} → first ≡ records_on board → k < length first → get_or first k no_record ≡ record_at board k
record_on board k {first} e h =
    ap (λ (l : List Record). get_or l k no_record) e
    ∙ first_record (count_on board) board.pieces k (omega (arith, h, ap (λ (l : List Record). length l) e))

-- Blank records behind others change nothing.
pub blank_behind : (first : List Record) (m k : ℕ) → get_or (first ++ replicate m no_record) k no_record ≡ get_or first k no_record
blank_behind first m k = ⊎_elim (λ h. past h) (λ h. get_or-append first rest no_record k h) (le_or_lt (length first) k)
  where
    rest : List Record
    rest = replicate m no_record

    past : length first ≤ k → get_or (first ++ rest) k no_record ≡ get_or first k no_record
    past h = get_or-append_right first rest k no_record h ∙ (none (k - length first) ∙ sym (get_or-eq_default first no_record {n = k} h))
      where
        none : (j : ℕ) → get_or rest j no_record ≡ no_record
        none j =
            ⊎_elim (λ l. get_or-eq_default rest no_record {n = j} (omega (arith, length-replicate {A = Record} m no_record)))
            (λ l. get_or-replicate {A = Record} m j no_record no_record l) (le_or_lt m j)

-- The first n records on the board are the job's.
pub pieces_record : (job : Job) (k : ℕ) → k < job.count → record_at (pieces_board job) k ≡ get_or job.pieces k no_record
unfolding pieces_board
pieces_record job k h =
    blank_behind (take job.count job.pieces) (entries - job.count) k ∙ get_or-take job.count job.pieces k no_record h

pub pieces_width : (job : Job) → width_on (pieces_board job) ≡ job.width
unfolding pieces_board
pieces_width job = refl

pub pieces_height : (job : Job) → height_on (pieces_board job) ≡ job.height
unfolding pieces_board
pieces_height job = refl

pub pieces_count : (job : Job) → job.count ≤ pieces_max → count_on (pieces_board job) ≡ job.count
unfolding pieces_board
pieces_count job few = omega (arith, few)
