-- The board of a job holds its pieces, and the marks of its P and Q.
use Prim.Native.Nat.{ℕ, ◌+◌, ◌-◌, ◌≤◌, ◌<◌}
use mathlib.Core.Path.{◌≡◌, refl, sym, ap, subst, ◌∙◌}
use mathlib.Core.Logic.{◌↔◌}
use mathlib.Core.List.{List}
use native.Mathlib.Omega.{arith}
use native.Mathlib.Numerals.{add-one}
use lib.ListN.{get_or}
use Rattle.laws.proofs.ByIndex.{is_by_index}
use Rattle.cutting.specs.Limits.{pieces_max}
use Rattle.cutting.specs.Piece.{Lay, Piece, sized, no_piece, Numbered, Lays, Lies, Turned}
use Rattle.cutting.specs.Points.{Width}
use Rattle.cutting.proofs.Listed.{numbered_listed, listed_numbered, lays_listed}
use Rattle.job.specs.declared.Job.{Job}
use Rattle.job.specs.Job.{piece_of, no_record, pieces_of, lay_of}
use Rattle.job.specs.Range.{JobInRange}
use Rattle.job.proofs.Pieces.{pieces_at, pieces-length as pieces-of-length}
use Rattle.board.specs.declared.Board.{Board}
use Rattle.board.specs.Inner.{width_on, height_on, count_on, width_at, height_at, value_at, Rows, rows_on, pieces_on, Size, record_at, pieces_board, Unmarked, with_points, board_of, Lists, Hold}
use Rattle.board.proofs.Marks.{marks_of_at, is_point_P}
use Rattle.board.proofs.Laid.{pieces_count, pieces_record}

-- The piece at index k of the rows.
pub record IsRow (rows : Rows) (k p q v : ℕ) : Type 0 where
  pub among : k < rows.count
  pub width : rows.width k ≡ p
  pub height : rows.height k ≡ q
  pub value : rows.value k ≡ v

module _ {rows : Rows} {pieces : List Piece} (lists : Lists rows pieces) where
  -- Piece number k + 1 is the piece at index k, and that of no other index.
  pub row_of : {n k p q v : ℕ} → n ≡ k + 1 → Numbered pieces n p q v → IsRow rows k p q v
  row_of {k = k} {p = p} {q = q} {v = v} e m =
      record { among = among; width = sym held.width ∙ n.width; height = sym held.height ∙ n.height; value = sym held.value ∙ n.value }
    where
      n : Numbered pieces (k + 1) p q v
      n = subst (λ (j : ℕ). Numbered pieces j p q v) e m

      among : k < rows.count
      among = omega (arith, n.last, lists.count)

      held : Numbered pieces (k + 1) (rows.width k) (rows.height k) (rows.value k)
      held = lists.piece k among

  -- What may lie is what stands at some index.
  pub row_lays : (k : ℕ) → k < rows.count → Lies pieces (rows.width k) (rows.height k) (rows.value k)
  row_lays k h = record { number = k + 1; numbered = lists.piece k h }

  pub lays_row : {p q v : ℕ} → Lies pieces p q v → (k : ℕ) × IsRow rows k p q v
  lays_row l = let t = lays_listed l in (t.0, row_of refl (rw add-one (listed_numbered t.1)))

-- The widths that may lie are the sizes of the rows of a lay; the heights are the widths of the turned lay.
sizes_are : (lay : Lay) (n : ℕ) (width height value : ℕ → ℕ) → ((p q v : ℕ) → lay.lies p q v → Size width n p)
    → ((k : ℕ) → k < n → lay.lies (width k) (height k) (value k)) → (p : ℕ) → Width lay p ↔ Size width n p
sizes_are lay n width height value to from p = ((λ w. to p w.height w.value w.lies), back)
  where
    back : Size width n p → Width lay p
    back s =
        record {
          height = height s.index;
          value = value s.index;
          lies = subst (λ (w : ℕ). lay.lies w (height s.index) (value s.index)) s.equal (from s.index s.among);
        }

pub widths_are : {rows : Rows} {pieces : List Piece} → Lists rows pieces → (p : ℕ) → Width (Lays pieces) p ↔ Size rows.width rows.count p
widths_are {rows} {pieces} l =
    sizes_are (Lays pieces) rows.count rows.width rows.height rows.value
    (λ p q v m. let t = lays_row l m in record { index = t.0; among = t.1.among; equal = t.1.width })
    (row_lays l)

pub heights_are : {rows : Rows} {pieces : List Piece} → Lists rows pieces → (q : ℕ) → Width (Turned (Lays pieces)) q ↔ Size rows.height rows.count q
heights_are {rows} {pieces} l =
    sizes_are (Turned (Lays pieces)) rows.count rows.height rows.width rows.value
    (λ q p v m. let t = lays_row l m in record { index = t.0; among = t.1.among; equal = t.1.height })
    (row_lays l)

-- For reading: the pieces that stand on the board are the listed ones.
pub lists_pieces : (board : Board) (pieces : List Piece) → Lists (rows_on board) pieces → pieces_on board ≡ pieces
unfolding rows_on pieces_on
lists_pieces board pieces l =
    sym
    (is_by_index (λ k. sized (width_at board k) (height_at board k) (value_at board k)) (count_on board) pieces no_piece (sym l.count)
    (λ k h. let back : k ≡ k + 1 - 1 = omega arith in ap (λ (j : ℕ). get_or pieces j no_piece) back ∙ (numbered_listed (l.piece k h)).is))

module _ (job : Job) (few : job.count ≤ pieces_max) where
  -- Records that are the job's, on any board that counts as many.
  job_listed : (board : Board) → count_on board ≡ job.count → ((k : ℕ) → k < job.count → record_at board k ≡ get_or job.pieces k no_record)
      → Lists (rows_on board) (pieces_of job)
  unfolding rows_on
  job_listed board e same =
      record {
        count = e ∙ sym (pieces-of-length job);
        piece = λ k h. let b : k < job.count = omega (arith, e) in
            rw add-one
            (listed_numbered (record { within = omega (arith, pieces-of-length job); is = pieces_at job k b ∙ sym (ap piece_of (same k b)) }));
      }

  pub board_width : width_on (board_of job) ≡ job.width
  unfolding board_of with_points pieces_board
  board_width = refl

  pub board_height : height_on (board_of job) ≡ job.height
  unfolding board_of with_points pieces_board
  board_height = refl

  pub board_count : count_on (board_of job) ≡ job.count
  unfolding board_of with_points
  board_count = pieces_count job few

  pub pieces_listed : Lists (rows_on (pieces_board job)) (pieces_of job)
  pieces_listed = job_listed (pieces_board job) (pieces_count job few) (pieces_record job)

  pub board_listed : Lists (rows_on (board_of job)) (pieces_of job)
  unfolding board_of with_points
  board_listed = job_listed (board_of job) board_count (pieces_record job)

  -- Reading a plan file needs the pieces alone.
  pub pieces_read : pieces_on (pieces_board job) ≡ pieces_of job
  pieces_read = lists_pieces (pieces_board job) (pieces_of job) pieces_listed

-- The board with a job's pieces is ready for its points, and with them it is the board of the job.
pub pieces_unmarked : (job : Job) {board : Board} → JobInRange job → board ≡ pieces_board job → Unmarked board
unfolding pieces_board
pieces_unmarked job r e =
    rw e (record { wide = r.width_most; high = r.height_most; none_across = refl; none_up = refl })

pub points_laid : (job : Job) {board laid : Board} → board ≡ pieces_board job → laid ≡ with_points board → laid ≡ board_of job
unfolding board_of
points_laid job e f = f ∙ ap with_points e

-- The board of a job holds its pieces, and its marks are the points.
pub board_holds : (job : Job) → JobInRange job → Hold (rows_on (board_of job)) (pieces_of job) job.width job.height
unfolding rows_on board_of with_points pieces_board
board_holds job r =
    record {
      lists = board_listed job few;
      in_p =
          λ c l. rw (marks_of_at (width_at board) (count_on board) job.width c (omega (arith, r.width_most)))
          (is_point_P (lay_of job) (width_at board) (count_on board) job.width c (widths_are listed));
      in_q =
          λ d l. rw (marks_of_at (height_at board) (count_on board) job.height d (omega (arith, r.height_most)))
          (is_point_P (Turned (lay_of job)) (height_at board) (count_on board) job.height d (heights_are listed));
    }
  where
    few : job.count ≤ pieces_max
    few = r.count_most

    board : Board
    board = pieces_board job

    listed : Lists (rows_on board) (pieces_of job)
    listed = pieces_listed job few
