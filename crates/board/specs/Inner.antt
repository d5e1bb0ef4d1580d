-- The board as it computes; nobody has to believe it: `board_holds` says that it holds the job's pieces and the points of P and Q.
use Rattle.std.specs.Prelude.{ℕ, zero, suc, ◌+◌, ◌-◌, ◌*◌, ◌<◌, ◌≤◌, min, Bool, true, false, cond, ◌&&◌, ◌||◌, ◌≡◌, List, [], ◌∷◌, ◌++◌, leb, ltb, eqb, length, get_or, take, replicate}
use Rattle.laws.specs.Inner.{any_below, Says}
use Rattle.laws.specs.ByIndex.{by_index}
use Rattle.cutting.specs.Limits.{side_max}
use Rattle.cutting.specs.Piece.{Piece, sized, Numbered, Lays}
use Rattle.cutting.specs.Points.{P, Q}
use Rattle.job.specs.declared.Piece.{Piece as Record}
use Rattle.job.specs.declared.Job.{Job}
use Rattle.job.specs.Job.{no_record}
use Rattle.board.specs.declared.Board.{Board}

-- Room for records: more than a job has pieces.
abbrev pub entries : ℕ
entries = 128

-- One mark for each number that a side can be, and one for zero.
abbrev pub mark_count : ℕ
mark_count = side_max + 1

-- What stands on a board.

abbrev pub width_on : Board → ℕ
width_on board = board.width

abbrev pub height_on : Board → ℕ
height_on board = board.height

-- There are no more than it has room for.
abbrev pub count_on : Board → ℕ
count_on board = min board.count entries

-- Its pieces' records, and the one at index k.
abbrev pub records_on : Board → List Record
records_on board = take (count_on board) board.pieces

abbrev pub record_at : Board → ℕ → Record
record_at board k = get_or board.pieces k no_record

abbrev pub width_at : Board → ℕ → ℕ
width_at board k = (record_at board k).width

abbrev pub height_at : Board → ℕ → ℕ
height_at board k = (record_at board k).height

abbrev pub value_at : Board → ℕ → ℕ
value_at board k = (record_at board k).value

-- The mark of c.
abbrev pub mark_at : List Bool → ℕ → Bool
mark_at marks c = get_or marks c false

-- A tall question is one of heights: of Q.
abbrev pub marked_at : Board → Bool → ℕ → Bool
marked_at board tall c = mark_at (cond tall board.up board.across) c

-- What the filling and the tracing read besides the cells: the pieces, by index from 0, and the marks of P and Q.
pub record Rows : Type 0 where
  pub count : ℕ
  pub width : ℕ → ℕ
  pub height : ℕ → ℕ
  pub value : ℕ → ℕ
  pub in_p : ℕ → Bool
  pub in_q : ℕ → Bool

unfoldable pub rows_on : Board → Rows
rows_on board =
    record {
      count = count_on board;
      width = width_at board;
      height = height_at board;
      value = value_at board;
      in_p = marked_at board false;
      in_q = marked_at board true;
    }

-- The pieces that stand on a board, for reading.
unfoldable pub pieces_on : Board → List Piece
pieces_on board = by_index (λ k. sized (width_at board k) (height_at board k) (value_at board k)) (count_on board)

-- The points of P and Q (rules 3.1 to 3.3), here as tests that compute, found in one pass from small to large.
-- `size k` is the width of the piece at index k for P, and its height for Q: both are one definition.

-- s is one of the first n sizes.
pub record Size (size : ℕ → ℕ) (n s : ℕ) : Type 0 where
  pub index : ℕ
  pub among : index < n
  pub equal : size index ≡ s

-- A size s makes c: alone, or on top of a smaller number that is made itself.
unfoldable pub makes : (ℕ → Bool) → ℕ → ℕ → Bool
makes made s c = eqb s c || (ltb s c && made (c - s))

-- One of the first n sizes makes c.
unfoldable pub some_makes : (ℕ → Bool) → (ℕ → ℕ) → ℕ → ℕ → Bool
some_makes made size n c = any_below (λ k. makes made (size k) c) n

-- The test for each of 0, 1, …, c. It is false of 0 (rule 3.3).
unfoldable pub reaches_up_to : (ℕ → ℕ) → ℕ → ℕ → List Bool
reaches_up_to size n zero = false ∷ []
reaches_up_to size n (suc c) =
    let before = reaches_up_to size n c in
    before ++ (some_makes (λ m. get_or before m false) size n (suc c) ∷ [])

-- Is c a sum of one or more of the first n sizes, each as often as one likes (rule 3.1)?
unfoldable pub reaches : (ℕ → ℕ) → ℕ → ℕ → Bool
reaches size n c = get_or (reaches_up_to size n c) c false

-- Is it besides at most the side (rules 3.1 and 3.2)?
unfoldable pub is_point : (ℕ → ℕ) → ℕ → ℕ → ℕ → Bool
is_point size n side c = elim (leb c side) [ true ↦ reaches size n c | false ↦ false ]

-- The marks of the numbers that pass a test.
unfoldable pub mark_row : (ℕ → Bool) → List Bool
mark_row test = by_index test mark_count

-- The marks of a side of the sheet.
unfoldable pub marks_of : (ℕ → ℕ) → ℕ → ℕ → List Bool
marks_of size n side = mark_row (is_point size n side)

-- How they are found: the sizes are marked first, then each number from small to large by the steps, which are the sizes that no step before them leads to.

-- Is c a number of the side?
unfoldable pub is_within : ℕ → ℕ → Bool
is_within side c = leb 1 c && leb c side

-- Is it besides one of the first n sizes?
unfoldable pub is_size : (ℕ → ℕ) → ℕ → ℕ → ℕ → Bool
is_size size n side c = is_within side c && any_below (λ k. eqb (size k) c) n

-- What a call gives for the record at index k, by its `post`, is `size k`.
abbrev pub Gives : (Record → ℕ → Type 0) → List Record → (ℕ → ℕ) → Type 0
Gives post records size = (k r : ℕ) → k < length records → post (get_or records k no_record) r → r ≡ size k

-- The marks of the sizes.
unfoldable pub size_marks : (ℕ → ℕ) → ℕ → ℕ → List Bool
size_marks size n side = mark_row (is_size size n side)

abbrev pub step_at : List ℕ → ℕ → ℕ
step_at steps j = get_or steps j 0

pub record Rising (step : ℕ → ℕ) (held : ℕ) : Type 0 where
  pub rises : (i j : ℕ) → i < j → j < held → step i < step j

-- The least number for which a step is tried: it is at most half of it.
abbrev pub tried_from : ℕ → ℕ
tried_from step = 2 * step

-- One of the first `held` steps leads to c: it is tried for c, and what it leaves of c is made.
unfoldable pub leads : (ℕ → Bool) → (ℕ → ℕ) → ℕ → ℕ → Bool
leads made step held c = any_below (λ j. leb (tried_from (step j)) c && made (c - step j)) held

-- The board of a job.

abbrev pub no_marks : List Bool
no_marks = replicate mark_count false

-- With the sides and the pieces: all that reading a plan file needs.
unfoldable pub pieces_board : Job → Board
pieces_board job =
    record {
      width = job.width;
      height = job.height;
      count = job.count;
      pieces = take job.count job.pieces ++ replicate (entries - job.count) no_record;
      across = no_marks;
      up = no_marks;
    }

-- With the marks of P and Q, found from the entries.
unfoldable pub with_points : Board → Board
with_points board =
    record board {
      across = marks_of (width_at board) (count_on board) (width_on board);
      up = marks_of (height_at board) (count_on board) (height_on board);
    }

-- No mark is set yet, and the sides are those of a sheet.
pub record Unmarked (board : Board) : Type 0 where
  pub wide : width_on board ≤ side_max
  pub high : height_on board ≤ side_max
  pub none_across : board.across ≡ no_marks
  pub none_up : board.up ≡ no_marks

-- All that the engine knows of a job.
unfoldable pub board_of : Job → Board
board_of job = with_points (pieces_board job)

-- What the rows of a board hold of a list of pieces: index k is piece number k + 1.
pub record Lists (rows : Rows) (pieces : List Piece) : Type 0 where
  pub count : rows.count ≡ length pieces
  pub piece : (k : ℕ) → k < rows.count → Numbered pieces (k + 1) (rows.width k) (rows.height k) (rows.value k)

-- The pieces, and the points on a sheet a by b: they are marked, and nothing else is.
pub record Hold (rows : Rows) (pieces : List Piece) (a b : ℕ) : Type 0 where
  pub lists : Lists rows pieces
  pub in_p : (c : ℕ) → c ≤ a → Says (rows.in_p c) (P (Lays pieces) a c)
  pub in_q : (d : ℕ) → d ≤ b → Says (rows.in_q d) (Q (Lays pieces) b d)
