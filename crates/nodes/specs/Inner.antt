-- The reading of nodes as it computes; nobody has to believe it: `exactly` says that it reads what `ReadAs` says.
use Rattle.std.specs.Prelude.{ℕ, ◌<◌, ◌+◌, ◌-◌, ◌*◌, ◌^◌, ◌≤◌, ◌≡◌, List, Bool, true, false, cond, ◌&&◌, get_or, length, leb, eqb, Option, Some, None}
use Rattle.laws.specs.Inner.{deep}
use Rattle.cutting.specs.Limits.{value_max}
use Rattle.cutting.specs.Piece.{Piece, piece_at, Lays, InRange}
use Rattle.cutting.specs.Dissection.{rest, crossed, part_width, part_height, Line}
use Rattle.cutting.specs.Tree.{Tree}
use Rattle.board.specs.Inner.{pieces_on}
use Rattle.fields.specs.Number.{number2_of}
use Rattle.fields.specs.Format.{letter_v, letter_h, letter_p, letter_s, node_length}
use Rattle.nodes.specs.Reads.{Frame, frame}
use Rattle.nodes.specs.declared.Tally.{Tally}
use Rattle.nodes.specs.declared.Node.{Node}
use Rattle.nodes.specs.declared.Nodes.{Nodes}
use Rattle.nodes.specs.declared.Reading.{Reading}

-- Each number of the tree has its two bytes.
unfoldable pub Written : Tree → Type 0
Written (Tree.line tall c s t) = (c < 65_536) × Written s × Written t
Written (Tree.piece_p k) = k < 65_536
Written Tree.scrap_s = Unit {0}

-- One node, judged by the rules for its part, which is x by y.

-- A line lies inside the side that it goes through (rule 8.10).
unfoldable pub is_inside : ℕ → ℕ → Bool
is_inside side c = leb 1 c && leb c (side - 1)

abbrev pub line_node : Bool → ℕ → ℕ → Option Node
line_node tall side c = cond (is_inside side c) (Some (Node.Line tall c)) None

-- k is the number of a piece of exactly this size (rule 8.10).
unfoldable pub is_piece : List Piece → ℕ → ℕ → ℕ → Bool
is_piece pieces k x y =
    leb 1 k && (leb k (length pieces) && (eqb (piece_at pieces k).width x && eqb (piece_at pieces k).height y))

abbrev pub piece_node : List Piece → ℕ → ℕ → ℕ → Option Node
piece_node pieces k x y = cond (is_piece pieces k x y) (Some (Node.Piece k)) None

-- A scrap has the number 0 (rule 8.10).
abbrev pub scrap_node : ℕ → Option Node
scrap_node number = cond (eqb number 0) (Some Node.Scrap) None

-- Each of the four letters has its test, any other is broken (rule 8.10).
unfoldable pub letter_node : List Piece → ℕ → ℕ → ℕ → ℕ → Option Node
letter_node pieces letter number x y =
    cond (eqb letter letter_v)
    (line_node false (crossed false x y) number)
    (cond (eqb letter letter_h)
    (line_node true (crossed true x y) number)
    (cond (eqb letter letter_p)
    (piece_node pieces number x y)
    (cond (eqb letter letter_s) (scrap_node number) None)))

-- The node is whole: its three bytes are there (rule 8.10).
unfoldable pub node_at : List Piece → List ℕ → Frame → Option Node
node_at pieces s f =
    cond (leb (f.at + node_length) (length s))
    (letter_node pieces (get_or s f.at 0) (number2_of s (f.at + 1)) f.width f.height)
    None

-- A part is read by its node; behind a line come its two parts, which are read in the same way (rule 8.6).

-- A part that was read: the place after its nodes, and its leaves added up. Or a rule was broken.
pub data Part : Type 0 where
  Read : ℕ → Tally → Part
  Broken : Part

-- Areas (rule 2.7) and value (rule 8.8) add up over the leaves: what one leaf adds, and what two parts add up to.
abbrev pub tally : ℕ → ℕ → ℕ → Tally
tally value pieces scrap = record { value = value; pieces = pieces; scrap = scrap }

abbrev pub scrap_tally : ℕ → ℕ → Tally
scrap_tally x y = tally 0 0 (x * y)

abbrev pub piece_tally : ℕ → ℕ → ℕ → Tally
piece_tally v x y = tally v (x * y) 0

abbrev pub tally_both : Tally → Tally → Tally
tally_both a b = tally (a.value + b.value) (a.pieces + b.pieces) (a.scrap + b.scrap)

-- The two parts of a line, where the nodes of f start behind the line's own.
abbrev pub near_part : Frame → Bool → ℕ → Frame
near_part f tall c = frame f.at (part_width tall f.width c) (part_height tall f.height c)

abbrev pub far_part : Frame → Bool → ℕ → ℕ → Frame
far_part f tall c at =
    let r = rest (crossed tall f.width f.height) c in
    frame at (part_width tall f.width r) (part_height tall f.height r)

abbrev pub behind_node : Frame → Frame
behind_node f = frame (f.at + node_length) f.width f.height

-- One part behind another: the second from where the first ends.
unfoldable pub with_first : Tally → Part → Part
with_first a (Part.Read next b) = Part.Read next (tally_both a b)
with_first a Part.Broken = Part.Broken

unfoldable pub then_read : Part → (ℕ → Part) → Part
then_read (Part.Read middle a) second = with_first a (second middle)
then_read Part.Broken second = Part.Broken

-- Both parts of a line, by a reader of parts.
unfoldable pub both_parts : (Frame → Part) → Frame → Bool → ℕ → Part
both_parts read f tall c = then_read (read (near_part f tall c)) (λ middle. read (far_part f tall c middle))

unfoldable pub part_by : List Piece → (Frame → Part) → Frame → Option Node → Part
part_by pieces read f (Some (Node.Line tall c)) = both_parts read (behind_node f) tall c
part_by pieces read f (Some (Node.Piece k)) = Part.Read (f.at + node_length) (piece_tally (piece_at pieces k).value f.width f.height)
part_by pieces read f (Some Node.Scrap) = Part.Read (f.at + node_length) (scrap_tally f.width f.height)
part_by pieces read f None = Part.Broken

-- Each line shortens a side, so that a part's two sides together are as many lines as there can be one below the other.
abbrev pub around : Frame → ℕ
around f = f.width + f.height

unfoldable pub part_at : List Piece → List ℕ → Frame → Part
part_at pieces s = deep around Part.Broken (λ read f. part_by pieces read f (node_at pieces s f))

abbrev pub both_at : List Piece → List ℕ → ℕ → ℕ → ℕ → Bool → ℕ → Part
both_at pieces s at x y tall c = both_parts (part_at pieces s) (frame at x y) tall c

-- The same of a plan file's nodes.
abbrev pub pieces_in : Nodes → List Piece
pieces_in nodes = pieces_on nodes.board.now

abbrev pub part_in : Nodes → ℕ → ℕ → ℕ → Part
part_in nodes at x y = part_at (pieces_in nodes) nodes.bytes.now (frame at x y)

-- How far the reader has come.

abbrev pub no_leaves : Tally
no_leaves = tally 0 0 0

abbrev pub reading : ℕ → Tally → Reading
reading at t = record { at = at; leaves = t }

-- Behind a leaf's node, with what the leaf adds.
abbrev pub behind_leaf : Reading → Tally → Reading
behind_leaf r t = reading (r.at + node_length) (tally_both r.leaves t)

-- A part that was read, with no leaf before it.
unfoldable pub read_of : Part → Option Reading
read_of (Part.Read next t) = Some (reading next t)
read_of Part.Broken = None

-- What the readers answer for a part: they come to its end, and its leaves are added; or none, and nothing is said of what was read.
pub data ReadsTo (before : Tally) (after : Reading) (r : Option (Unit {0})) : Part → Type 0 where
  read : {next : ℕ} {t : Tally} → r ≡ Some tt → after ≡ reading next (tally_both before t) → ReadsTo before after r (Part.Read next t)
  broken : r ≡ None → ReadsTo before after r Part.Broken

-- A tally has room for another.
pub record RoomFor (before t : Tally) : Type 0 where
  pub value : before.value + t.value < 2 ^ 32
  pub pieces : before.pieces + t.pieces < 2 ^ 32
  pub scrap : before.scrap + t.scrap < 2 ^ 32

-- What a part's reader may rely on: pieces in range, a rectangle (rule 2.1), and room for the most that it can add.
pub record MayRead (pieces : List Piece) (x y : ℕ) (before : Tally) : Type 0 where
  pub range : InRange (Lays pieces)
  pub wide : 1 ≤ x
  pub high : 1 ≤ y
  pub room : RoomFor before (tally (x * y * value_max) (x * y) (x * y))

-- The same of a part that a line goes through.
pub record MayReadLine (pieces : List Piece) (x y : ℕ) (tall : Bool) (c : ℕ) (before : Tally) : Type 0 where
  pub part : MayRead pieces x y before
  pub line : Line (crossed tall x y) c (rest (crossed tall x y) c)
