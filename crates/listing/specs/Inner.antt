-- What only contracts inside and proofs need.
use Rattle.std.specs.Prelude.{ℕ, ◌+◌, ◌≤◌, Bool, ◌≡◌, List, Option, Some, length}
use Rattle.cutting.specs.Limits.{side_max}
use Rattle.cutting.specs.Piece.{Piece, Lays, InRange, Inside}
use Rattle.cutting.specs.Dissection.{part_width, part_height}
use Rattle.cutting.specs.Tree.{Tree, Valid}
use Rattle.board.specs.Inner.{entries}
use Rattle.nodes.specs.Encoding.{encode}
use Rattle.nodes.specs.Reads.{Found}
use Rattle.nodes.specs.declared.Node.{Node}
use Rattle.printing.specs.Inner.{Writes}
use Rattle.printing.specs.declared.Text.{Text}
use Rattle.listing.specs.Line.{line_text}
use Rattle.listing.specs.Listing.{kind_of, listing}
use Rattle.listing.specs.declared.Kind.{Kind}
use Rattle.listing.specs.declared.Section.{Section}

abbrev pub section : ℕ → ℕ → ℕ → ℕ → Section
section at level x y = record { at = at; level = level; width = x; height = y }

-- The part of a line that has `side` of the side that it goes through, one level below.
abbrev pub below_of : Section → Bool → ℕ → ℕ → Section
below_of q tall side at = section at (q.level + 1) (part_width tall q.width side) (part_height tall q.height side)

-- The line of a node.
abbrev pub own_line : Section → ℕ → Kind → ℕ → List ℕ
own_line q e kind number = line_text q.level q.width q.height e kind number

unfoldable pub node_text : Section → ℕ → Node → List ℕ
node_text q e (Node.Line tall c) = own_line q e (kind_of tall) c
node_text q e (Node.Piece k) = own_line q e Kind.Piece k
node_text q e Node.Scrap = own_line q e Kind.Scrap 0

-- Each level below the root shortens a side.
abbrev pub level_most : ℕ
level_most = 1_000

-- What the listing may rely on: pieces in range, a part of a sheet, and a level that leaves room for those below.
pub record MayList (pieces : List Piece) (q : Section) : Type 0 where
  pub few : length pieces ≤ entries
  pub range : InRange (Lays pieces)
  pub inside : Inside q.width q.height side_max side_max
  pub low : q.level + (q.width + q.height) ≤ level_most

-- The nodes of a tree that dissects the part stand where they start, and end at `next`.
pub record Stands (pieces : List Piece) (s : List ℕ) (q : Section) (tree : Tree) (next : ℕ) : Type 0 where
  pub valid : Valid pieces tree q.width q.height
  pub found : Found s q.at (encode tree) next

-- What is answered for the tree whose nodes stand there: where they end, with its listing printed.
pub record PrintedAs (pieces : List Piece) (q : Section) (tree : Tree) (next : ℕ) (t : Text) (r : Option ℕ) (u : Text) : Type 0 where
  pub place : r ≡ Some next
  pub text : Writes t (listing pieces q.level tree q.width q.height) u

abbrev pub ListsThere : List Piece → List ℕ → Section → Text → Option ℕ → Text → Type 0
ListsThere pieces s q t r u = (tree : Tree) (next : ℕ) → Stands pieces s q tree next → PrintedAs pieces q tree next t r u
