-- When a part is read as a tree: the bytes are the tree's encoding, and the tree obeys the rules.
use Rattle.std.specs.Prelude.{ℕ, ◌+◌, ◌≡◌, List, ◌++◌, length, drop}
use Rattle.cutting.specs.Piece.{Piece}
use Rattle.cutting.specs.Tree.{Tree, Valid, earning, piece_area_of, scrap_area_of}
use Rattle.nodes.specs.Encoding.{encode}
use Rattle.nodes.specs.declared.Tally.{Tally}

-- A part to be read: where its nodes start, and its sides.
pub record Frame : Type 0 where
  pub at : ℕ
  pub width : ℕ
  pub height : ℕ

-- The part of x by y whose nodes start at a place.
abbrev pub frame : ℕ → ℕ → ℕ → Frame
frame at x y = record { at = at; width = x; height = y }

-- The bytes of s from `at` up to `next` are those of e.
pub record Found (s : List ℕ) (at : ℕ) (e : List ℕ) (next : ℕ) : Type 0 where
  pub place : next ≡ at + length e
  pub bytes : drop at s ≡ e ++ drop next s

-- What the leaves of a tree add up to, laid on x by y.
unfoldable pub tally_of : List Piece → Tree → ℕ → ℕ → Tally
tally_of pieces t x y = record { value = earning pieces t; pieces = piece_area_of pieces t; scrap = scrap_area_of t x y }

-- From f on stand the nodes of a tree that dissects the part; they end at `next` and their leaves add up to `tally`.
pub record ReadAs (pieces : List Piece) (s : List ℕ) (f : Frame) (next : ℕ) (tally : Tally) : Type 0 where
  pub tree : Tree
  pub valid : Valid pieces tree f.width f.height
  pub found : Found s f.at (encode tree) next
  pub sums : tally ≡ tally_of pieces tree f.width f.height
