-- Trees as the plan file has them: V and H for lines, P for a piece by its number, S for scrap (rule 8.5).
use Rattle.std.specs.Prelude.{ℕ, ◌+◌, ◌*◌, ◌≡◌, Bool, List}
use Rattle.cutting.specs.Piece.{Piece, piece_at, Numbered}
use Rattle.cutting.specs.Dissection.{rest, crossed, part_width, part_height, Line}

-- The line comes first, then its near part, then its far part (rule 8.6).
pub data Tree : Type 0 where
  -- A vertical line, or a horizontal one (`tall`), at its number.
  line : (tall : Bool) → ℕ → Tree → Tree → Tree
  piece_p : ℕ → Tree
  scrap_s : Tree

-- The tree dissects x by y: each line lies inside its rectangle, each piece number is one of 1 to n and of exactly this size.
pub data Valid (pieces : List Piece) : Tree → ℕ → ℕ → Type 0 where
  line : {tall : Bool} {x y c r : ℕ} {s t : Tree}
      → Line (crossed tall x y) c r
      → Valid pieces s (part_width tall x c) (part_height tall y c)
      → Valid pieces t (part_width tall x r) (part_height tall y r)
      → Valid pieces (Tree.line tall c s t) x y
  piece_p : {x y k v : ℕ} → Numbered pieces k x y v → Valid pieces (Tree.piece_p k) x y
  scrap_s : {x y : ℕ} → Valid pieces Tree.scrap_s x y

-- What the leaves earn together: a piece its value, scrap nothing (rules 2.2 to 2.5).
unfoldable pub earning : List Piece → Tree → ℕ
earning pieces (Tree.line tall c s t) = earning pieces s + earning pieces t
earning pieces (Tree.piece_p k) = (piece_at pieces k).value
earning pieces Tree.scrap_s = 0

-- How many nodes it has: each line, piece and scrap is one.
unfoldable pub nodes : Tree → ℕ
nodes (Tree.line tall c s t) = 1 + nodes s + nodes t
nodes (Tree.piece_p k) = 1
nodes Tree.scrap_s = 1

-- The area of all its piece leaves (rule 2.7).
unfoldable pub piece_area_of : List Piece → Tree → ℕ
piece_area_of pieces (Tree.line tall c s t) = piece_area_of pieces s + piece_area_of pieces t
piece_area_of pieces (Tree.piece_p k) = (piece_at pieces k).width * (piece_at pieces k).height
piece_area_of pieces Tree.scrap_s = 0

-- The area of all its scrap leaves, where the tree is laid on x by y (rule 2.7).
unfoldable pub scrap_area_of : Tree → ℕ → ℕ → ℕ
scrap_area_of (Tree.line tall c s t) x y =
    let r = rest (crossed tall x y) c in
    scrap_area_of s (part_width tall x c) (part_height tall y c) + scrap_area_of t (part_width tall x r) (part_height tall y r)
scrap_area_of (Tree.piece_p k) x y = 0
scrap_area_of Tree.scrap_s x y = x * y

-- Some tree that dissects x by y earns e.
pub record TreeEarns (pieces : List Piece) (x y e : ℕ) : Type 0 where
  pub tree : Tree
  pub valid : Valid pieces tree x y
  pub earns : earning pieces tree ≡ e
