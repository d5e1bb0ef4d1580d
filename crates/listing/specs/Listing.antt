-- The listing of a tree: the lines of its nodes, as they stand in the file (rule 9.5).
use Rattle.std.specs.Prelude.{ℕ, ◌+◌, Bool, cond, List, ◌++◌}
use Rattle.cutting.specs.Piece.{Piece}
use Rattle.cutting.specs.Dissection.{rest, crossed, part_width, part_height}
use Rattle.cutting.specs.Tree.{Tree, earning}
use Rattle.listing.specs.Line.{line_text}
use Rattle.listing.specs.declared.Kind.{Kind}

-- The kind of a line.
abbrev pub kind_of : Bool → Kind
kind_of tall = cond tall Kind.Horizontal Kind.Vertical

-- The lines of a tree that is laid on x by y, in the order of rule 8.6; a line's parts stand one level below it.
unfoldable pub listing : List Piece → ℕ → Tree → ℕ → ℕ → List ℕ
listing pieces level (Tree.line tall c s t) x y =
    let r = rest (crossed tall x y) c in
    line_text level x y (earning pieces (Tree.line tall c s t)) (kind_of tall) c
    ++ (listing pieces (level + 1) s (part_width tall x c) (part_height tall y c) ++ listing pieces (level + 1) t (part_width tall x r) (part_height tall y r))
listing pieces level (Tree.piece_p k) x y = line_text level x y (earning pieces (Tree.piece_p k)) Kind.Piece k
listing pieces level Tree.scrap_s x y = line_text level x y (earning pieces Tree.scrap_s) Kind.Scrap 0
