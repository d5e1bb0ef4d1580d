-- The nodes of a tree: that of a line, then all of its near part, then all of its far part (rule 8.6).
use Rattle.std.specs.Prelude.{ℕ, List, ◌∷◌, ◌++◌, Bool, cond}
use Rattle.cutting.specs.Tree.{Tree}
use Rattle.fields.specs.Format.{letter_v, letter_h, letter_p, letter_s}
use Rattle.fields.specs.Number.{bytes2}

-- A node: its letter, and its number in two bytes (rule 8.5).
unfoldable pub node : ℕ → ℕ → List ℕ
node letter number = letter ∷ bytes2 number

-- The letter of a line: V of a vertical one, H of a horizontal one.
abbrev pub letter_of : Bool → ℕ
letter_of tall = cond tall letter_h letter_v

-- Each node has its letter and its number (rule 8.5), in the order of the file (rule 8.6).
unfoldable pub encode : Tree → List ℕ
encode (Tree.line tall c s t) = node (letter_of tall) c ++ (encode s ++ encode t)
encode (Tree.piece_p k) = node letter_p k
encode Tree.scrap_s = node letter_s 0
