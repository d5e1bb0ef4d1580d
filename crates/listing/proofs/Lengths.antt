-- How long the lines are, and the listing of a tree by the number of its nodes.
use Prim.Native.Nat.{ℕ, suc, ◌+◌, ◌*◌, ◌^◌, ◌≤◌, ◌<◌}
use mathlib.Core.Bool.{Bool, true, false}
use mathlib.Core.Path.{ap}
use mathlib.Core.List.{List, [], ◌∷◌}
use native.Mathlib.Omega.{arith}
use lib.ListN.{length, length-append}
use Rattle.cutting.specs.Limits.{side_max}
use Rattle.cutting.specs.Piece.{Piece, Lays, InRange}
use Rattle.cutting.specs.Dissection.{crossed, part_width, part_height}
use Rattle.cutting.specs.Tree.{Tree, Valid, earning, nodes}
use Rattle.cutting.proofs.Bound.{most_mono, earning_bound}
use Rattle.cutting.proofs.Tree.{dissection_of}
use Rattle.printing.specs.Decimal.{decimal}
use Rattle.printing.proofs.Decimal.{decimal-length}
use Rattle.listing.specs.Line.{spaced, ended, word_of, line_text, head_text, refused_text}
use Rattle.listing.specs.Listing.{kind_of, listing}
use Rattle.listing.specs.declared.Kind.{Kind}

-- Numbers with as many digits, and what stands behind them.
spaced-length : (k n : ℕ) → n < 10 ^ suc k → length (spaced n) ≤ suc k + 1
unfolding spaced
spaced-length k n h = omega (arith, length-append (decimal n) (32 ∷ []), decimal-length k n h)

ended-length : (k n : ℕ) → n < 10 ^ suc k → length (ended n) ≤ suc k + 1
unfolding ended
ended-length k n h = omega (arith, length-append (decimal n) (10 ∷ []), decimal-length k n h)

word_length : (kind : Kind) → length (word_of kind) ≤ 11
unfolding word_of
word_length Kind.Vertical = omega arith
word_length Kind.Horizontal = omega arith
word_length Kind.Piece = omega arith
word_length Kind.Scrap = omega arith

-- A line: four numbers of three digits and one of ten, a space behind each but the last, the word and the line feed.
abbrev pub line_most : ℕ
line_most = 38

pub line-length : (level x y e : ℕ) (kind : Kind) (number : ℕ) → level < 1_000 → x < 1_000 → y < 1_000 → e < 10_000_000_000 → number < 1_000
    → length (line_text level x y e kind number) ≤ line_most
unfolding line_text
line-length level x y e kind number h i j k l =
    simp length-append
    (omega (arith, spaced-length 2 level h, spaced-length 2 x i, spaced-length 2 y j, spaced-length 9 e k, word_length kind, ended-length 2 number l))

-- The first line, with numbers of ten digits; a refusal's, whose number has one.
abbrev pub head_most : ℕ
head_most = 35

pub head-length : (value worked : ℕ) → value < 10_000_000_000 → worked < 10_000_000_000 → length (head_text value worked) ≤ head_most
unfolding head_text
head-length value worked h k =
    simp length-append (omega (arith, spaced-length 9 value h, ended-length 9 worked k))

pub refused-length : (number : ℕ) → number < 100 → length (refused_text number) ≤ head_most
unfolding refused_text
refused-length number h = simp length-append (omega (arith, ended-length 1 number h))

-- Each node has its line (rule 9.5): a tree on a sheet has no longer a listing than its nodes allow.
module _ {pieces : List Piece} (range : InRange (Lays pieces)) (few : length pieces < 1_000) where
  top_length : {t : Tree} (level x y : ℕ) (kind : Kind) (number : ℕ) → level + (x + y) < 1_000 → x ≤ side_max → y ≤ side_max → number < 1_000 → Valid pieces t x y
      → length (line_text level x y (earning pieces t) kind number) ≤ line_most
  top_length {t} level x y kind number low wide high h v =
      line-length level x y (earning pieces t) kind number (omega arith) (omega arith) (omega arith)
      (omega (arith, earning_bound range (dissection_of v), most_mono x y side_max side_max wide high))
      h

  pub listing-length : {t : Tree} (level x y : ℕ) → level + (x + y) < 1_000 → x ≤ side_max → y ≤ side_max → Valid pieces t x y
      → length (listing pieces level t x y) ≤ line_most * nodes t
  unfolding listing nodes
  listing-length level x y low wide high (Valid.line {tall = tall} {c = c} {r = r} {s = s} {t = t} l v w) =
      let near = part tall c (omega (arith, l.least, l.most)) in
      let far = part tall r (omega (arith, l.least, l.most, l.leaves)) in
      let top = top_length level x y (kind_of tall) c low wide high (omega (arith, l.most, side tall)) (Valid.line {tall = tall} l v w) in
      let first = listing-length (level + 1) (part_width tall x c) (part_height tall y c) near.0 near.1 near.2 v in
      let second = listing-length (level + 1) (part_width tall x r) (part_height tall y r) far.0 far.1 far.2 w in
      let same = ap (λ (k : ℕ). length (listing pieces (level + 1) t (part_width tall x k) (part_height tall y k))) l.leaves in
      simp length-append (omega (arith, top, first, second, same))
    where
      side : (tall : Bool) → crossed tall x y ≤ side_max
      side true = high
      side false = wide

      part : (tall : Bool) (k : ℕ) → k < crossed tall x y
          → (level + 1 + (part_width tall x k + part_height tall y k) < 1_000) × (part_width tall x k ≤ side_max) × (part_height tall y k ≤ side_max)
      part true k h = (omega arith, wide, omega arith)
      part false k h = (omega arith, omega arith, high)
  listing-length level x y low wide high (Valid.piece_p {k = k} n) =
      omega (arith, top_length level x y Kind.Piece k low wide high (omega (arith, n.last)) (Valid.piece_p n))
  listing-length level x y low wide high Valid.scrap_s = omega (arith, top_length level x y Kind.Scrap 0 low wide high (omega arith) Valid.scrap_s)
