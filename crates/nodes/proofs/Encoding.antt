-- The encoding at a place of a row of bytes, that no two trees have the same one, and its length.
use Prim.Native.Nat.{ℕ, ◌+◌, ◌*◌, ◌/◌, ◌%◌, ◌-◌, ◌≤◌, ◌<◌}
use mathlib.Core.Bool.{Bool, true, false, cond}
use mathlib.Core.Path.{◌≡◌, refl, sym, ap, ap₂, subst, ◌∙◌}
use mathlib.Core.List.{List, [], ◌∷◌, ◌++◌, append_assoc}
use native.Mathlib.Omega.{arith}
use native.Mathlib.Nat.{add-zero}
use native.Mathlib.Numerals.{add-one}
use lib.ListN.{length, get_or, drop, length-append, length-drop, take-append-drop}
use lib.Seq.{drop-cons, drop-drop, drop-append_seam, get_or-drop}
use Rattle.cutting.specs.Piece.{Piece}
use Rattle.cutting.specs.Dissection.{rest, crossed, part_width, part_height, Line}
use Rattle.cutting.specs.Tree.{Tree, Valid, nodes}
use Rattle.fields.specs.Number.{number2_of, bytes2, Bytes}
use Rattle.fields.proofs.Number.{number2_drop, number2_bytes, bytes2_number}
use Rattle.nodes.specs.Encoding.{letter_of, node, encode}
use Rattle.fields.specs.Format.{letter_p, letter_s, node_length}
use Rattle.nodes.specs.Inner.{Written}
use Rattle.nodes.specs.Reads.{Found}

-- One encoding behind another.
pub found_both : {s : List ℕ} {at m n : ℕ} {e d : List ℕ} → Found s at e m → Found s m d n → Found s at (e ++ d) n
found_both {s} {at} {m} {n} {e} {d} f g =
    record {
      place = omega (arith, length-append e d, f.place, g.place);
      bytes = f.bytes ∙ (ap (λ (l : List ℕ). e ++ l) g.bytes ∙ sym (append_assoc e d (drop n s)));
    }

pub found_second : {s : List ℕ} {at n : ℕ} (e d : List ℕ) → Found s at (e ++ d) n → Found s (at + length e) d n
found_second {s} {at} {n} e d f =
    record {
      place = omega (arith, length-append e d, f.place);
      bytes = sym (drop-drop (length e) at s) ∙ (ap (drop (length e)) (f.bytes ∙ append_assoc e d (drop n s)) ∙ drop-append_seam e (d ++ drop n s));
    }

pub found_first : {s : List ℕ} {at n : ℕ} (e d : List ℕ) → Found s at (e ++ d) n → Found s at e (at + length e)
found_first {s} {at} {n} e d f =
    record { place = refl; bytes = f.bytes ∙ (append_assoc e d (drop n s) ∙ ap (λ (l : List ℕ). e ++ l) (sym (found_second e d f).bytes)) }

pub node-length : (letter number : ℕ) → length (node letter number) ≡ node_length
unfolding node bytes2
node-length letter number = refl

-- A whole node of a row of bytes is the encoding of its letter and number.
node_found : (s : List ℕ) (at : ℕ) → Bytes s → at + node_length ≤ length s → Found s at (node (get_or s at 0) (number2_of s (at + 1))) (at + node_length)
unfolding node
node_found s at b h =
    let two : bytes2 (number2_of s (at + 1)) ++ drop (at + 1 + 2) s ≡ drop (at + 1) s =
    ap₂ ◌++◌ (bytes2_number s (at + 1) b (omega arith)) (sym (drop-drop 2 (at + 1) s)) ∙ take-append-drop 2 (drop (at + 1) s) in
    let place : at + 1 + 2 ≡ at + node_length = omega arith in
    let after = ap (λ (k : ℕ). drop k s) (sym (add-one at)) ∙ (sym two ∙ ap (λ (k : ℕ). bytes2 (number2_of s (at + 1)) ++ drop k s) place) in
    record {
      place = omega (arith, node-length (get_or s at 0) (number2_of s (at + 1)));
      bytes = drop-cons s at 0 (omega arith) ∙ ap (λ (l : List ℕ). get_or s at 0 ∷ l) after;
    }

-- And where the encoding of a node stands, there is a whole node with this letter and number.
pub record NodeStands (s : List ℕ) (at L n : ℕ) : Type 0 where
  pub whole : at + node_length ≤ length s
  pub letter : L ≡ get_or s at 0
  pub number : n ≡ number2_of s (at + 1)

pub stands_found : {s : List ℕ} {at L n : ℕ} → Bytes s → NodeStands s at L n → Found s at (node L n) (at + node_length)
stands_found {s} {at} b m = subst (λ (l : List ℕ). Found s at l (at + node_length)) (sym (ap₂ node m.letter m.number)) (node_found s at b m.whole)

pub node_stands : (s : List ℕ) (at letter number n : ℕ) → number < 65_536 → Found s at (node letter number) n → NodeStands s at letter number
unfolding node
node_stands s at letter number n h f =
    record {
      whole = omega (arith, ap length f.bytes, length-append (node letter number) (drop n s), node-length letter number, length-drop at s);
      letter = sym (ap (λ (l : List ℕ). get_or l 0 0) f.bytes) ∙ (get_or-drop at s 0 0 ∙ ap (λ (k : ℕ). get_or s k 0) (add-zero at));
      number =
          sym (number2_bytes number (drop n s) h)
          ∙ (ap (λ (l : List ℕ). number2_of (drop 1 l) 0) (sym f.bytes)
          ∙ (ap (λ (l : List ℕ). number2_of l 0) (drop-drop 1 at s) ∙ sym (number2_drop s (at + 1))));
    }

-- No two trees have the same encoding, whatever follows.
same_node : (letter c d : ℕ) (X Y : List ℕ) → c < 65_536 → d < 65_536 → node letter c ++ X ≡ node letter d ++ Y → (c ≡ d) × (X ≡ Y)
unfolding node bytes2
same_node letter c d X Y h k e =
    let low : c % 256 ≡ d % 256 = cc in
    let high : c / 256 % 256 ≡ d / 256 % 256 = cc in
    let rest : X ≡ Y = cc in
    (omega arith, rest)

-- The letter that an encoding starts with tells what the tree is.
abbrev first_letter : Tree → ℕ
first_letter (Tree.line tall c s t) = letter_of tall
first_letter (Tree.piece_p k) = letter_p
first_letter Tree.scrap_s = letter_s

starts : (t : Tree) (X : List ℕ) → get_or (encode t ++ X) 0 0 ≡ first_letter t
unfolding encode node
starts (Tree.line tall c s t) X = refl
starts (Tree.piece_p k) X = refl
starts Tree.scrap_s X = refl

same_letter : (s t : Tree) (X Y : List ℕ) → encode s ++ X ≡ encode t ++ Y → first_letter s ≡ first_letter t
same_letter s t X Y e = sym (starts s X) ∙ (ap (λ (l : List ℕ). get_or l 0 0) e ∙ starts t Y)

line_apart : (tall : Bool) → (letter_of tall ≡ letter_p → ⊥) × (letter_of tall ≡ letter_s → ⊥)
line_apart true = ((λ e. omega arith), (λ e. omega arith))
line_apart false = ((λ e. omega arith), (λ e. omega arith))

-- A number of two bytes stays one, whichever side it is.
part_below : (b : Bool) {m n : ℕ} → m < 65_536 → n < 65_536 → cond b m n < 65_536
part_below true h k = h
part_below false h k = k

below_side : {c x : ℕ} → c ≤ x - 1 → x < 65_536 → c < 65_536
below_side h k = omega arith

left_below : {c x r : ℕ} → Line x c r → x < 65_536 → r < 65_536
left_below l k = omega (arith, l.leaves)

abbrev Same : Tree → Tree → List ℕ → List ℕ → Type 0
Same s t X Y = (s ≡ t) × (X ≡ Y)

module _ (pieces : List Piece) (few : length pieces < 65_536) where
  -- What a valid line is: where it lies, and its two parts.
  record LineValid (tall : Bool) (c : ℕ) (s t : Tree) (x y : ℕ) : Type 0 where
    pub inside : Line (crossed tall x y) c (rest (crossed tall x y) c)
    pub near : Valid pieces s (part_width tall x c) (part_height tall y c)
    pub far : Valid pieces t (part_width tall x (rest (crossed tall x y) c)) (part_height tall y (rest (crossed tall x y) c))

  line_valid : {tall : Bool} {c : ℕ} {s t : Tree} {x y : ℕ} → Valid pieces (Tree.line tall c s t) x y → LineValid tall c s t x y
  line_valid {t = t} {x = x} {y = y} (Valid.line {tall = tall} l m n) =
      record {
        inside = record { least = l.least; most = l.most; leaves = refl };
        near = m;
        far = subst (λ (k : ℕ). Valid pieces t (part_width tall x k) (part_height tall y k)) l.leaves n;
      }

  number_below : {k x y : ℕ} → Valid pieces (Tree.piece_p k) x y → k < 65_536
  number_below (Valid.piece_p n) = omega (arith, n.last)

  -- The trees are valid on one rectangle: only so do a line's second parts lie on one too.
  abbrev Told : Tree → Tree → Type 0
  Told s t = (x y : ℕ) → x < 65_536 → y < 65_536 → Valid pieces s x y → Valid pieces t x y → (X Y : List ℕ) → encode s ++ X ≡ encode t ++ Y → Same s t X Y

  -- Two lines of one direction: the numbers first, then the two parts.
  same_line : (tall : Bool) (c d : ℕ) (p q u v : Tree) → Told p u → Told q v → (x y : ℕ) → x < 65_536 → y < 65_536
      → LineValid tall c p q x y → LineValid tall d u v x y → (X Y : List ℕ)
      → (node (letter_of tall) c ++ (encode p ++ encode q)) ++ X ≡ (node (letter_of tall) d ++ (encode u ++ encode v)) ++ Y
      → Same (Tree.line tall c p q) (Tree.line tall d u v) X Y
  same_line tall c d p q u v near far x y h k m n X Y e =
      let side = part_below tall k h in
      let low = below_side m.inside.most side in
      let o = same_node (letter_of tall) c d (encode p ++ encode q ++ X) (encode u ++ encode v ++ Y) low (below_side n.inside.most side)
      (sym (append_assoc (node (letter_of tall) c) (encode p ++ encode q) X) ∙ (e ∙ append_assoc (node (letter_of tall) d) (encode u ++ encode v) Y)) in
      let other = subst (λ (i : ℕ). LineValid tall i u v x y) (sym o.0) n in
      let a = near (part_width tall x c) (part_height tall y c) (part_below tall h low) (part_below tall low k) m.near other.near
      (encode q ++ X) (encode v ++ Y) (sym (append_assoc (encode p) (encode q) X) ∙ (o.1 ∙ append_assoc (encode u) (encode v) Y)) in
      let r = rest (crossed tall x y) c in
      let less = left_below m.inside side in
      let b = far (part_width tall x r) (part_height tall y r) (part_below tall h less) (part_below tall less k) m.far other.far X Y a.1 in
      (cc (o.0, a.0, b.0), b.1)

  pub same_encoding : (s t : Tree) → Told s t
  unfolding encode
  same_encoding (Tree.line true c p q) (Tree.line true d u v) x y h k m n X Y e =
      same_line true c d p q u v (same_encoding p u) (same_encoding q v) x y h k (line_valid m) (line_valid n) X Y e
  same_encoding (Tree.line false c p q) (Tree.line false d u v) x y h k m n X Y e =
      same_line false c d p q u v (same_encoding p u) (same_encoding q v) x y h k (line_valid m) (line_valid n) X Y e
  same_encoding (Tree.line true c p q) (Tree.line false d u v) x y h k m n X Y e =
      absurd (omega (arith, same_letter (Tree.line true c p q) (Tree.line false d u v) X Y e))
  same_encoding (Tree.line false c p q) (Tree.line true d u v) x y h k m n X Y e =
      absurd (omega (arith, same_letter (Tree.line false c p q) (Tree.line true d u v) X Y e))
  same_encoding (Tree.line tall c p q) (Tree.piece_p j) x y h k m n X Y e =
      absurd ((line_apart tall).0 (same_letter (Tree.line tall c p q) (Tree.piece_p j) X Y e))
  same_encoding (Tree.line tall c p q) Tree.scrap_s x y h k m n X Y e = absurd ((line_apart tall).1 (same_letter (Tree.line tall c p q) Tree.scrap_s X Y e))
  same_encoding (Tree.piece_p i) (Tree.line tall d u v) x y h k m n X Y e =
      absurd ((line_apart tall).0 (sym (same_letter (Tree.piece_p i) (Tree.line tall d u v) X Y e)))
  same_encoding Tree.scrap_s (Tree.line tall d u v) x y h k m n X Y e = absurd ((line_apart tall).1 (sym (same_letter Tree.scrap_s (Tree.line tall d u v) X Y e)))
  same_encoding (Tree.piece_p i) Tree.scrap_s x y h k m n X Y e = absurd (omega (arith, same_letter (Tree.piece_p i) Tree.scrap_s X Y e))
  same_encoding Tree.scrap_s (Tree.piece_p j) x y h k m n X Y e = absurd (omega (arith, same_letter Tree.scrap_s (Tree.piece_p j) X Y e))
  same_encoding (Tree.piece_p i) (Tree.piece_p j) x y h k m n X Y e =
      let r = same_node letter_p i j X Y (number_below m) (number_below n) e in
      (ap Tree.piece_p r.0, r.1)
  same_encoding Tree.scrap_s Tree.scrap_s x y h k m n X Y e = (refl, (same_node letter_s 0 0 X Y (omega arith) (omega arith) e).1)

  -- Different trees that dissect one rectangle never have the same nodes (rules 8.5 and 8.6).
  pub encode_injective : (s t : Tree) (x y : ℕ) → x < 65_536 → y < 65_536 → Valid pieces s x y → Valid pieces t x y → encode s ≡ encode t → s ≡ t
  encode_injective s t x y h k m n e = (same_encoding s t x y h k m n [] [] (ap (λ (l : List ℕ). l ++ []) e)).0

-- The numbers of a tree that dissects a rectangle of sides, and pieces, below 65,536 have their two bytes.
pub valid_written : {pieces : List Piece} {t : Tree} {x y : ℕ} → length pieces < 65_536 → x < 65_536 → y < 65_536 → Valid pieces t x y → Written t
unfolding Written
valid_written n h k (Valid.line {tall = tall} l s t) =
    let side = part_below tall k h in
    let low = below_side l.most side in
    let less = left_below l side in
    (low, valid_written n (part_below tall h low) (part_below tall low k) s, valid_written n (part_below tall h less) (part_below tall less k) t)
valid_written n h k (Valid.piece_p m) = omega (arith, m.last)
valid_written n h k Valid.scrap_s = tt

-- The length of a line's nodes, and of all nodes of a tree: there is one at least.
pub line-length : (letter c : ℕ) (s t : Tree) → length (node letter c ++ (encode s ++ encode t)) ≡ node_length + length (encode s) + length (encode t)
line-length letter c s t = omega (arith, length-append (node letter c) (encode s ++ encode t), length-append (encode s) (encode t), node-length letter c)

pub encode-length : (t : Tree) → length (encode t) ≡ node_length * nodes t
unfolding encode nodes
encode-length (Tree.line tall c s t) = omega (arith, line-length (letter_of tall) c s t, encode-length s, encode-length t)
encode-length (Tree.piece_p k) = node-length letter_p k
encode-length Tree.scrap_s = node-length letter_s 0

pub encode_least : (t : Tree) → node_length ≤ length (encode t)
unfolding encode
encode_least (Tree.line tall c s t) = omega (arith, line-length (letter_of tall) c s t)
encode_least (Tree.piece_p k) = omega (arith, node-length letter_p k)
encode_least Tree.scrap_s = omega (arith, node-length letter_s 0)
