-- The reader accepts exactly the encodings of trees that obey the rules, and adds up their leaves.
use Prim.Native.Nat.{ℕ, ◌+◌, ◌*◌, ◌<◌}
use mathlib.Core.Bool.{Bool}
use mathlib.Core.Path.{◌≡◌, refl, sym, ap, ap₂, subst, ◌∙◌}
use mathlib.Core.Logic.{◌↔◌}
use mathlib.Core.List.{List, ◌++◌, append-nil}
use native.Mathlib.Omega.{arith}
use lib.ListN.{length}
use lib.Seq.{drop-length}
use Rattle.std.specs.Prelude.{Option, Some, None}
use Rattle.laws.proofs.Choice.{chosen}
use Rattle.laws.proofs.Depth.{deep_keeps}
use Rattle.cutting.specs.Piece.{Piece, piece_at, Numbered}
use Rattle.cutting.specs.Dissection.{rest, crossed, part_width, part_height, Line}
use Rattle.cutting.specs.Tree.{Tree, Valid, earning, piece_area_of, scrap_area_of}
use Rattle.fields.specs.Number.{Bytes}
use Rattle.fields.specs.Format.{letter_p, letter_s, node_length}
use Rattle.nodes.specs.Encoding.{letter_of, node, encode}
use Rattle.nodes.specs.Reads.{Frame, frame, Found, tally_of, ReadAs}
use Rattle.nodes.specs.declared.Tally.{Tally}
use Rattle.nodes.specs.Inner.{Written, Part, tally_both, piece_tally, scrap_tally, near_part, far_part, behind_node, with_first, then_read, both_parts, part_by, letter_node, node_at, part_at}
use Rattle.nodes.specs.declared.Node.{Node}
use Rattle.nodes.proofs.Rules.{is_inside_says, is_piece_says, on_line, on_P, on_S, node_whole, Tells, node_tells}
use Rattle.nodes.proofs.Own.{part_by_lem, part_line}
use Rattle.nodes.proofs.Encoding.{found_both, found_first, found_second, stands_found, node-length, node_stands, line-length, valid_written, same_encoding}

-- What a piece's leaf adds is what its tree adds up to.
piece_tally_lem : (pieces : List Piece) (k x y v : ℕ) → Numbered pieces k x y v
    → piece_tally (piece_at pieces k).value x y ≡ tally_of pieces (Tree.piece_p k) x y
unfolding tally_of earning piece_area_of scrap_area_of
piece_tally_lem pieces k x y v n = ap (λ (a : ℕ). record { value = (piece_at pieces k).value; pieces = a; scrap = 0 }) (sym (ap₂ ◌*◌ n.width n.height))

-- What was read is a valid tree's nodes. They are its encoding where the row is one of bytes.
pub record ReadTree (pieces : List Piece) (s : List ℕ) (f : Frame) (next : ℕ) (t : Tally) : Type 0 where
  pub tree : Tree
  pub valid : Valid pieces tree f.width f.height
  pub place : next ≡ f.at + length (encode tree)
  pub found : Bytes s → Found s f.at (encode tree) next
  pub sums : t ≡ tally_of pieces tree f.width f.height

module _ (pieces : List Piece) (s : List ℕ) where
  abbrev Held : Frame → Part → Type 0
  Held f (Part.Read next t) = ReadTree pieces s f next t
  Held f Part.Broken = Unit {0}

  -- A line, from its two parts.
  module _ (f : Frame) (tall : Bool) (c : ℕ) (tells : Tells pieces s f (Some (Node.Line tall c))) where
    abbrev near : Frame
    near = near_part (behind_node f) tall c

    abbrev far : ℕ → Frame
    far = far_part (behind_node f) tall c

    line_tree : {m n : ℕ} {a b : Tally} → ReadTree pieces s near m a → ReadTree pieces s (far m) n b → ReadTree pieces s f n (tally_both a b)
    unfolding encode tally_of earning piece_area_of scrap_area_of
    line_tree x y =
        record {
          tree = Tree.line tall c x.tree y.tree;
          valid = Valid.line tells.1 x.valid y.valid;
          place = omega (arith, line-length (letter_of tall) c x.tree y.tree, x.place, y.place);
          found = λ r. found_both (stands_found r tells.0) (found_both (x.found r) (y.found r));
          sums = ap₂ tally_both x.sums y.sums;
        }

    second_held : {m : ℕ} {a : Tally} → ReadTree pieces s near m a → (q : Part) → Held (far m) q → Held f (with_first a q)
    unfolding with_first
    second_held x (Part.Read n b) y = line_tree x y
    second_held x Part.Broken y = tt

    line_held : (second : ℕ → Part) → ((m : ℕ) → Held (far m) (second m)) → (p : Part) → Held near p → Held f (then_read p second)
    unfolding then_read
    line_held second h (Part.Read m a) x = second_held x (second m) (h m)
    line_held second h Part.Broken x = tt

  node_held : (R : Frame → Part) → ((g : Frame) → Held g (R g)) → (f : Frame) (n : Option Node) → Tells pieces s f n → Held f (part_by pieces R f n)
  unfolding part_by both_parts encode tally_of earning piece_area_of scrap_area_of
  node_held R held f (Some (Node.Line tall c)) h = line_held f tall c h _ (λ m. held _) _ (held _)
  node_held R held f (Some (Node.Piece k)) h =
      record {
        tree = Tree.piece_p k;
        valid = Valid.piece_p h.1;
        place = omega (arith, node-length letter_p k);
        found = λ r. stands_found r h.0;
        sums = piece_tally_lem pieces k f.width f.height _ h.1;
      }
  node_held R held f (Some Node.Scrap) h =
      record { tree = Tree.scrap_s; valid = Valid.scrap_s; place = omega (arith, node-length letter_s 0); found = λ r. stands_found r h; sums = refl }
  node_held R held f None h = tt

  part_held : (f : Frame) → Held f (part_at pieces s f)
  unfolding part_at
  part_held = deep_keeps _ _ _ Held (λ f. tt) (λ R held f. node_held R held f (node_at pieces s f) (node_tells pieces s f refl))

  pub read_tree : (f : Frame) (next : ℕ) (t : Tally) → part_at pieces s f ≡ Part.Read next t → ReadTree pieces s f next t
  read_tree f next t e = subst (Held f) e (part_held f)

  -- What the reader accepts is the encoding of a valid tree.
  pub sound : Bytes s → (f : Frame) (next : ℕ) (t : Tally) → part_at pieces s f ≡ Part.Read next t → ReadAs pieces s f next t
  sound b f next t e =
      let r = read_tree f next t e in
      record { tree = r.tree; valid = r.valid; found = r.found b; sums = r.sums }

module _ (pieces : List Piece) (s : List ℕ) where
  -- Where a node's encoding stands, the reader finds that node.
  node_read : (f : Frame) (letter number next : ℕ) → number < 65_536 → Found s f.at (node letter number) next
      → letter_node pieces letter number f.width f.height ≡ node_at pieces s f
  node_read f letter number next h d = node_whole pieces s f (node_stands s f.at letter number next h d)

  module _ (at x y : ℕ) {next : ℕ} where
    pub line_read : (tall : Bool) (c r : ℕ) → c < 65_536 → Line (crossed tall x y) c r → Found s at (node (letter_of tall) c) next
        → node_at pieces s (frame at x y) ≡ Some (Node.Line tall c)
    line_read tall c r h l d =
        let line : Line (crossed tall x y) c (rest (crossed tall x y) c) = record { least = l.least; most = l.most; leaves = refl } in
        sym (on_line pieces _ c x y tall refl refl ∙ node_read (frame at x y) (letter_of tall) c next h d) ∙ chosen (is_inside_says _ c) _ _ line

    pub piece_read : {k v : ℕ} → k < 65_536 → Numbered pieces k x y v → Found s at (node letter_p k) next
        → node_at pieces s (frame at x y) ≡ Some (Node.Piece k)
    piece_read {k} h n d =
        let m : Numbered pieces k x y (piece_at pieces k).value =
        record { first = n.first; last = n.last; width = n.width; height = n.height; value = refl } in
        sym (on_P pieces _ k x y refl ∙ node_read (frame at x y) letter_p k next h d) ∙ chosen (is_piece_says pieces k x y) _ _ m

    pub scrap_read : Found s at (node letter_s 0) next → node_at pieces s (frame at x y) ≡ Some Node.Scrap
    scrap_read d = sym (on_S pieces _ 0 x y refl ∙ node_read (frame at x y) letter_s 0 next (omega arith) d)

  pub leaf_place : {at next : ℕ} (letter number : ℕ) → Found s at (node letter number) next → at + node_length ≡ next
  leaf_place letter number d = omega (arith, node-length letter number, d.place)

  -- Behind a line's node stand its two parts.
  pub parts_found : {at next : ℕ} (letter number : ℕ) (e : List ℕ) → Found s at (node letter number ++ e) next → Found s (at + node_length) e next
  parts_found {at} {next} letter number e d =
      subst (λ (k : ℕ). Found s (at + k) e next) (node-length letter number) (found_second (node letter number) e d)

  -- The encoding of a valid tree is accepted, and its leaves are added up.
  pub complete : {tree : Tree} {x y : ℕ} → Valid pieces tree x y → Written tree → (at next : ℕ) → Found s at (encode tree) next
      → part_at pieces s (frame at x y) ≡ Part.Read next (tally_of pieces tree x y)
  unfolding encode Written tally_of earning piece_area_of scrap_area_of part_by
  complete {x = x} {y = y} (Valid.line {tall = tall} {c = c} {r = r} {s = p} {t = q} l v u) w at next d =
      let after = found_second (node (letter_of tall) c) (encode p ++ encode q) d in
      let both = subst (λ (k : ℕ). Found s (at + k) (encode p ++ encode q) next) (node-length (letter_of tall) c) after in
      let m = at + node_length + length (encode p) in
      let first = complete v w.1 (at + node_length) m (found_first (encode p) (encode q) both) in
      let Ends : ℕ → ℕ → Type 0 = λ u v. part_at pieces s (frame m u v) ≡ Part.Read next (tally_of pieces q u v) in
      let other = complete u w.2 m next (found_second (encode p) (encode q) both) in
      let second = subst (λ (k : ℕ). Ends (part_width tall x k) (part_height tall y k)) l.leaves other in
      let here = line_read at x y tall c r w.0 l (found_first _ (encode p ++ encode q) d) in
      part_line pieces s (frame at x y) tall c m next _ _ here first second
  complete {x = x} {y = y} (Valid.piece_p {k = k} n) w at next d =
      part_by_lem pieces s (frame at x y) (piece_read at x y w n d)
      ∙ ap₂ Part.Read (leaf_place letter_p k d) (piece_tally_lem pieces k x y _ n)
  complete {x = x} {y = y} Valid.scrap_s w at next d =
      part_by_lem pieces s (frame at x y) (scrap_read at x y d)
      ∙ ap (λ (k : ℕ). Part.Read k (scrap_tally x y)) (leaf_place letter_s 0 d)

-- Exactly what the reader accepts (rule 8.10), and what it adds up, for a rectangle and pieces that the two-byte numbers can tell.
module _ (pieces : List Piece) (s : List ℕ) (f : Frame) (few : length pieces < 65_536) (wide : f.width < 65_536) (high : f.height < 65_536) where
  pub exactly : Bytes s → (next : ℕ) (t : Tally) → (part_at pieces s f ≡ Part.Read next t) ↔ ReadAs pieces s f next t
  exactly b next t = (
    sound pieces s b f next t,
    λ r. complete pieces s r.valid (valid_written few wide high r.valid) f.at next r.found ∙ ap (Part.Read next) (sym r.sums),
  )

  -- The tree that was read is the only one.
  pub one_tree : {m n : ℕ} {a b : Tally} (r : ReadAs pieces s f m a) (q : ReadAs pieces s f n b) → r.tree ≡ q.tree
  one_tree r q =
      (same_encoding pieces few r.tree q.tree _ _ wide high r.valid q.valid _ _ (sym r.found.bytes ∙ q.found.bytes)).0

-- The nodes of a tree, when they are read, give its end and its sums (rule 8.10).
pub gives_back : (pieces : List Piece) (t : Tree) (x y : ℕ) → length pieces < 65_536 → x < 65_536 → y < 65_536 → Valid pieces t x y
    → part_at pieces (encode t) (frame 0 x y) ≡ Part.Read (length (encode t)) (tally_of pieces t x y)
gives_back pieces t x y few wide high v =
    complete pieces (encode t) v (valid_written few wide high v) 0 (length (encode t)) (whole (encode t))
  where
    whole : (e : List ℕ) → Found e 0 e (length e)
    whole e = record { place = omega arith; bytes = sym (ap (λ (l : List ℕ). e ++ l) (drop-length e) ∙ append-nil e) }
