-- The text of a part by the node that the reader finds there.
use Prim.Native.Nat.{ℕ, ◌+◌}
use mathlib.Core.Bool.{Bool}
use mathlib.Core.Path.{◌≡◌, sym, ap, subst, ◌∙◌}
use mathlib.Core.List.{List, ◌++◌}
use native.Mathlib.Omega.{arith}
use Rattle.std.specs.Prelude.{Option, Some, None}
use Rattle.std.proofs.lemmas.Option.{none-some, same_Some}
use Rattle.cutting.specs.Piece.{Piece}
use Rattle.cutting.specs.Dissection.{rest, crossed, part_width, part_height}
use Rattle.cutting.specs.Tree.{Tree, Valid, earning}
use Rattle.fields.specs.Format.{node_length}
use Rattle.nodes.specs.Encoding.{letter_of, encode}
use Rattle.nodes.specs.Reads.{frame, Found, tally_of}
use Rattle.nodes.specs.Inner.{Written, node_at, part_at, reading, read_of}
use Rattle.nodes.specs.declared.Node.{Node}
use Rattle.nodes.specs.declared.Reading.{Reading}
use Rattle.nodes.proofs.Encoding.{found_first, found_second, valid_written}
use Rattle.nodes.proofs.Exactly.{line_read, piece_read, scrap_read, parts_found, complete}
use Rattle.printing.specs.Inner.{Writes}
use Rattle.printing.specs.declared.Text.{Text}
use Rattle.printing.proofs.Printed.{writes_both, writes_as}
use Rattle.listing.specs.Listing.{kind_of, listing}
use Rattle.listing.specs.Inner.{section, below_of, own_line, node_text, MayList, Stands, PrintedAs, ListsThere}
use Rattle.listing.specs.declared.Kind.{Kind}
use Rattle.listing.specs.declared.Section.{Section}

-- The node that a tree's nodes start with, and what stands behind it.
pub data Starts (pieces : List Piece) (s : List ℕ) (q : Section) (next : ℕ) : Tree → Option Node → Type 0 where
  line : {tall : Bool} {c middle : ℕ} {near far : Tree}
      → Stands pieces s (below_of q tall c (q.at + node_length)) near middle
      → Stands pieces s (below_of q tall (rest (crossed tall q.width q.height) c) middle) far next
      → Starts pieces s q next (Tree.line tall c near far) (Some (Node.Line tall c))
  piece : {k : ℕ} → Starts pieces s q next (Tree.piece_p k) (Some (Node.Piece k))
  scrap : Starts pieces s q next Tree.scrap_s (Some Node.Scrap)

module _ (pieces : List Piece) (s : List ℕ) where
  abbrev found : Section → Option Node
  found q = node_at pieces s (frame q.at q.width q.height)

  -- The near part of a line, by the code's numbers.
  one_listed : (q : Section) (tall : Bool) {near : Section} {c side : ℕ} {u v : Text} {first : Option ℕ} → side ≡ c
      → near ≡ below_of q tall side (q.at + node_length) → ListsThere pieces s near u first v → {a : Tree} {there : ℕ}
      → Stands pieces s (below_of q tall c (q.at + node_length)) a there
      → PrintedAs pieces (below_of q tall c (q.at + node_length)) a there u first v
  one_listed q tall {u = u} {v = v} {first = first} i near_is lists {a} {there} x =
      subst (λ (f : Section). ListsThere pieces s f u first v) (near_is ∙ ap (λ (n : ℕ). below_of q tall n (q.at + node_length)) i) lists a there x

  -- Where a valid tree's nodes stand, the reader finds its first.
  starts : {tree : Tree} {x y : ℕ} → Valid pieces tree x y → Written tree → (at level next : ℕ) → Found s at (encode tree) next
      → Starts pieces s (section at level x y) next tree (found (section at level x y))
  unfolding encode Written
  starts {x = x} {y = y} (Valid.line {tall = tall} {c = c} {r = r} {s = near} {t = far} l v u) w at level next d =
      let both = parts_found pieces s (letter_of tall) c (encode near ++ encode far) d in
      let here = line_read pieces s at x y tall c r w.0 l (found_first _ (encode near ++ encode far) d) in
      let beyond = subst (λ (k : ℕ). Valid pieces far (part_width tall x k) (part_height tall y k)) l.leaves u in
      subst (Starts pieces s (section at level x y) next (Tree.line tall c near far)) (sym here)
      (Starts.line (record { valid = v; found = found_first (encode near) (encode far) both })
      (record { valid = beyond; found = found_second (encode near) (encode far) both }))
  starts {x = x} {y = y} (Valid.piece_p {k = k} n) w at level next d =
      subst (Starts pieces s (section at level x y) next (Tree.piece_p k)) (sym (piece_read pieces s at x y w n d)) Starts.piece
  starts {x = x} {y = y} Valid.scrap_s w at level next d =
      subst (Starts pieces s (section at level x y) next Tree.scrap_s) (sym (scrap_read pieces s at x y d)) Starts.scrap

  module _ {q : Section} (may : MayList pieces q) where
    written : {tree : Tree} {next : ℕ} → Stands pieces s q tree next → Written tree
    written st = valid_written (omega (arith, may.few)) (omega (arith, may.inside.width_most)) (omega (arith, may.inside.height_most)) st.valid

    started : {n : Option Node} {tree : Tree} {next : ℕ} → found q ≡ n → Stands pieces s q tree next → Starts pieces s q next tree n
    started {n} {tree} {next} e st = subst (Starts pieces s q next tree) e (starts st.valid (written st) q.at q.level next st.found)

    -- Where a tree stands, it is read: its end and its sums.
    was_read : {tree : Tree} {next : ℕ} → Stands pieces s q tree next
        → read_of (part_at pieces s (frame q.at q.width q.height)) ≡ Some (reading next (tally_of pieces tree q.width q.height))
    unfolding read_of
    was_read {next = next} st = ap read_of (complete pieces s st.valid (written st) q.at next st.found)

    read_there : {tree : Tree} {next : ℕ} {r : Reading} → Some r ≡ read_of (part_at pieces s (frame q.at q.width q.height))
        → Stands pieces s q tree next → (r.at ≡ next) × (r.leaves.value ≡ earning pieces tree)
    unfolding tally_of
    read_there e st = let same = same_Some _ _ (e ∙ was_read st) in (ap (λ (r : Reading). r.at) same, ap (λ (r : Reading). r.leaves.value) same)

    -- Where a rule is broken, no tree stands.
    pub lists_none : {t u : Text} {r : Option ℕ} → found q ≡ None → ListsThere pieces s q t r u
    lists_none g tree next st = absurd (go (started g st))
      where
        go : {t : Tree} → Starts pieces s q next t None → ⊥
        go = elim [ ]

    pub lists_unread : {t u : Text} {r : Option ℕ} → None ≡ read_of (part_at pieces s (frame q.at q.width q.height)) → ListsThere pieces s q t r u
    lists_unread e tree next st = absurd (none-some _ (e ∙ was_read st))

    module _ {r : Reading} (e : Some r ≡ read_of (part_at pieces s (frame q.at q.width q.height))) {t : Text} where
      -- A leaf's line is its listing.
      pub lists_piece : {k : ℕ} {u : Text} → found q ≡ Some (Node.Piece k) → Writes t (node_text q r.leaves.value (Node.Piece k)) u
          → ListsThere pieces s q t (Some r.at) u
      unfolding node_text listing
      lists_piece {k} {u} g w tree next st = let there = read_there e st in go (started g st) there.0 there.1
        where
          go : {d : Tree} → Starts pieces s q next d (Some (Node.Piece k)) → r.at ≡ next → r.leaves.value ≡ earning pieces d
              → PrintedAs pieces q d next t (Some r.at) u
          go Starts.piece h j = record { place = ap Some h; text = writes_as (ap (λ (v : ℕ). own_line q v Kind.Piece k) j) w }

      pub lists_scrap : {u : Text} → found q ≡ Some Node.Scrap → Writes t (node_text q r.leaves.value Node.Scrap) u
          → ListsThere pieces s q t (Some r.at) u
      unfolding node_text listing
      lists_scrap {u} g w tree next st = let there = read_there e st in go (started g st) there.0 there.1
        where
          go : {d : Tree} → Starts pieces s q next d (Some Node.Scrap) → r.at ≡ next → r.leaves.value ≡ earning pieces d
              → PrintedAs pieces q d next t (Some r.at) u
          go Starts.scrap h j = record { place = ap Some h; text = writes_as (ap (λ (v : ℕ). own_line q v Kind.Scrap 0) j) w }

      -- A line's listing is its own line and those of its two parts, by the code's numbers.
      module _ {tall : Bool} {c side : ℕ} {u v : Text} {near : Section} {first : Option ℕ} (g : found q ≡ Some (Node.Line tall c))
          (i : side ≡ c) (near_is : near ≡ below_of q tall side (q.at + node_length)) (lists_near : ListsThere pieces s near u first v) where
        pub lists_line : {middle across beyond : ℕ} {w : Text} {far : Section} {last : Option ℕ} → first ≡ Some middle
            → across ≡ crossed tall q.width q.height → beyond ≡ rest across side → far ≡ below_of q tall beyond middle
            → Writes t (node_text q r.leaves.value (Node.Line tall c)) u → ListsThere pieces s far v last w → ListsThere pieces s q t last w
        unfolding node_text listing
        lists_line {middle} {across} {beyond} {w} {far} {last} m k l far_is own lists_far tree next st = go (started g st) (read_there e st).1
          where
            go : {d : Tree} → Starts pieces s q next d (Some (Node.Line tall c)) → r.leaves.value ≡ earning pieces d → PrintedAs pieces q d next t last w
            go (Starts.line {middle = there} {near = a} {far = b} x y) j =
                let one = one_listed q tall i near_is lists_near x in
                let same : middle ≡ there = same_Some _ _ (sym m ∙ one.place) in
                let farther = far_is ∙ (λ h. below_of q tall ((l ∙ (λ n. rest (k n) (i n))) h) (same h)) in
                let two = subst (λ (f : Section). ListsThere pieces s f v last w) farther lists_far b next y in
                record {
                  place = two.place;
                  text = writes_both _ _ (writes_as (ap (λ (z : ℕ). own_line q z (kind_of tall) c) j) own) (writes_both _ _ one.text two.text);
                }

        -- The near part's tree would stand, and be listed.
        pub lists_near_none : {w : Text} {last : Option ℕ} → None ≡ first → ListsThere pieces s q t last w
        lists_near_none {w} {last} m tree next st = go (started g st)
          where
            go : {d : Tree} → Starts pieces s q next d (Some (Node.Line tall c)) → PrintedAs pieces q d next t last w
            go (Starts.line {middle = there} x y) = absurd (none-some there (m ∙ (one_listed q tall i near_is lists_near x).place))
