-- What the readers answer, by the answers for a node and for a line's two parts.
use Prim.Native.Nat.{ℕ, ◌+◌, ◌*◌, ◌≤◌, ◌<◌}
use mathlib.Core.Bool.{Bool}
use mathlib.Core.Path.{◌≡◌, refl, sym, ap, subst, ◌∙◌}
use mathlib.Core.List.{List}
use native.Mathlib.Omega.{arith}
use Rattle.std.specs.Prelude.{Option, Some, None}
use Rattle.std.proofs.lemmas.Option.{none-some, same_Some}
use Rattle.cutting.specs.Limits.{value_max}
use Rattle.cutting.specs.Piece.{Piece, Lays, InRange}
use Rattle.cutting.specs.Dissection.{rest, crossed, part_width, part_height}
use Rattle.cutting.proofs.Bound.{earning_bound}
use Rattle.cutting.proofs.Tree.{dissection_of, areas, line_far}
use Rattle.nodes.specs.Reads.{Frame, frame, tally_of}
use Rattle.nodes.specs.declared.Tally.{Tally}
use Rattle.nodes.specs.Inner.{Part, tally, tally_both, near_part, far_part, with_first, then_read, both_parts, part_by, node_at, part_at, no_leaves, reading, read_of, ReadsTo, RoomFor, MayRead, MayReadLine}
use Rattle.nodes.specs.declared.Node.{Node}
use Rattle.nodes.specs.declared.Reading.{Reading}
use Rattle.nodes.proofs.Own.{part_by_lem}
use Rattle.nodes.proofs.Encoding.{encode_least}
use Rattle.nodes.proofs.Exactly.{read_tree}
use Rattle.nodes.proofs.Room.{PartIs, both_areas, part_least, part_ready}

-- The leaves of one part and of another.
tally_three : (b s t : Tally) → tally_both (tally_both b s) t ≡ tally_both b (tally_both s t)
tally_three b s t =
    let value : b.value + s.value + t.value ≡ b.value + (s.value + t.value) = omega arith in
    let pieces : b.pieces + s.pieces + t.pieces ≡ b.pieces + (s.pieces + t.pieces) = omega arith in
    let scrap : b.scrap + s.scrap + t.scrap ≡ b.scrap + (s.scrap + t.scrap) = omega arith in
    λ i. tally (value i) (pieces i) (scrap i)

-- A part that was read, by what its reader answered.
pub record WasRead (p : Part) (before : Tally) (after : Reading) : Type 0 where
  pub leaves : Tally
  pub read : p ≡ Part.Read after.at leaves
  pub sums : after.leaves ≡ tally_both before leaves

pub was_read : (p : Part) {before : Tally} {after : Reading} → ReadsTo before after (Some tt) p → WasRead p before after
was_read (Part.Read next t) (ReadsTo.read e h) =
    record { leaves = t; read = ap (λ (r : Reading). Part.Read r.at t) (sym h); sums = ap (λ (r : Reading). r.leaves) h }
was_read Part.Broken (ReadsTo.broken e) = absurd (none-some tt (sym e))

-- The second part of a line, behind the first.
both_answer : (q : Part) {before middle : Tally} {after : Reading} {r : Option (Unit {0})} (a : Tally) → middle ≡ tally_both before a
    → ReadsTo middle after r q → ReadsTo before after r (with_first a q)
unfolding with_first
both_answer (Part.Read next b) {before = before} a e (ReadsTo.read g h) =
    ReadsTo.read g (h ∙ ap (reading next) (ap (λ (t : Tally). tally_both t b) e ∙ tally_three before a b))
both_answer Part.Broken a e (ReadsTo.broken g) = ReadsTo.broken g

module _ (pieces : List Piece) (s : List ℕ) where
  abbrev part : Frame → Part
  part = part_at pieces s

  -- No part ends at 0, and what its leaves add up to stays within its area.
  pub never_zero : (f : Frame) {next : ℕ} {t : Tally} → part f ≡ Part.Read next t → 1 ≤ next
  never_zero f e = let r = read_tree pieces s f _ _ e in omega (arith, r.place, encode_least r.tree)

  leaves_within : (f : Frame) {next : ℕ} {t : Tally} → InRange (Lays pieces) → part f ≡ Part.Read next t
      → (t.value ≤ f.width * f.height * value_max) × (t.pieces + t.scrap ≡ f.width * f.height)
  unfolding tally_of
  leaves_within f range e =
      let r = read_tree pieces s f _ _ e in (
        omega (arith, ap (λ (q : Tally). q.value) r.sums, earning_bound range (dissection_of r.valid)),
        ap (λ (q : Tally). q.pieces + q.scrap) r.sums ∙ areas r.valid,
      )

  -- A part by the node that was found.
  pub node_answers : (f : Frame) {n : Option Node} → node_at pieces s f ≡ n → {before : Tally} {after : Reading} {r : Option (Unit {0})}
      → ReadsTo before after r (part_by pieces part f n) → ReadsTo before after r (part f)
  node_answers f e {before} {after} {r} h = subst (ReadsTo before after r) (sym (part_by_lem pieces s f e)) h

  -- A line by the answer for its near part: broken there, or by that for its far part too.
  part_answers : {x y side u v : ℕ} {tall : Bool} (at : ℕ) → PartIs x y tall side u v → {before : Tally} {after : Reading} {r : Option (Unit {0})}
      → ReadsTo before after r (part (frame at u v)) → ReadsTo before after r (part (frame at (part_width tall x side) (part_height tall y side)))
  part_answers at p {before} {after} {r} h = subst (λ (f : Frame). ReadsTo before after r (part f)) (λ i. frame at (p.width i) (p.height i)) h

  module _ {x y c u v : ℕ} {tall : Bool} (near : PartIs x y tall c u v) (before middle : Reading) where
    abbrev whole : Frame
    whole = frame before.at x y

    abbrev nearer : Frame
    nearer = near_part whole tall c

    abbrev both : Part → Part
    both p = then_read p (λ k. part (far_part whole tall c k))

    pub near_broken : {after : Reading} → ReadsTo before.leaves middle None (part (frame before.at u v))
        → ReadsTo before.leaves after None (both_parts part whole tall c)
    unfolding both_parts then_read
    near_broken {after} first = go (part nearer) (part_answers before.at near first)
      where
        go : (p : Part) → ReadsTo before.leaves middle None p → ReadsTo before.leaves after None (both p)
        go (Part.Read next t) (ReadsTo.read g h) = absurd (none-some tt g)
        go Part.Broken h = ReadsTo.broken refl

    module _ (first : ReadsTo before.leaves middle (Some tt) (part (frame before.at u v))) {w h : ℕ}
        (far : PartIs x y tall (rest (crossed tall x y) c) w h) where
      abbrev done : WasRead (part nearer) before.leaves middle
      done = was_read (part nearer) (part_answers before.at near first)

      -- What the near part added leaves room for the far one.
      pub far_ready : MayReadLine pieces x y tall c before.leaves → {t : ℕ} → 2 * (x * y) ≡ t → (2 * (w * h) + 1 < t) × MayRead pieces w h middle.leaves
      far_ready may e =
          let itself : PartIs x y tall c _ _ = record { width = refl; height = refl } in
          let areas = both_areas may itself far in
          let within = leaves_within nearer may.part.range done.read in
          let room = may.part.room in
          part_ready may (line_far may.line) far (part_least may may.line.least itself) (omega arith) e
          (subst (λ (t : Tally). RoomFor t (tally (w * h * value_max) (w * h) (w * h))) (sym done.sums)
          (record { value = omega (arith, room.value); pieces = omega (arith, room.pieces); scrap = omega (arith, room.scrap) }))

      pub far_answers : {after : Reading} {r : Option (Unit {0})} → ReadsTo middle.leaves after r (part (frame middle.at w h))
          → ReadsTo before.leaves after r (both_parts part whole tall c)
      unfolding both_parts then_read
      far_answers {after} {r} second =
          subst (λ (p : Part). ReadsTo before.leaves after r (both p)) (sym done.read)
          (both_answer (part (far_part whole tall c middle.at)) done.leaves done.sums (part_answers middle.at far second))

-- A part that was read from its first node on, with no leaf before it.
no_leaves_first : (t : Tally) → tally_both no_leaves t ≡ t
no_leaves_first t =
    let value : 0 + t.value ≡ t.value = omega arith in
    let pieces : 0 + t.pieces ≡ t.pieces = omega arith in
    let scrap : 0 + t.scrap ≡ t.scrap = omega arith in
    λ i. tally (value i) (pieces i) (scrap i)

pub was_first : (p : Part) {before : Tally} {after : Reading} → before ≡ no_leaves → ReadsTo before after (Some tt) p → Some after ≡ read_of p
unfolding read_of
was_first (Part.Read next t) e (ReadsTo.read g h) = ap Some (h ∙ ap (reading next) (ap (λ (b : Tally). tally_both b t) e ∙ no_leaves_first t))
was_first Part.Broken e (ReadsTo.broken g) = absurd (none-some tt (sym g))

pub none_first : (p : Part) {before : Tally} {after : Reading} → ReadsTo before after None p → None ≡ read_of p
unfolding read_of
none_first (Part.Read next t) (ReadsTo.read g h) = absurd (none-some tt g)
none_first Part.Broken (ReadsTo.broken g) = refl

-- What an answer tells of the part.
pub read_back : (p : Part) {r : Reading} → Some r ≡ read_of p → Part.Read r.at r.leaves ≡ p
unfolding read_of
read_back (Part.Read next t) e = ap (λ (r : Reading). Part.Read r.at r.leaves) (same_Some _ _ e)
read_back Part.Broken e = absurd (none-some _ (sym e))

pub broken_back : (p : Part) → None ≡ read_of p → Part.Broken ≡ p
unfolding read_of
broken_back (Part.Read next t) e = absurd (none-some _ e)
broken_back Part.Broken e = refl
