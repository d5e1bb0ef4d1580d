-- Writing nodes one behind the other: the room for each, and what stands there in the end.
use Prim.Native.Nat.{ℕ, ◌+◌, ◌≤◌}
use mathlib.Core.Path.{◌≡◌, sym, ap, subst}
use mathlib.Core.List.{List, [], ◌∷◌, ◌++◌}
use native.Mathlib.Omega.{arith}
use lib.ListN.{length, set}
use Rattle.laws.specs.Put.{put}
use Rattle.laws.proofs.Wrote.{wrote_as, room_first, room_second, wrote_both}
use Rattle.laws.proofs.Put.{put_one, put_next}
use Rattle.cutting.specs.Tree.{Tree}
use Rattle.fields.specs.Number.{bytes2}
use Rattle.fields.specs.Format.{node_length}
use Rattle.nodes.specs.Encoding.{node, encode}
use Rattle.nodes.proofs.Encoding.{node-length, encode_least}
use Rattle.tracer.specs.declared.Step.{Step}
use Rattle.tracer.specs.Inner.{node_of}
use Rattle.laws.specs.Inner.{Room, Wrote}

-- One node: its letter, and behind it its number.
pub wrote_node : {o p : List ℕ} {at : ℕ} (letter number : ℕ) → at + node_length ≤ length o
    → p ≡ put (set o at letter) (at + 1) (bytes2 number) → Wrote o at (node letter number) (at + node_length) p
unfolding node
wrote_node {o} {p} {at} letter number h e =
    record {
      place = ap (λ (k : ℕ). at + k) (sym (node-length letter number));
      bytes = put_next o at (letter ∷ []) (bytes2 number) (omega arith) (omega arith) (sym (put_one o at letter (omega arith))) e;
    }

-- Room for a tree is room for its first node.
pub node_room : {o : List ℕ} {at : ℕ} (t : Tree) → Room o at (encode t) → at + node_length ≤ length o
node_room t h = omega (arith, h.room, encode_least t)

-- The node of a step that is known.
pub wrote_step : {o p : List ℕ} {at n : ℕ} {s t : Step} → s ≡ t → Wrote o at (node_of t) n p → Wrote o at (node_of s) n p
wrote_step e = wrote_as (ap node_of e)

pub wrote_letter : {o p : List ℕ} {at n letter is : ℕ} (c : ℕ) → letter ≡ is → Wrote o at (node letter c) n p → Wrote o at (node is c) n p
wrote_letter c e = wrote_as (ap (λ (l : ℕ). node l c) (sym e))

-- A line's node n, and behind it the nodes e and f of its two parts.
module _ {o : List ℕ} {at : ℕ} {all : List ℕ} (n e f : List ℕ) (is : all ≡ n ++ (e ++ f)) (room : Room o at all)
    {m : ℕ} {p : List ℕ} (first : Wrote o at n m p) where
  parts_room : Room p m (e ++ f)
  parts_room = room_second n (e ++ f) (subst (Room o at) is room) first

  pub near_room : Room p m e
  near_room = room_first e f parts_room

  module _ {k : ℕ} {q : List ℕ} (second : Wrote p m e k q) where
    pub far_room : Room q k f
    far_room = room_second e f parts_room second

    pub wrote_line : {r : ℕ} {z : List ℕ} → Wrote q k f r z → Wrote o at all r z
    wrote_line third = wrote_as is (wrote_both n (e ++ f) (subst (Room o at) is room) first (wrote_both e f parts_room second third))
