-- The part reader's own equation: a part is its node, and a line's two parts are read by the same reader. No depth is seen above this file.
use Prim.Native.Nat.{ℕ, ◌<◌}
use mathlib.Core.Bool.{Bool}
use mathlib.Core.Path.{◌≡◌, refl, ap, ◌∙◌}
use mathlib.Core.List.{List}
use native.Mathlib.Omega.{arith}
use Rattle.std.specs.Prelude.{Option, Some, None}
use Rattle.laws.proofs.Depth.{deep_own}
use Rattle.cutting.specs.Piece.{Piece}
use Rattle.cutting.specs.Dissection.{rest, crossed}
use Rattle.cutting.proofs.Tree.{part_less}
use Rattle.nodes.specs.Reads.{Frame}
use Rattle.nodes.specs.declared.Tally.{Tally}
use Rattle.nodes.specs.Inner.{Part, tally_both, near_part, far_part, behind_node, with_first, then_read, both_parts, part_by, around, node_at, part_at}
use Rattle.nodes.specs.declared.Node.{Node}
use Rattle.nodes.proofs.Rules.{Tells, node_tells}

-- Two readers that agree on shorter parts agree on a node's.
module _ (R S : Frame → Part) where
  then_same : (p : Part) (second other : ℕ → Part) → ((m : ℕ) → second m ≡ other m) → then_read p second ≡ then_read p other
  unfolding then_read
  then_same (Part.Read m a) second other e = ap (with_first a) (e m)
  then_same Part.Broken second other e = refl

  part_by_same : (pieces : List Piece) (s : List ℕ) (f : Frame) (n : Option Node) → Tells pieces s f n
      → ((g : Frame) → around g < around f → R g ≡ S g) → part_by pieces R f n ≡ part_by pieces S f n
  unfolding part_by both_parts
  part_by_same pieces s f (Some (Node.Line tall c)) h e =
      let near = part_less tall f.width f.height c (omega (arith, h.1.least, h.1.most)) in
      let far = part_less tall f.width f.height (rest (crossed tall f.width f.height) c) (omega (arith, h.1.least, h.1.most)) in
      ap (λ (p : Part). then_read p (λ m. R (far_part (behind_node f) tall c m))) (e (near_part (behind_node f) tall c) near)
      ∙ then_same (S (near_part (behind_node f) tall c)) _ _ (λ m. e (far_part (behind_node f) tall c m) far)
  part_by_same pieces s f (Some (Node.Piece k)) h e = refl
  part_by_same pieces s f (Some Node.Scrap) h e = refl
  part_by_same pieces s f None h e = refl

module _ (pieces : List Piece) (s : List ℕ) where
  pub part_own : (f : Frame) → part_at pieces s f ≡ part_by pieces (part_at pieces s) f (node_at pieces s f)
  unfolding part_at
  part_own = deep_own _ _ _ (λ R S f same. part_by_same R S pieces s f (node_at pieces s f) (node_tells pieces s f refl) same)

  -- A part by the node that was found.
  pub part_by_lem : (f : Frame) {n : Option Node} → node_at pieces s f ≡ n → part_at pieces s f ≡ part_by pieces (part_at pieces s) f n
  part_by_lem f e = part_own f ∙ ap (part_by pieces (part_at pieces s) f) e

  -- A line whose two parts were read.
  pub part_line : (f : Frame) (tall : Bool) (c m n : ℕ) (a b : Tally) → node_at pieces s f ≡ Some (Node.Line tall c)
      → part_at pieces s (near_part (behind_node f) tall c) ≡ Part.Read m a → part_at pieces s (far_part (behind_node f) tall c m) ≡ Part.Read n b
      → part_at pieces s f ≡ Part.Read n (tally_both a b)
  unfolding part_by both_parts then_read with_first
  part_line f tall c m n a b e g h =
      part_by_lem f e ∙ (ap (λ (p : Part). then_read p (λ k. part_at pieces s (far_part (behind_node f) tall c k))) g ∙ ap (with_first a) h)

-- What two equal answers have in common.
pub never_read : {next : ℕ} {t : Tally} → Part.Broken ≡ Part.Read next t → ⊥
never_read e = let z : ◌≡◌ {A = ℕ} 0 1 = cc in omega arith

pub place_same : {m n : ℕ} {a b : Tally} → Part.Read m a ≡ Part.Read n b → m ≡ n
place_same e = cc
