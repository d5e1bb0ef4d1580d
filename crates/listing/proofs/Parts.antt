-- What the listing may rely on: the reader may read the part, and the two parts of a line may be listed; they are smaller.
use Prim.Native.Nat.{ℕ, ◌+◌, ◌*◌, ◌≤◌, ◌<◌}
use mathlib.Core.Bool.{Bool}
use mathlib.Core.Path.{◌≡◌, sym, subst}
use mathlib.Core.List.{List}
use native.Mathlib.Omega.{arith}
use native.Mathlib.Nat.{mul-le-mul}
use Rattle.cutting.specs.Limits.{side_max}
use Rattle.cutting.specs.Piece.{Piece}
use Rattle.cutting.specs.Dissection.{rest, crossed, Line}
use Rattle.cutting.proofs.Tree.{line_far, part_less, part_inside}
use Rattle.nodes.specs.Inner.{no_leaves, MayRead}
use Rattle.listing.specs.declared.Section.{Section}
use Rattle.listing.specs.Inner.{below_of, MayList}

module _ {pieces : List Piece} {q : Section} (may : MayList pieces q) where
  pub may_read : MayRead pieces q.width q.height no_leaves
  may_read =
      let area : q.width * q.height ≤ side_max * side_max = mul-le-mul may.inside.width_most may.inside.height_most in
      record {
        range = may.range;
        wide = may.inside.width_least;
        high = may.inside.height_least;
        room = record { value = omega (arith, area); pieces = omega (arith, area); scrap = omega (arith, area) };
      }

  -- A part of a line may be listed, and is smaller.
  abbrev Smaller : ℕ → Section → Type 0
  Smaller t p = (p.width + p.height < t) × MayList pieces p

  module _ (tall : Bool) (c : ℕ) {t : ℕ} (measure : q.width + q.height ≡ t)
      (line : Line (crossed tall q.width q.height) c (rest (crossed tall q.width q.height) c)) where
    below_may : (side at : ℕ) {p : Section} → 1 ≤ side → side < crossed tall q.width q.height → p ≡ below_of q tall side at → Smaller t p
    below_may side at one less g =
        let whole = may.inside in
        let shorter = part_less tall q.width q.height side less in
        let inside = part_inside tall q.width q.height side whole.width_least whole.height_least one (omega arith) in
        subst (Smaller t) (sym g)
        (omega (arith, shorter), record { few = may.few; range = may.range; inside = omega (arith, inside, whole); low = omega (arith, may.low, shorter) })

    pub near_may : {side at : ℕ} {p : Section} → side ≡ c → p ≡ below_of q tall side at → Smaller t p
    near_may {side} {at} e = below_may side at (omega (arith, line.least)) (omega (arith, line.least, line.most))

    pub far_may : {near across side at : ℕ} {p : Section} → near ≡ c → across ≡ crossed tall q.width q.height → side ≡ rest across near
        → p ≡ below_of q tall side at → Smaller t p
    far_may {side = side} {at = at} e h i = below_may side at (omega (arith, line_far line)) (omega (arith, line.least, line.most))
