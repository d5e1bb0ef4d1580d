-- Each of a line's two parts may be read where the whole may, and is smaller; a leaf stays within the room for its part.
use Prim.Native.Nat.{ℕ, ◌+◌, ◌*◌, ◌≤◌, ◌<◌}
use mathlib.Core.Bool.{Bool}
use mathlib.Core.Path.{◌≡◌, refl, ap, ap₂, ◌∙◌}
use mathlib.Core.List.{List}
use native.Mathlib.Omega.{arith}
use native.Mathlib.Nat.{mul-le-mul}
use Rattle.cutting.specs.Limits.{value_max}
use Rattle.cutting.specs.Piece.{Piece, piece_at, Numbered}
use Rattle.cutting.specs.Dissection.{rest, crossed, part_width, part_height}
use Rattle.cutting.proofs.Tree.{parts_area, line_far, least}
use Rattle.nodes.specs.declared.Tally.{Tally}
use Rattle.nodes.specs.Inner.{tally, piece_tally, RoomFor, MayRead, MayReadLine}

-- What stays within a part's most stays within its room.
pub within_room : {pieces : List Piece} {x y v a b : ℕ} {before : Tally} → MayRead pieces x y before → v ≤ x * y * value_max → a ≤ x * y → b ≤ x * y
    → RoomFor before (tally v a b)
within_room may p q r =
    let room = may.room in
    record { value = omega (arith, room.value); pieces = omega (arith, room.pieces); scrap = omega (arith, room.scrap) }

-- The part of a line through x by y that is `side` long is u by v.
pub record PartIs (x y : ℕ) (tall : Bool) (side u v : ℕ) : Type 0 where
  pub width : u ≡ part_width tall x side
  pub height : v ≡ part_height tall y side

pub part_is : {x y : ℕ} {tall : Bool} {side n u v : ℕ} → n ≡ side → u ≡ part_width tall x n → v ≡ part_height tall y n → PartIs x y tall side u v
part_is {x} {y} {tall} e f g = record { width = f ∙ ap (part_width tall x) e; height = g ∙ ap (part_height tall y) e }

module _ {pieces : List Piece} {x y : ℕ} {tall : Bool} {c : ℕ} {before : Tally} (may : MayReadLine pieces x y tall c before) where
  abbrev r : ℕ
  r = rest (crossed tall x y) c

  pub both_areas : {u v w z : ℕ} → PartIs x y tall c u v → PartIs x y tall r w z → u * v + w * z ≡ x * y
  both_areas near far =
      ap₂ ◌+◌ (ap₂ ◌*◌ near.width near.height) (ap₂ ◌*◌ far.width far.height) ∙ parts_area tall x y c r may.line

  part_sides : {side u v : ℕ} → 1 ≤ side → PartIs x y tall side u v → (1 ≤ u) × (1 ≤ v)
  part_sides {side = side} h p =
      (omega (arith, p.width, least tall x side may.part.wide h), omega (arith, p.height, least tall side y h may.part.high))

  pub part_least : {side u v : ℕ} → 1 ≤ side → PartIs x y tall side u v → 1 ≤ u * v
  part_least h p = mul-le-mul (part_sides h p).0 (part_sides h p).1

  -- A part may be read where there is room for the most that it can add, and is smaller: the other part is there.
  pub part_ready : {side u v other t : ℕ} {now : Tally} → 1 ≤ side → PartIs x y tall side u v → 1 ≤ other → u * v + other ≡ x * y → 2 * (x * y) ≡ t
      → RoomFor now (tally (u * v * value_max) (u * v) (u * v)) → (2 * (u * v) + 1 < t) × MayRead pieces u v now
  part_ready h p o both m room =
      let at = part_sides h p in
      (omega arith, record { range = may.part.range; wide = at.0; high = at.1; room = room })

  pub near_ready : {u v t : ℕ} → PartIs x y tall c u v → 2 * (x * y) ≡ t → (2 * (u * v) + 1 < t) × MayRead pieces u v before
  near_ready near m =
      let far : PartIs x y tall r _ _ = record { width = refl; height = refl } in
      let both = both_areas near far in
      let least = part_least (line_far may.line) far in
      part_ready may.line.least near least both m (within_room may.part (omega arith) (omega arith) (omega arith))

pub piece_room : {pieces : List Piece} {k x y : ℕ} {before : Tally} → MayRead pieces x y before → Numbered pieces k x y (piece_at pieces k).value
    → RoomFor before (piece_tally (piece_at pieces k).value x y)
piece_room {x = x} {y = y} may n =
    let most = (may.range x y _ (record { number = _; numbered = n })).value_most in
    let one : 1 ≤ x * y = mul-le-mul may.wide may.high in
    within_room may (omega arith) (omega arith) (omega arith)
