-- Writing one part behind another: the room for each, and what stands there in the end.
use Prim.Native.Nat.{ℕ}
use mathlib.Core.Path.{◌≡◌, sym, ap, ◌∙◌, subst}
use mathlib.Core.List.{List, ◌++◌}
use native.Mathlib.Omega.{arith}
use lib.ListN.{length, length-append}
use Rattle.laws.specs.Inner.{Room, Wrote}
use Rattle.laws.proofs.Put.{put_length, put_next}

pub wrote_as : {o p : List ℕ} {at n : ℕ} {e f : List ℕ} → f ≡ e → Wrote o at e n p → Wrote o at f n p
wrote_as {o} {p} {at} {n} g w = subst (λ (l : List ℕ). Wrote o at l n p) (sym g) w

-- One part behind another: the room for both is room for each, and both are written.
module _ {o : List ℕ} {at : ℕ} (e f : List ℕ) (room : Room o at (e ++ f)) where
  pub room_first : Room o at e
  room_first = record { room = omega (arith, room.room, length-append e f) }

  module _ {p : List ℕ} {m : ℕ} (first : Wrote o at e m p) where
    pub room_second : Room p m f
    room_second =
        let same : length p ≡ length o = ap length first.bytes ∙ put_length o at e room_first.room in
        record { room = omega (arith, room.room, length-append e f, first.place) }

    pub wrote_both : {q : List ℕ} {n : ℕ} → Wrote p m f n q → Wrote o at (e ++ f) n q
    wrote_both w =
        record {
          place = omega (arith, first.place, w.place, length-append e f);
          bytes = put_next o at e f room_first.room first.place first.bytes w.bytes;
        }
