-- What only contracts inside and proofs need: text in a row of bytes, as far as there is room.
use Rattle.std.specs.Prelude.{ℕ, ◌+◌, ◌-◌, ◌≡◌, List, length, take}
use Rattle.laws.specs.Put.{put}
use Rattle.printing.specs.declared.Text.{Text}

-- As much of e as there is room for in o from `at` on.
unfoldable pub fitting : List ℕ → ℕ → List ℕ → List ℕ
fitting o at e = take (length o - at) e

-- The bytes e were written into o at a place, as far as there is room: o is p then, and `next` is the place after them.
pub record Printed (o : List ℕ) (at : ℕ) (e : List ℕ) (next : ℕ) (p : List ℕ) : Type 0 where
  pub place : next ≡ at + length (fitting o at e)
  pub bytes : p ≡ put o at (fitting o at e)

-- The bytes e were written into a text, as far as there is room; the text's row is the one that was lent.
pub record Writes (t : Text) (e : List ℕ) (u : Text) : Type 0 where
  pub row : u.row.ghost_name ≡ t.row.ghost_name
  pub printed : Printed t.row.now t.at e u.at u.row.now
