-- Pieces by number, from 1, and by index, from 0.
use Prim.Native.Nat.{ℕ, suc, ◌-◌, ◌<◌}
use mathlib.Core.Path.{◌≡◌, ap, ◌∙◌}
use mathlib.Core.List.{List}
use native.Mathlib.Omega.{arith}
use lib.ListN.{length, get_or}
use Rattle.cutting.specs.Piece.{Piece, sized, no_piece, piece_at, Numbered, Lies}

-- The piece p by q of value v stands at index i.
pub record Listed (pieces : List Piece) (i p q v : ℕ) : Type 0 where
  pub within : i < length pieces
  pub is : get_or pieces i no_piece ≡ sized p q v

pub numbered_listed : {pieces : List Piece} {k p q v : ℕ} → Numbered pieces k p q v → Listed pieces (k - 1) p q v
unfolding piece_at
numbered_listed n =
    record { within = omega (arith, n.first, n.last); is = λ i. record { width = n.width i; height = n.height i; value = n.value i } }

pub listed_numbered : {pieces : List Piece} {i p q v : ℕ} → Listed pieces i p q v → Numbered pieces (suc i) p q v
unfolding piece_at
listed_numbered {pieces} {i} {p} {q} {v} l =
    record { first = omega arith; last = l.within; width = λ j. (there j).width; height = λ j. (there j).height; value = λ j. (there j).value }
  where
    there : get_or pieces (suc i - 1) no_piece ≡ sized p q v
    there = ap (λ (j : ℕ). get_or pieces j no_piece) (omega arith) ∙ l.is

-- A lay is a piece somewhere in the list.
pub lays_listed : {pieces : List Piece} {p q v : ℕ} → Lies pieces p q v → (i : ℕ) × Listed pieces i p q v
lays_listed l = (l.number - 1, numbered_listed l.numbered)

pub listed_lays : {pieces : List Piece} {i p q v : ℕ} → Listed pieces i p q v → Lies pieces p q v
listed_lays {i = i} l = record { number = suc i; numbered = listed_numbered l }
