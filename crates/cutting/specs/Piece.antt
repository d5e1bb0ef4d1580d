-- Pieces with their numbers, sizes and values, and how they may lie (rules 1.3 to 1.5).
use Rattle.std.specs.Prelude.{ℕ, ◌-◌, ◌≤◌, ◌≡◌, List, length, get_or}
use Rattle.cutting.specs.Limits.{size_max, value_max}

-- A piece: its sides and its value (rules 1.4 and 1.5).
pub record Piece : Type 0 where
  pub width : ℕ
  pub height : ℕ
  pub value : ℕ

-- The piece p by q of value v.
abbrev pub sized : ℕ → ℕ → ℕ → Piece
sized p q v = record { width = p; height = q; value = v }

-- What stands where there is no piece.
abbrev pub no_piece : Piece
no_piece = sized 0 0 0

-- Piece k of the list: numbers go from 1 (rule 1.3).
unfoldable pub piece_at : List Piece → ℕ → Piece
piece_at pieces k = get_or pieces (k - 1) no_piece

-- Piece number k is p by q and has value v.
pub record Numbered (pieces : List Piece) (k p q v : ℕ) : Type 0 where
  pub first : 1 ≤ k
  pub last : k ≤ length pieces
  pub width : (piece_at pieces k).width ≡ p
  pub height : (piece_at pieces k).height ≡ q
  pub value : (piece_at pieces k).value ≡ v

-- What may lie on the board: `lies p q v`, a size p by q for the value v. Everything below speaks of such a relation and not of
-- lists, so that other lays (turned ones, or only those within a height) are other relations and no new theory.
pub record Lay : Type 1 where
  pub lies : ℕ → ℕ → ℕ → Type 0

-- Each piece of a list lies as it is, never turned (rule 2.3).
pub record Lies (pieces : List Piece) (p q v : ℕ) : Type 0 where
  pub number : ℕ
  pub numbered : Numbered pieces number p q v

-- What may lie when these are the pieces.
abbrev pub Lays : List Piece → Lay
Lays pieces = record { lies = Lies pieces }

-- Widths and heights are one theory, turned.
abbrev pub Turned : Lay → Lay
Turned lay = record { lies = λ p q v. lay.lies q p v }

-- The sides and the value of a piece are within their limits (rules 1.4 and 1.5).
pub record PieceInRange (p q v : ℕ) : Type 0 where
  pub width_least : 1 ≤ p
  pub width_most : p ≤ size_max
  pub height_least : 1 ≤ q
  pub height_most : q ≤ size_max
  pub value_least : 1 ≤ v
  pub value_most : v ≤ value_max

-- Whatever may lie is in its range.
abbrev pub InRange : Lay → Type 0
InRange lay = (p q v : ℕ) → lay.lies p q v → PieceInRange p q v

-- A size p by q fits in x by y (rule 5.1).
pub record Fits (p q x y : ℕ) : Type 0 where
  pub wide : p ≤ x
  pub high : q ≤ y

-- The rectangle x by y, neither side 0, lies inside a by b (rule 2.1).
pub record Inside (x y a b : ℕ) : Type 0 where
  pub width_least : 1 ≤ x
  pub width_most : x ≤ a
  pub height_least : 1 ≤ y
  pub height_most : y ≤ b
