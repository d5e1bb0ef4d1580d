-- The tree that is planned for x by y, where V is the number in its cell: rules 6.1 to 6.6 in their order.
use Rattle.std.specs.Prelude.{ℕ, ◌+◌, ◌<◌, Bool, true, false, cond, ◌≡◌, List}
use Rattle.cutting.specs.Piece.{Piece, Numbered, Lay, Lays, Turned, Fits}
use Rattle.cutting.specs.Dissection.{rest, crossed, part_width, part_height}
use Rattle.cutting.specs.Points.{P}
use Rattle.cutting.specs.Candidate.{Tried}
use Rattle.cutting.specs.Tree.{Tree}

-- The first piece, the least line (rules 6.2 to 6.5): k is in the set, and nothing before it is.
pub record Least (S : ℕ → Type 0) (k : ℕ) : Type 0 where
  pub holds : S k
  pub least : (j : ℕ) → j < k → S j → ⊥

-- There is none: the next rule is looked at.
abbrev pub None : (ℕ → Type 0) → Type 0
None S = (k : ℕ) → S k → ⊥

-- A trim to p of a side x, unless p is all of it, with scrap beyond (rule 6.5): the tree of the part, and that of the whole.
pub data Trimmed (tall : Bool) (p x : ℕ) (part : Tree) : Tree → Type 0 where
  cut : p < x → Trimmed tall p x part (Tree.line tall p part Tree.scrap_s)
  whole : p ≡ x → Trimmed tall p x part part

-- The points of P for a vertical line, and of Q for a horizontal one, which is P of what is turned.
abbrev pub PointOf : Lay → ℕ → ℕ → Bool → ℕ → Type 0
PointOf lay a b tall c = P (cond tall (Turned lay) lay) (cond tall b a) c

-- The sheet is a by b, and `cell x y` is the number in cell (x, y).
module _ (pieces : List Piece) (a b : ℕ) (cell : ℕ → ℕ → ℕ) where
  -- Piece k is exactly x by y and its value is V (rule 6.2).
  abbrev pub Exact : ℕ → ℕ → ℕ → Type 0
  Exact x y k = Numbered pieces k x y (cell x y)

  -- What the cell of a part holds that is c long where the line crosses.
  abbrev pub part_cell : Bool → ℕ → ℕ → ℕ → ℕ
  part_cell tall x y c = cell (part_width tall x c) (part_height tall y c)

  -- A line at a point c, up to half, whose two cells add up to V: of P, or of Q where it is `tall` (rules 6.3 and 6.4).
  pub record AddsUp (tall : Bool) (x y c : ℕ) : Type 0 where
    pub far : ℕ
    pub tried : Tried (PointOf (Lays pieces) a b tall) (crossed tall x y) c far
    pub sum : part_cell tall x y c + part_cell tall x y far ≡ cell x y

  -- Piece k, which is `width` by `height`, fits in x by y and its value is V (rule 6.5).
  pub record Fitting (x y k : ℕ) : Type 0 where
    pub width : ℕ
    pub height : ℕ
    pub numbered : Numbered pieces k width height (cell x y)
    pub fits : Fits width height x y

  -- The tree for x by y.
  pub data TreeBy : ℕ → ℕ → Tree → Type 0 where
    -- Rule 6.1: V is 0, and all is scrap.
    rule1 : {x y : ℕ} → cell x y ≡ 0 → TreeBy x y Tree.scrap_s
    -- Rule 6.2: the first piece of exactly this size and value.
    rule2 : {x y k : ℕ} → (cell x y ≡ 0 → ⊥) → Least (Exact x y) k → TreeBy x y (Tree.piece_p k)
    -- Rule 6.3: the least point of P up to half whose two cells add up: a vertical line, and both parts by the rules.
    rule3 : {x y c : ℕ} {s t : Tree} → (cell x y ≡ 0 → ⊥) → None (Exact x y) → Least (AddsUp false x y) c
        → TreeBy c y s → TreeBy (rest x c) y t → TreeBy x y (Tree.line false c s t)
    -- Rule 6.4: the least point of Q likewise: a horizontal line, and both parts by the rules.
    rule4 : {x y d : ℕ} {s t : Tree} → (cell x y ≡ 0 → ⊥) → None (Exact x y) → None (AddsUp false x y) → Least (AddsUp true x y) d
        → TreeBy x d s → TreeBy x (rest y d) t → TreeBy x y (Tree.line true d s t)
    -- Rule 6.5: the first piece that fits and has this value, trimmed to its width by a vertical line, then to its height.
    rule5 : {x y k : ℕ} {s t : Tree} → (cell x y ≡ 0 → ⊥) → None (Exact x y) → None (AddsUp false x y) → None (AddsUp true x y)
        → (first : Least (Fitting x y) k)
        → Trimmed true first.holds.height y (Tree.piece_p k) s → Trimmed false first.holds.width x s t → TreeBy x y t

-- Rule 6.6: where none of them strikes, there is no such tree.
