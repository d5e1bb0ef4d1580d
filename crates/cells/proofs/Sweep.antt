-- The two loops of emptying: a row from column p on, and the rows from q on. Each has three laws: start, one more, end.
use Prim.Native.Nat.{ℕ, ◌+◌, ◌*◌, ◌≤◌, ◌<◌}
use mathlib.Core.Bool.{Bool, true, false, cond, ◌&&◌, ◌||◌}
use mathlib.Core.Path.{◌≡◌, refl, sym, ap, ap₂, ◌∙◌}
use mathlib.Core.List.{List}
use mathlib.Core.Logic.{◌⊎◌, inl, inr, ⊎_elim}
use native.Mathlib.Omega.{arith}
use lib.ListN.{length, set, length-set}
use Rattle.laws.specs.Inner.{Says}
use Rattle.laws.proofs.Order.{le_or_lt}
use Rattle.laws.proofs.Says.{says_and, says_or, says_le, says_lt, says_iff, says_no, says_false, says_same}
use Rattle.cutting.specs.Piece.{Inside}
use Rattle.cells.specs.Cells.{empty, place, cell_of}
use Rattle.cells.specs.Inner.{emptied_where, emptied, between, patch, row_from}
use Rattle.cells.proofs.Redrawn.{store_same, store_other, store_beyond}
use Rattle.cells.proofs.Emptied.{emptied_where-length, is_emptied_where, emptied_where_same, emptied_where_none, emptied_where_twice, emptied_where_lower, fits_says}

between_says : (l h k : ℕ) → Says (between l h k) ((l ≤ k) × (k < h))
unfolding between
between_says l h k = says_and (says_le l k) (says_lt k h)

-- Cell (u, w) lies in the columns from p and before x, of the rows from q and before y.
record Block (p x q y u w : ℕ) : Type 0 where
  left : p ≤ u
  right : u < x
  lower : q ≤ w
  upper : w < y

block_says : (p x q y u w : ℕ) → Says (patch p x q y u w) (Block p x q y u w)
unfolding patch
block_says p x q y u w = says_iff (λ h. omega arith, λ h. omega arith) (says_and (between_says p x u) (between_says q y w))

between_more : (l h k : ℕ) → l ≤ h → between l h k || between h (h + 1) k ≡ between l (h + 1) k
between_more l h k below =
    says_same
    (says_iff (⊎_elim (λ s. omega arith) (λ s. omega arith), λ s. ⊎_elim (λ m. inr (omega arith)) (λ m. inl (omega arith)) (le_or_lt h k))
    (says_or (between_says l h k) (between_says h (h + 1) k)))
    (between_says l (h + 1) k)

-- A patch and the column after it, a patch and the row above it.
block_right : (p x q y u w : ℕ) → p ≤ x → patch p x q y u w || patch x (x + 1) q y u w ≡ patch p (x + 1) q y u w
unfolding patch
block_right p x q y u w h = joined (between p x u) (between x (x + 1) u) (between q y w) ∙ ap (λ c. c && between q y w) (between_more p x u h)
  where
    joined : (c d e : Bool) → (c && e) || (d && e) ≡ (c || d) && e
    joined true true true = refl
    joined true true false = refl
    joined true false true = refl
    joined true false false = refl
    joined false true true = refl
    joined false true false = refl
    joined false false e = refl

block_up : (p x q y u w : ℕ) → q ≤ y → patch p x q y u w || patch p x y (y + 1) u w ≡ patch p x q (y + 1) u w
unfolding patch
block_up p x q y u w h = joined (between p x u) (between q y w) (between y (y + 1) w) ∙ ap (λ c. between p x u && c) (between_more q y w h)
  where
    joined : (e c d : Bool) → (e && c) || (e && d) ≡ e && (c || d)
    joined true c d = refl
    joined false c d = refl

-- A store empties the patch of one cell.
store_empties : {x y a b : ℕ} (t : List ℕ) → a * b ≤ length t → Inside x y a b → set t (place a x y) empty ≡ emptied_where a b (patch x (x + 1) y (y + 1)) t
store_empties {x} {y} {a} {b} t room i =
    is_emptied_where a b (patch x (x + 1) y (y + 1)) t (set t (place a x y) empty) (length-set t (place a x y) empty)
    (λ u w j. seen u w j (patch x (x + 1) y (y + 1) u w) refl)
    (store_beyond t empty i)
  where
    seen : (u w : ℕ) → Inside u w a b → (c : Bool) → patch x (x + 1) y (y + 1) u w ≡ c
        → cell_of a (set t (place a x y) empty) u w ≡ cond c empty (cell_of a t u w)
    seen u w j true e =
        let here : Block x (x + 1) y (y + 1) u w = (block_says x (x + 1) y (y + 1) u w).means e in
        ap₂ (cell_of a (set t (place a x y) empty)) (omega arith) (omega arith) ∙ store_same t empty room i
    seen u w j false e = store_other t empty i j (λ h. says_false (block_says x (x + 1) y (y + 1) u w) e (omega arith))

-- Nothing is emptied at the start of either loop.
pub sweep_none : (a b p x q y : ℕ) (t : List ℕ) → (x ≤ p) ⊎ (y ≤ q) → t ≡ emptied_where a b (patch p x q y) t
sweep_none a b p x q y t none =
    sym (emptied_where_none a b (patch p x q y) t (λ u w i. says_no (block_says p x q y u w) (λ h. ⊎_elim (λ l. omega arith) (λ l. omega arith) none)))

pub row_more : {p x y a b : ℕ} (t₀ t t' : List ℕ) → a * b ≤ length t₀ → Inside x y a b → p ≤ x → t ≡ emptied_where a b (patch p x y (y + 1)) t₀
    → t' ≡ set t (place a x y) empty → t' ≡ emptied_where a b (patch p (x + 1) y (y + 1)) t₀
row_more {p} {x} {y} {a} {b} t₀ t t' room i h e stored =
    let long : length t ≡ length t₀ = ap length e ∙ emptied_where-length a b (patch p x y (y + 1)) t₀ in
    stored
    ∙ (store_empties t (omega arith) i
    ∙ (ap (emptied_where a b (patch x (x + 1) y (y + 1))) e
    ∙ (emptied_where_twice a b (patch p x y (y + 1)) (patch x (x + 1) y (y + 1)) t₀ room
    ∙ emptied_where_same a b _ (patch p (x + 1) y (y + 1)) t₀ (λ u w j. block_right p x y (y + 1) u w h))))

-- Past the last column all of the row's cells from p on are emptied.
pub row_end : (a p x y : ℕ) (t : List ℕ) → a < x → emptied_where a y (patch p x y (y + 1)) t ≡ emptied_where a y (row_from a p y) t
row_end a p x y t h =
    emptied_where_same a y _ _ t
    (λ u w i. says_same (says_iff (λ s. omega arith, λ s. omega arith) (block_says p x y (y + 1) u w)) (block_says p (a + 1) y (y + 1) u w))

pub rows_more : (a b p : ℕ) {q y : ℕ} (t₀ t t' : List ℕ) → a * b ≤ length t₀ → y ≤ b → q ≤ y → t ≡ emptied_where a b (patch p (a + 1) q y) t₀
    → t' ≡ emptied_where a y (row_from a p y) t → t' ≡ emptied_where a b (patch p (a + 1) q (y + 1)) t₀
rows_more a b p {q} {y} t₀ t t' room low h e row =
    let long : length t ≡ length t₀ = ap length e ∙ emptied_where-length a b (patch p (a + 1) q y) t₀ in
    row
    ∙ (emptied_where_lower a b y (row_from a p y) t low (omega arith) (λ u w above. says_no (block_says p (a + 1) y (y + 1) u w) (λ s. omega arith))
    ∙ (ap (emptied_where a b (row_from a p y)) e
    ∙ (emptied_where_twice a b (patch p (a + 1) q y) (row_from a p y) t₀ room
    ∙ emptied_where_same a b _ (patch p (a + 1) q (y + 1)) t₀ (λ u w j. block_up p (a + 1) q y u w h))))

-- Past the last row the cells where p by q fits are emptied, and no others.
pub rows_end : (a b p q y : ℕ) (t : List ℕ) → b < y → emptied_where a b (patch p (a + 1) q y) t ≡ emptied a b p q t
unfolding emptied
rows_end a b p q y t h =
    emptied_where_same a b _ _ t
    (λ u w i. says_same (says_iff (λ s. omega arith, λ s. omega arith) (block_says p (a + 1) q y u w)) (fits_says p q u w))
