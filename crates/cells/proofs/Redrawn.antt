-- The laws of redrawn and of cell_of.
use Prim.Native.Nat.{ℕ, zero, suc, ◌+◌, ◌*◌, ◌/◌, ◌%◌, ◌≤◌, ◌<◌}
use mathlib.Core.Bool.{Bool, true, cond}
use mathlib.Core.Path.{◌≡◌, refl, sym, ap, ap₂, ◌∙◌}
use mathlib.Core.List.{List, [], ◌∷◌}
use mathlib.Core.Logic.{⊎_elim}
use native.Mathlib.Omega.{arith}
use lib.ListN.{length, get_or, set, get_or-eq_default}
use lib.Seq.{get_or-set_same, get_or-set_other}
use lib.Dec.{ltb}
use borrow.Author.Tests.{lt-ltb, le-ltb}
use Rattle.std.proofs.lemmas.Grind.{get_or_default_zero}
use Rattle.std.proofs.lemmas.List.Edits.{get_or-between}
use Rattle.std.specs.List.{between}
use Rattle.laws.proofs.Order.{le_or_lt}
use Rattle.laws.proofs.ByIndex.{by_index-length, by_index_at, is_by_index, by_index_same}
use Rattle.cutting.specs.Piece.{Inside}
use Rattle.cells.specs.Cells.{empty, place, cell_of}
use Rattle.cells.specs.Inner.{redrawn, Holds}
use Rattle.cells.proofs.Places.{place_below, place_column, place_row, cell_inside, cell_place, same_place}

-- What index k of the redrawn row holds, by whether it is a cell.
abbrev entry : ℕ → (ℕ → ℕ → ℕ) → List ℕ → ℕ → Bool → ℕ
entry a new t k cell = cond cell (new (k % a + 1) (k / a + 1)) (get_or t k empty)

pub redrawn-length : (a b : ℕ) (new : ℕ → ℕ → ℕ) (t : List ℕ) → length (redrawn a b new t) ≡ length t
unfolding redrawn
redrawn-length a b new t = by_index-length _ (length t)

redrawn_at : (a b : ℕ) (new : ℕ → ℕ → ℕ) (t : List ℕ) (k : ℕ) → k < length t → get_or (redrawn a b new t) k empty ≡ entry a new t k (ltb k (a * b))
unfolding redrawn
redrawn_at a b new t k h = by_index_at _ (length t) k empty h

-- Each cell (x, y) of the sheet holds `new x y`.
pub redrawn_cell : {x y a b : ℕ} (new : ℕ → ℕ → ℕ) (t : List ℕ) → a * b ≤ length t → Inside x y a b → cell_of a (redrawn a b new t) x y ≡ new x y
unfolding cell_of
redrawn_cell {x} {y} {a} {b} new t room i =
    let below : place a x y < a * b = place_below i in
    let known : ltb (place a x y) (a * b) ≡ true = lt-ltb _ _ below in
    redrawn_at a b new t (place a x y) (omega arith)
    ∙ (ap (entry a new t (place a x y)) known
    ∙ ap₂ new (place_column i) (place_row i))

-- The entries behind the cells stay (rule 4.3).
pub redrawn_beyond : (a b : ℕ) (new : ℕ → ℕ → ℕ) (t : List ℕ) (k : ℕ) → a * b ≤ k → get_or (redrawn a b new t) k empty ≡ get_or t k empty
redrawn_beyond a b new t k h = ⊎_elim past within (le_or_lt (length t) k)
  where
    past : length t ≤ k → get_or (redrawn a b new t) k empty ≡ get_or t k empty
    past l =
        let m : length (redrawn a b new t) ≤ k = omega (arith, redrawn-length a b new t) in
        get_or-eq_default (redrawn a b new t) empty m ∙ sym (get_or-eq_default t empty l)

    within : k < length t → get_or (redrawn a b new t) k empty ≡ get_or t k empty
    within l = redrawn_at a b new t k l ∙ ap (entry a new t k) (le-ltb k (a * b) h)

-- A row as long as t, with `new x y` in its cells and the entries of t from a·b on, is the redrawn row.
pub is_redrawn : (a b : ℕ) (new : ℕ → ℕ → ℕ) (t t' : List ℕ) → length t' ≡ length t → ((x y : ℕ) → Inside x y a b → cell_of a t' x y ≡ new x y)
    → ((k : ℕ) → a * b ≤ k → get_or t' k empty ≡ get_or t k empty) → t' ≡ redrawn a b new t
unfolding redrawn cell_of
is_redrawn a b new t t' same cells beyond = is_by_index _ (length t) t' empty same each
  where
    each : (k : ℕ) → k < length t → get_or t' k empty ≡ entry a new t k (ltb k (a * b))
    each k l =
        ⊎_elim
        (λ h. beyond k h ∙ sym (ap (entry a new t k) (le-ltb k (a * b) h)))
        (λ h. ap (λ i. get_or t' i empty) (sym (cell_place a k))
        ∙ (cells _ _ (cell_inside a b k h)
        ∙ sym (ap (entry a new t k) (lt-ltb k (a * b) h))))
        (le_or_lt (a * b) k)

-- Only what `new` says of the cells of the sheet counts.
pub redrawn_same : (a b : ℕ) (f g : ℕ → ℕ → ℕ) (t : List ℕ) → ((x y : ℕ) → Inside x y a b → f x y ≡ g x y) → redrawn a b f t ≡ redrawn a b g t
unfolding redrawn
redrawn_same a b f g t same = by_index_same _ _ (length t) each
  where
    each : (k : ℕ) → k < length t → entry a f t k (ltb k (a * b)) ≡ entry a g t k (ltb k (a * b))
    each k l =
        ⊎_elim
        (λ h. ap (entry a f t k) (le-ltb k (a * b) h) ∙ sym (ap (entry a g t k) (le-ltb k (a * b) h)))
        (λ h. ap (entry a f t k) (lt-ltb k (a * b) h) ∙ (same _ _ (cell_inside a b k h) ∙ sym (ap (entry a g t k) (lt-ltb k (a * b) h))))
        (le_or_lt (a * b) k)

pub redrawn_keeps : (a b : ℕ) (t : List ℕ) → redrawn a b (cell_of a t) t ≡ t
redrawn_keeps a b t = sym (is_redrawn a b (cell_of a t) t t refl (λ x y i. refl) (λ k h. refl))

-- What was drawn before is gone.
pub redrawn_again : (a b : ℕ) (f g : ℕ → ℕ → ℕ) (t : List ℕ) → a * b ≤ length t → redrawn a b g (redrawn a b f t) ≡ redrawn a b g t
redrawn_again a b f g t room =
    let long : length (redrawn a b f t) ≡ length t = redrawn-length a b f t in
    let whole : a * b ≤ length (redrawn a b f t) = omega arith in
    is_redrawn a b g t (redrawn a b g (redrawn a b f t)) (redrawn-length a b g (redrawn a b f t) ∙ long)
    (λ x y i. redrawn_cell g (redrawn a b f t) whole i)
    (λ k h. redrawn_beyond a b g (redrawn a b f t) k h ∙ redrawn_beyond a b f t k h)

-- What the code reads at the place of a cell is the cell: within the row no default counts.
pub read_cell : {x y a b : ℕ} (t : List ℕ) → a * b ≤ length t → Inside x y a b → (k : ℕ) → k ≡ place a x y → get_or t k 0 ≡ cell_of a t x y
unfolding cell_of
read_cell {x} {y} {a} t room i k e =
    let here : k < length t = omega (arith, place_below i) in
    sym (get_or_default_zero t k empty here) ∙ ap (λ n. get_or t n empty) e

-- The cells of a row stand beside one another.
pub row_cell : {a w : ℕ} (t : List ℕ) (x k : ℕ) {first : ℕ} → Holds a w t → x ≤ a → first ≡ place a 1 w → k < x
    → get_or (between first (first + x) t) k 0 ≡ cell_of a t (k + 1) w
unfolding place
row_cell t x k s h e l = get_or-between t _ _ k 0 (omega arith) ∙ read_cell t s.room (omega (arith, s)) _ (omega arith)

-- A store to cell (x, y), as cell_of sees it.
pub store_same : {x y a b : ℕ} (t : List ℕ) (v : ℕ) → a * b ≤ length t → Inside x y a b → cell_of a (set t (place a x y) v) x y ≡ v
unfolding cell_of
store_same {x} {y} {a} {b} t v room i = get_or-set_same t (place a x y) v empty (omega (arith, place_below i))

pub store_other : {x y u w a b : ℕ} (t : List ℕ) (v : ℕ) → Inside x y a b → Inside u w a b → ((u ≡ x) × (w ≡ y) → ⊥)
    → cell_of a (set t (place a x y) v) u w ≡ cell_of a t u w
unfolding cell_of
store_other {x} {y} {u} {w} {a} t v i j other = get_or-set_other t (place a x y) (place a u w) v empty (λ e. other (same_place j i e))

pub store_beyond : {x y a b : ℕ} (t : List ℕ) (v : ℕ) → Inside x y a b → (k : ℕ) → a * b ≤ k → get_or (set t (place a x y) v) k empty ≡ get_or t k empty
store_beyond {x} {y} {a} t v i k h = get_or-set_other t (place a x y) k v empty (λ e. omega (arith, place_below i))
