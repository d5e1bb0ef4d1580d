-- The laws of emptying, for the desk and for the two loops.
use Prim.Native.Nat.{ℕ, ◌*◌, ◌≤◌, ◌<◌}
use mathlib.Core.Bool.{Bool, true, false, cond, ◌||◌}
use mathlib.Core.Path.{◌≡◌, refl, sym, ap, ◌∙◌, subst}
use mathlib.Core.List.{List}
use mathlib.Core.Logic.{⊎_elim, ◌↔◌}
use native.Mathlib.Omega.{arith}
use native.Mathlib.Nat.{mul-le-mul_left}
use lib.ListN.{length, get_or}
use Rattle.laws.specs.Inner.{Says}
use Rattle.laws.proofs.Order.{le_or_lt}
use Rattle.laws.proofs.Says.{says_and, says_le, says_iff, says_no, says_false}
use Rattle.cutting.specs.Piece.{Fits, Inside}
use Rattle.cells.specs.Cells.{empty, place, cell_of}
use Rattle.cells.specs.Emptied.{Empties}
use Rattle.cells.specs.Inner.{emptied_where, fits, emptied}
use Rattle.cells.proofs.Places.{place_above}
use Rattle.cells.proofs.Redrawn.{redrawn-length, redrawn_cell, redrawn_beyond, is_redrawn, redrawn_same, redrawn_keeps}

-- What a cell holds afterwards, by whether it is struck.
abbrev left : ℕ → List ℕ → ℕ → ℕ → Bool → ℕ
left a t x y struck = cond struck empty (cell_of a t x y)

pub emptied_where-length : (a b : ℕ) (r : ℕ → ℕ → Bool) (t : List ℕ) → length (emptied_where a b r t) ≡ length t
unfolding emptied_where
emptied_where-length a b r t = redrawn-length a b _ t

pub emptied_where_cell : {x y a b : ℕ} (r : ℕ → ℕ → Bool) (t : List ℕ) → a * b ≤ length t → Inside x y a b
    → cell_of a (emptied_where a b r t) x y ≡ cond (r x y) empty (cell_of a t x y)
unfolding emptied_where
emptied_where_cell r t room i = redrawn_cell _ t room i

pub emptied_where_beyond : (a b : ℕ) (r : ℕ → ℕ → Bool) (t : List ℕ) (k : ℕ) → a * b ≤ k → get_or (emptied_where a b r t) k empty ≡ get_or t k empty
unfolding emptied_where
emptied_where_beyond a b r t k h = redrawn_beyond a b _ t k h

pub is_emptied_where : (a b : ℕ) (r : ℕ → ℕ → Bool) (t t' : List ℕ) → length t' ≡ length t
    → ((x y : ℕ) → Inside x y a b → cell_of a t' x y ≡ cond (r x y) empty (cell_of a t x y)) → ((k : ℕ) → a * b ≤ k → get_or t' k empty ≡ get_or t k empty)
    → t' ≡ emptied_where a b r t
unfolding emptied_where
is_emptied_where a b r t t' = is_redrawn a b _ t t'

-- Where the test says what is hit, the row that it empties is the only one that `Empties` allows.
module _ (a b : ℕ) (struck : ℕ → ℕ → Bool) (hit : ℕ → ℕ → Type 0) (t : List ℕ) (room : a * b ≤ length t)
    (says : (x y : ℕ) → Inside x y a b → Says (struck x y) (hit x y)) where
  pub emptied_where_empties : Empties a b hit t (emptied_where a b struck t)
  emptied_where_empties =
      record {
        emptied = λ x y i h. emptied_where_cell struck t room i ∙ ap (left a t x y) ((says x y i).found h);
        kept = λ x y i h. emptied_where_cell struck t room i ∙ ap (left a t x y) (says_no (says x y i) h);
        beyond = emptied_where_beyond a b struck t;
        long = emptied_where-length a b struck t;
      }

  pub empties_only : (t' : List ℕ) → Empties a b hit t t' → t' ≡ emptied_where a b struck t
  empties_only t' e = is_emptied_where a b struck t t' e.long (λ x y i. by x y i (struck x y) (says x y i)) e.beyond
    where
      by : (x y : ℕ) → Inside x y a b → (s : Bool) → Says s (hit x y) → cell_of a t' x y ≡ left a t x y s
      by x y i true s = e.emptied x y i (s.means refl)
      by x y i false s = e.kept x y i (says_false s refl)

  pub empties_exactly : (t' : List ℕ) → (t' ≡ emptied_where a b struck t) ↔ Empties a b hit t t'
  empties_exactly t' = ((λ e. subst (Empties a b hit t) (sym e) emptied_where_empties), empties_only t')

-- Only what is said of the cells of the sheet counts.
pub emptied_where_same : (a b : ℕ) (r s : ℕ → ℕ → Bool) (t : List ℕ) → ((x y : ℕ) → Inside x y a b → r x y ≡ s x y) → emptied_where a b r t ≡ emptied_where a b s t
unfolding emptied_where
emptied_where_same a b r s t same = redrawn_same a b _ _ t (λ x y i. ap (left a t x y) (same x y i))

pub emptied_where_none : (a b : ℕ) (r : ℕ → ℕ → Bool) (t : List ℕ) → ((x y : ℕ) → Inside x y a b → r x y ≡ false) → emptied_where a b r t ≡ t
unfolding emptied_where
emptied_where_none a b r t none = redrawn_same a b _ (cell_of a t) t (λ x y i. ap (left a t x y) (none x y i)) ∙ redrawn_keeps a b t

-- Emptying twice empties where either is struck, as a correct needs it (rule 5.2).
pub emptied_where_twice : (a b : ℕ) (r s : ℕ → ℕ → Bool) (t : List ℕ) → a * b ≤ length t
    → emptied_where a b s (emptied_where a b r t) ≡ emptied_where a b (λ x y. r x y || s x y) t
emptied_where_twice a b r s t room =
    let first : List ℕ = emptied_where a b r t in
    let long : length first ≡ length t = emptied_where-length a b r t in
    let whole : a * b ≤ length first = omega arith in
    is_emptied_where a b (λ x y. r x y || s x y) t (emptied_where a b s first) (emptied_where-length a b s first ∙ long)
    (λ x y i. emptied_where_cell s first whole i ∙ (ap (cond (s x y) empty) (emptied_where_cell r t room i) ∙ either (r x y) (s x y) (cell_of a t x y)))
    (λ k h. emptied_where_beyond a b s first k h ∙ emptied_where_beyond a b r t k h)
  where
    either : (c d : Bool) (v : ℕ) → cond d empty (cond c empty v) ≡ cond (c || d) empty v
    either true true v = refl
    either true false v = refl
    either false true v = refl
    either false false v = refl

-- Nothing struck above row y: the rows above need not be looked at.
pub emptied_where_lower : (a b y : ℕ) (r : ℕ → ℕ → Bool) (t : List ℕ) → y ≤ b → a * b ≤ length t → ((u w : ℕ) → y < w → r u w ≡ false)
    → emptied_where a y r t ≡ emptied_where a b r t
unfolding cell_of
emptied_where_lower a b y r t low room none =
    let less : a * y ≤ a * b = mul-le-mul_left a low in
    is_emptied_where a b r t (emptied_where a y r t) (emptied_where-length a y r t)
    (λ u w i. ⊎_elim
    (λ h. emptied_where_cell r t (omega arith) (omega arith))
    (λ h. emptied_where_beyond a y r t (place a u w) (place_above y i h) ∙ sym (ap (left a t u w) (none u w h)))
    (le_or_lt w y))
    (λ k h. emptied_where_beyond a y r t k (omega arith))

pub fits_says : (p q x y : ℕ) → Says (fits p q x y) (Fits p q x y)
unfolding fits
fits_says p q x y = says_iff (λ h. omega arith, λ h. omega arith) (says_and (says_le p x) (says_le q y))

pub emptied-length : (a b p q : ℕ) (t : List ℕ) → length (emptied a b p q t) ≡ length t
unfolding emptied
emptied-length a b p q t = emptied_where-length a b (fits p q) t

-- A cell where p by q fits is empty then (rule 5.2).
pub emptied_fitting : {p q x y a b : ℕ} (t : List ℕ) → a * b ≤ length t → Inside x y a b → Fits p q x y → cell_of a (emptied a b p q t) x y ≡ empty
unfolding emptied
emptied_fitting {p} {q} {x} {y} {a} t room i f = emptied_where_cell (fits p q) t room i ∙ ap (left a t x y) ((fits_says p q x y).found f)

-- Open empties every cell, since each has room for 1 by 1 (rule 4.4).
pub emptied_whole : {x y a b : ℕ} (t : List ℕ) → a * b ≤ length t → Inside x y a b → cell_of a (emptied a b 1 1 t) x y ≡ empty
emptied_whole t room i = emptied_fitting t room i (omega arith)

-- Emptying for two sizes empties where either fits, as a correct does (rule 5.2).
pub emptied_twice : (a b p q p' q' : ℕ) (t : List ℕ) → a * b ≤ length t
    → emptied a b p' q' (emptied a b p q t) ≡ emptied_where a b (λ x y. fits p q x y || fits p' q' x y) t
unfolding emptied
emptied_twice a b p q p' q' t room = emptied_where_twice a b (fits p q) (fits p' q') t room
