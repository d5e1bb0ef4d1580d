-- The laws of the tests over a box: what they say of each cell, and one row or one cell more for the loops.
use Prim.Native.Nat.{ℕ, zero, suc, ◌+◌, ◌-◌, ◌*◌, ◌≤◌, ◌<◌}
use mathlib.Core.Bool.{Bool, true, false, ◌||◌}
use mathlib.Core.Path.{◌≡◌, sym, ap, ap₂, ◌∙◌}
use mathlib.Core.List.{List}
use native.Mathlib.Omega.{arith}
use native.Mathlib.Numerals.{add-one}
use native.Mathlib.Nat.{mul_comm, add-mul}
use Rattle.std.proofs.Math.Bool.{or-false, or_assoc}
use Rattle.std.specs.List.{list_any, range_with_len}
use Rattle.laws.specs.Inner.{Says, any_below}
use Rattle.laws.specs.Below.{sum_below}
use Rattle.laws.proofs.Says.{says_and, says_not, says_lt, says_eq, says_iff}
use Rattle.laws.proofs.Below.{any_below_none, any_below_more, any_below_says, any_below_same, sum_below_none, sum_below_more, sum_below_same}
use Rattle.laws.proofs.Sums.{sum_below_within, sum_below_zero, sum_below_each}
use Rattle.cutting.specs.Limits.{value_max}
use Rattle.cutting.specs.Piece.{Inside}
use Rattle.cells.specs.Cells.{empty, cell_of}
use Rattle.cells.specs.Box.{counted, count_in_row, count_in_box, is_empty}
use Rattle.cells.specs.Inner.{any_in_row, any_in_box, too_much, exceeds, asked}

-- The tests of one cell.
pub is_empty_says : (a : ℕ) (t : List ℕ) (u w : ℕ) → Says (is_empty a t u w) (cell_of a t u w ≡ empty)
unfolding is_empty
is_empty_says a t u w = says_eq (cell_of a t u w) empty

pub exceeds_says : (a : ℕ) (t : List ℕ) (u w : ℕ) → Says (exceeds a t u w) ((cell_of a t u w ≡ empty → ⊥) × (u * w * value_max < cell_of a t u w))
unfolding exceeds too_much
exceeds_says a t u w = says_and (says_not (says_eq (cell_of a t u w) empty)) (says_lt (u * w * value_max) (cell_of a t u w))

-- Any: what it says.
pub any_in_row_says : (x w : ℕ) (test : ℕ → ℕ → Bool) → Says (any_in_row x w test) ((u : ℕ) × (1 ≤ u) × (u ≤ x) × (test u w ≡ true))
unfolding any_in_row
any_in_row_says x w test =
    says_iff (
      λ s. (suc s.0, omega arith, omega (arith, s.1), s.2),
      λ s. (s.0 - 1, omega (arith, s.1, s.2), ap (λ u. test u w) (omega (arith, s.1)) ∙ s.3),
    )
    (any_below_says (λ i. test (suc i) w) x)

pub any_in_box_says : (x y : ℕ) (test : ℕ → ℕ → Bool) → Says (any_in_box x y test) ((u : ℕ) × (w : ℕ) × Inside u w x y × (test u w ≡ true))
unfolding any_in_box
any_in_box_says x y test =
    says_iff (
      λ s. let r = (any_in_row_says x (suc s.0) test).means s.2 in (r.0, suc s.0, omega (arith, r.1, r.2, s.1), r.3),
      λ s. let r = any_in_row_says x (suc (s.1 - 1)) test in
          (s.1 - 1, omega (arith, s.2), r.found (s.0, omega (arith, s.2), omega (arith, s.2), ap (test s.0) (omega (arith, s.2)) ∙ s.3)),
    )
    (any_below_says (λ j. any_in_row x (suc j) test) y)

-- Cells of which both tests say the same.
pub any_in_box_same : (x y : ℕ) (f g : ℕ → ℕ → Bool) → ((u w : ℕ) → Inside u w x y → f u w ≡ g u w) → any_in_box x y f ≡ any_in_box x y g
unfolding any_in_box any_in_row
any_in_box_same x y f g same =
    any_below_same _ _ y (λ j h. any_below_same _ _ x (λ i k. same (suc i) (suc j) (omega arith)))

pub count_in_row_same : (x w : ℕ) (f g : ℕ → ℕ → Bool) → ((u : ℕ) → 1 ≤ u → u ≤ x → f u w ≡ g u w) → count_in_row x w f ≡ count_in_row x w g
unfolding count_in_row
count_in_row_same x w f g same = sum_below_same _ _ x (λ i k. ap counted (same (suc i) (omega arith) (omega arith)))

pub count_in_box_same : (x y : ℕ) (f g : ℕ → ℕ → Bool) → ((u w : ℕ) → Inside u w x y → f u w ≡ g u w) → count_in_box x y f ≡ count_in_box x y g
unfolding count_in_box
count_in_box_same x y f g same =
    sum_below_same _ _ y (λ j h. count_in_row_same x (suc j) f g (λ u k l. same u (suc j) (omega arith)))

-- A box of x by y has x·y cells.
pub count_in_row_bound : (x w : ℕ) (test : ℕ → ℕ → Bool) → count_in_row x w test ≤ x
unfolding count_in_row
count_in_row_bound x w test = omega (arith, sum_below_within (λ i. counted (test (suc i) w)) x 1 (λ i h. one (test (suc i) w)))
  where
    one : (c : Bool) → counted c ≤ 1
    one true = omega arith
    one false = omega arith

pub count_in_box_bound : (x y : ℕ) (test : ℕ → ℕ → Bool) → count_in_box x y test ≤ x * y
unfolding count_in_box
count_in_box_bound x y test =
    omega (arith, sum_below_within (λ j. count_in_row x (suc j) test) y x (λ j h. count_in_row_bound x (suc j) test), mul_comm x y)

-- The count is 0 exactly where there is no such cell.
pub count_in_row_zero : (x w : ℕ) (test : ℕ → ℕ → Bool) → ((u : ℕ) → 1 ≤ u → u ≤ x → test u w ≡ false) → count_in_row x w test ≡ 0
unfolding count_in_row
count_in_row_zero x w test h = sum_below_zero _ x (λ i b. ap counted (h (suc i) (omega arith) (omega arith)))

-- One more, as the loops go, from 0 with the code's i + 1.
pub any_in_row_none : (w : ℕ) (test : ℕ → ℕ → Bool) → any_in_row 0 w test ≡ false
unfolding any_in_row
any_in_row_none w test = any_below_none _

any_in_row_more : (i w : ℕ) (test : ℕ → ℕ → Bool) → any_in_row (i + 1) w test ≡ any_in_row i w test || test (i + 1) w
unfolding any_in_row
any_in_row_more i w test = any_below_more (λ k. test (suc k) w) i ∙ ap (λ u. any_in_row i w test || test u w) (sym (add-one i))

-- What the cell of the next column may earn.
pub column_more : (i w : ℕ) {m : ℕ} → m ≡ i * w * value_max → m + w * value_max ≡ (i + 1) * w * value_max
column_more i w e = omega (arith, add-mul i 1 w)

-- One column more, for a walk along row w: the next cell has the number v and may earn m.
pub row_asked : {found here : Bool} (test : ℕ → ℕ → Bool) (a : ℕ) (t : List ℕ) (i w : ℕ) {v m : ℕ} → found ≡ any_in_row i w (asked test a t)
    → here ≡ test v m → v ≡ cell_of a t (i + 1) w → m ≡ (i + 1) * w * value_max → (found || here) ≡ any_in_row (i + 1) w (asked test a t)
unfolding asked
row_asked test a t i w f h v m = ap₂ ◌||◌ f (h ∙ ap₂ test v m) ∙ sym (any_in_row_more i w (asked test a t))

-- The rows of a box, asked one after the other from the first on.
pub any_in_rows : (x y : ℕ) (test : ℕ → ℕ → Bool) → list_any (λ w. any_in_row x w test) (range_with_len 1 y) ≡ any_in_box x y test
unfolding any_in_box any_below
any_in_rows x y test = listed (λ w. any_in_row x w test) 1 y ∙ any_below_same _ _ y (λ j h. ap (λ w. any_in_row x w test) (omega arith))
  where
    first : (f : ℕ → Bool) (n : ℕ) → any_below f (suc n) ≡ f 0 || any_below (λ j. f (suc j)) n
    first f zero = sym (or-false (f 0))
    first f (suc n) = ap (λ b. b || f (suc n)) (first f n) ∙ or_assoc (f 0) _ _

    listed : (f : ℕ → Bool) (k n : ℕ) → list_any f (range_with_len k n) ≡ any_below (λ j. f (k + j)) n
    listed f k zero = sym (any_below_none (λ j. f (k + j)))
    listed f k (suc n) =
        ap₂ ◌||◌ (ap f (omega arith)) (listed f (k + 1) n ∙ any_below_same (λ j. f (k + 1 + j)) (λ j. f (k + suc j)) n (λ j h. ap f (omega arith)))
        ∙ sym (first (λ j. f (k + j)) n)

pub any_in_box_more : (x j : ℕ) (test : ℕ → ℕ → Bool) → any_in_box x j test ≡ false → any_in_row x (j + 1) test ≡ false → any_in_box x (j + 1) test ≡ false
unfolding any_in_box
any_in_box_more x j test e f =
    any_below_more (λ k. any_in_row x (suc k) test) j ∙ ap₂ ◌||◌ e (ap (λ w. any_in_row x w test) (sym (add-one j)) ∙ f)

pub any_in_box_found : (x : ℕ) {j y : ℕ} (test : ℕ → ℕ → Bool) → j < y → any_in_row x (j + 1) test ≡ true → any_in_box x y test ≡ true
unfolding any_in_box
any_in_box_found x {j} {y} test h e =
    (any_below_says (λ k. any_in_row x (suc k) test) y).found (j, h, ap (λ w. any_in_row x w test) (sym (add-one j)) ∙ e)

pub count_in_row_more : (i : ℕ) {u : ℕ} (w : ℕ) (test : ℕ → ℕ → Bool) → u ≡ i + 1 → count_in_row u w test ≡ count_in_row i w test + counted (test u w)
unfolding count_in_row
count_in_row_more i {u} w test next =
    let at : suc i ≡ u = omega arith in
    ap (sum_below (λ k. counted (test (suc k) w))) next
    ∙ (sum_below_more (λ k. counted (test (suc k) w)) i ∙ ap (λ m. sum_below (λ k. counted (test (suc k) w)) i + counted (test m w)) at)

pub count_in_box_none : (x : ℕ) (test : ℕ → ℕ → Bool) → count_in_box x 0 test ≡ 0
unfolding count_in_box
count_in_box_none x test = sum_below_none _

pub count_in_box_more : (x j : ℕ) {w : ℕ} (test : ℕ → ℕ → Bool) → w ≡ j + 1 → count_in_box x w test ≡ count_in_box x j test + count_in_row x w test
unfolding count_in_box
count_in_box_more x j {w} test next =
    let at : suc j ≡ w = omega arith in
    ap (sum_below (λ k. count_in_row x (suc k) test)) next
    ∙ (sum_below_more (λ k. count_in_row x (suc k) test) j ∙ ap (λ n. sum_below (λ k. count_in_row x (suc k) test) j + count_in_row x n test) at)

-- A test that is the same in every cell of a box counts all of its cells, or none.
count_in_box_each : (x y : ℕ) (test : ℕ → ℕ → Bool) (b : Bool) → ((u w : ℕ) → Inside u w x y → test u w ≡ b) → count_in_box x y test ≡ y * (x * counted b)
unfolding count_in_box count_in_row
count_in_box_each x y test b same =
    sum_below_each _ y (x * counted b) (λ j h. sum_below_each _ x (counted b) (λ i k. ap counted (same (suc i) (suc j) (omega arith))))

pub count_in_box_zero : (x y : ℕ) (test : ℕ → ℕ → Bool) → ((u w : ℕ) → Inside u w x y → test u w ≡ false) → count_in_box x y test ≡ 0
count_in_box_zero x y test none = omega (arith, count_in_box_each x y test false none)

pub count_in_box_all : (x y : ℕ) (test : ℕ → ℕ → Bool) → ((u w : ℕ) → Inside u w x y → test u w ≡ true) → count_in_box x y test ≡ x * y
count_in_box_all x y test all = omega (arith, count_in_box_each x y test true all, mul_comm x y)
