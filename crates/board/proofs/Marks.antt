-- A mark is a point: of P where the sizes are the widths, and of Q, which is P of the turned lay, where they are the heights.
use Prim.Native.Nat.{ℕ, ◌≤◌, ◌<◌}
use mathlib.Core.Bool.{Bool, true, false}
use mathlib.Core.Path.{◌≡◌, refl, sym, ap, ◌∙◌}
use mathlib.Core.List.{List}
use mathlib.Core.Logic.{◌≢◌, ◌↔◌}
use native.Mathlib.Omega.{arith}
use native.Mathlib.Decide.{ℕ_discrete}
use lib.ListN.{length, set, length-set}
use lib.Seq.{get_or-set_same, get_or-set_other}
use lib.Dec.{leb}
use Rattle.laws.specs.Inner.{Says}
use Rattle.laws.proofs.Says.{true≢false, says_iff, says_le}
use Rattle.laws.proofs.ByIndex.{by_index_at, by_index-length, is_by_index}
use Rattle.cutting.specs.Limits.{side_max}
use Rattle.cutting.specs.Piece.{Lay}
use Rattle.cutting.specs.Points.{Width, Sum, one, more, P}
use Rattle.board.specs.Inner.{Size, reaches, is_point, mark_at, mark_count, mark_row, marks_of}
use Rattle.board.proofs.Reaches.{reaches_least, reaches_says, reaches_sizes}

-- The row of marks of a test.
module _ (test : ℕ → Bool) where
  pub mark_row-length : length (mark_row test) ≡ mark_count
  unfolding mark_row
  mark_row-length = by_index-length test mark_count

  pub mark_row_at : (c : ℕ) → c ≤ side_max → mark_at (mark_row test) c ≡ test c
  unfolding mark_row
  mark_row_at c h = by_index_at test mark_count c false (omega arith)

  -- A row with these marks is it.
  pub is_mark_row : (l : List Bool) → length l ≡ mark_count → ((c : ℕ) → c ≤ side_max → mark_at l c ≡ test c) → l ≡ mark_row test
  unfolding mark_row
  is_mark_row l long at = is_by_index test mark_count l false long (λ c h. at c (omega arith))

pub mark_row_same : (test other : ℕ → Bool) → ((c : ℕ) → test c ≡ other c) → mark_row test ≡ mark_row other
mark_row_same test other same = is_mark_row other (mark_row test) (mark_row-length test) (λ c h. mark_row_at test c h ∙ same c)

-- One mark set anew, for a test that differs only there.
pub mark_row_set : (test other : ℕ → Bool) (at : ℕ) {v : Bool} → at ≤ side_max → ((c : ℕ) → c ≢ at → test c ≡ other c) → v ≡ other at
    → set (mark_row test) at v ≡ mark_row other
mark_row_set test other at {v} h same e =
    is_mark_row other (set (mark_row test) at v) (length-set (mark_row test) at v ∙ mark_row-length test) (λ c b. each c b (ℕ_discrete c at))
  where
    each : (c : ℕ) → c ≤ side_max → Dec (c ≡ at) → mark_at (set (mark_row test) at v) c ≡ other c
    each c b (yes q) =
        let inside : at < length (mark_row test) = omega (arith, mark_row-length test) in
        rw (q, get_or-set_same) e
    each c b (no d) = get_or-set_other (mark_row test) at c v false d ∙ (mark_row_at test c b ∙ same c d)

module _ (size : ℕ → ℕ) (n side : ℕ) where
  pub is_point_says : (c : ℕ) → Says (is_point size n side c) ((c ≤ side) × (reaches size n c ≡ true))
  unfolding is_point
  is_point_says c = within (leb c side) (says_le c side)
    where
      within : (b : Bool) → Says b (c ≤ side)
          → Says (elim b as (λ x. Bool) [ true ↦ reaches size n c | false ↦ false ]) ((c ≤ side) × (reaches size n c ≡ true))
      within true s = record { means = λ e. (s.means refl, e); found = λ h. h.1 }
      within false s = record { means = λ e. absurd (true≢false (sym e)); found = λ h. s.found h.0 }

  pub marks_of-length : length (marks_of size n side) ≡ mark_count
  unfolding marks_of
  marks_of-length = mark_row-length (is_point size n side)

  pub marks_of_at : (c : ℕ) → c ≤ side_max → mark_at (marks_of size n side) c ≡ is_point size n side c
  unfolding marks_of
  marks_of_at = mark_row_at (is_point size n side)

-- Only the first n sizes count.
pub marks_of_sizes : (size other : ℕ → ℕ) (n side : ℕ) → ((k : ℕ) → k < n → size k ≡ other k) → marks_of size n side ≡ marks_of other n side
unfolding marks_of is_point
marks_of_sizes size other n side same =
    mark_row_same (is_point size n side) (is_point other n side)
    (λ c. ap (λ (b : Bool). elim (leb c side) as (λ x. Bool) [ true ↦ b | false ↦ false ]) (reaches_sizes size other n same c))

-- The sums of the same sizes are the same.
pub sum_over : (S R : ℕ → Type 0) → ((p : ℕ) → S p → R p) → (c : ℕ) → Sum S c → Sum R c
sum_over S R f c (one {s} z) = one (f s z)
sum_over S R f c (more {s} {r} z rest q) = more (f s z) (sum_over S R f r rest) q

-- Where the sizes are the widths of a lay, the test says that c is a point of P (rule 3.1).
pub is_point_P : (lay : Lay) (size : ℕ → ℕ) (n a c : ℕ) → ((p : ℕ) → Width lay p ↔ Size size n p) → Says (is_point size n a c) (P lay a c)
is_point_P lay size n a c same = says_iff (means, found) (is_point_says size n a c)
  where
    means : (c ≤ a) × (reaches size n c ≡ true) → P lay a c
    means (l, e) =
        let least = reaches_least size n c e in
        record {
          sum = sum_over (Size size n) (Width lay) (λ p. (same p).1) c ((reaches_says size n c least).means e);
          within = l;
          not_zero = least;
        }

    found : P lay a c → (c ≤ a) × (reaches size n c ≡ true)
    found p = (p.within, (reaches_says size n c p.not_zero).found (sum_over (Width lay) (Size size n) (λ w. (same w).0) c p.sum))
