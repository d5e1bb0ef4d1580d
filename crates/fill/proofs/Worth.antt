-- The worth of a cell: it reads smaller cells alone, it is the largest candidate, and it stays within the cell's bound.
use Prim.Native.Nat.{ℕ, zero, suc, ◌+◌, ◌/◌, ◌≤◌, ◌<◌, max}
use mathlib.Core.Bool.{Bool, true, false, cond}
use mathlib.Core.Path.{◌≡◌, refl, sym, ap, ap₂, subst}
use mathlib.Core.Logic.{⊎_elim}
use mathlib.Core.List.{List}
use native.Mathlib.Omega.{arith}
use Rattle.laws.specs.Inner.{Says}
use Rattle.laws.proofs.Order.{larger}
use Rattle.laws.proofs.Below.{best_below_bound, best_below_attained, best_below_same}
use Rattle.cutting.specs.Limits.{value_max}
use Rattle.cutting.specs.Piece.{Piece, Lay, Lays, Fits, Inside}
use Rattle.cutting.specs.Dissection.{rest, Line}
use Rattle.cutting.specs.Candidate.{UpToHalf, Candidate, Worth, Smaller}
use Rattle.cutting.proofs.Bound.{most, most_parts, most_mono}
use Rattle.cells.specs.Inner.{fits}
use Rattle.cells.proofs.Emptied.{fits_says}
use Rattle.board.specs.Inner.{Rows, Hold}
use Rattle.board.proofs.Holds.{row_lays, lays_row}
use Rattle.fill.specs.Inner.{fitting_value, line_at, line_value, worth_of}

-- The value of a line's two parts depends on the parts alone.
pub line_value_same : (marked : ℕ → Bool) (part other : ℕ → ℕ) (x : ℕ) → ((c : ℕ) → 1 ≤ c → c < x → part c ≡ other c)
    → line_value marked part x ≡ line_value marked other x
unfolding line_value line_at
line_value_same marked part other x h =
    best_below_same _ _ (x / 2)
    (λ i b. ap (λ (v : ℕ). cond (marked (suc i)) v 0) (ap₂ ◌+◌ (h (suc i) (omega arith) (omega arith)) (h (rest x (suc i)) (omega arith) (omega arith))))

-- The worth reads the cells before it in its row and in its column alone.
pub worth_of_asks : (rows : Rows) (cell other : ℕ → ℕ → ℕ) (u w : ℕ)
    → ((c : ℕ) → 1 ≤ c → c < u → cell c w ≡ other c w)
    → ((d : ℕ) → 1 ≤ d → d < w → cell u d ≡ other u d)
    → worth_of rows cell u w ≡ worth_of rows other u w
unfolding worth_of
worth_of_asks rows cell other u w across up =
    ap₂ (λ (m n : ℕ). max (fitting_value rows.width rows.height rows.value rows.count u w) (max m n))
    (line_value_same rows.in_p (λ c. cell c w) (λ c. other c w) u across)
    (line_value_same rows.in_q (λ d. cell u d) (λ d. other u d) w up)

-- These are smaller.
pub worth_of_same : (rows : Rows) (cell other : ℕ → ℕ → ℕ) (u w : ℕ) → 1 ≤ u → 1 ≤ w → ((x y : ℕ) → Smaller x y u w → cell x y ≡ other x y)
    → worth_of rows cell u w ≡ worth_of rows other u w
worth_of_same rows cell other u w p q h =
    worth_of_asks rows cell other u w
    (λ c g k. h c w (record { inside = omega arith; less = omega arith }))
    (λ d g k. h u d (record { inside = omega arith; less = omega arith }))

-- A line's value is that of a marked line, or 0; and no marked line has more.
line_value_attained : (marked : ℕ → Bool) (part : ℕ → ℕ) (x : ℕ) (S : ℕ → Type 0) → S 0
    → ((c r : ℕ) → marked c ≡ true → UpToHalf c x → Line x c r → S (part c + part r)) → S (line_value marked part x)
unfolding line_value line_at
line_value_attained marked part x S none each =
    ⊎_elim (λ e. subst S (sym e) none) (λ t. subst S (sym t.2) (at t.0 t.1 (marked (suc t.0)) refl))
    (best_below_attained (λ i. line_at marked part x (suc i)) (x / 2))
  where
    at : (i : ℕ) → i < x / 2 → (b : Bool) → marked (suc i) ≡ b → S (cond b (part (suc i) + part (rest x (suc i))) 0)
    at i h true e = each (suc i) (rest x (suc i)) e (omega arith) (record { least = omega arith; most = omega arith; leaves = refl })
    at i h false e = none

line_value_bound : (marked : ℕ → Bool) (part : ℕ → ℕ) (x c r : ℕ) → marked c ≡ true → UpToHalf c x → Line x c r → part c + part r ≤ line_value marked part x
unfolding line_value line_at
line_value_bound marked part x zero r e h l = absurd (omega arith)
line_value_bound marked part x (suc i) r e h l =
    omega (
      arith,
      best_below_bound (λ k. line_at marked part x (suc k)) (x / 2) i (omega arith),
      ap (λ (b : Bool). cond b (part (suc i) + part (rest x (suc i))) 0) e,
      ap part l.leaves,
    )

fitting_attained : (rows : Rows) (u w : ℕ) (S : ℕ → Type 0) → S 0 → ((k : ℕ) → k < rows.count → Fits (rows.width k) (rows.height k) u w → S (rows.value k))
    → S (fitting_value rows.width rows.height rows.value rows.count u w)
unfolding fitting_value
fitting_attained rows u w S none each =
    ⊎_elim (λ e. subst S (sym e) none) (λ t. subst S (sym t.2) (at t.0 t.1 _ (fits_says (rows.width t.0) (rows.height t.0) u w)))
    (best_below_attained (λ k. cond (fits (rows.width k) (rows.height k) u w) (rows.value k) 0) rows.count)
  where
    at : (k : ℕ) → k < rows.count → (b : Bool) → Says b (Fits (rows.width k) (rows.height k) u w) → S (cond b (rows.value k) 0)
    at k h true s = each k h (s.means refl)
    at k h false s = none

fitting_bound : (rows : Rows) (u w k : ℕ) → k < rows.count → Fits (rows.width k) (rows.height k) u w
    → rows.value k ≤ fitting_value rows.width rows.height rows.value rows.count u w
unfolding fitting_value
fitting_bound rows u w k h f =
    omega (
      arith,
      best_below_bound (λ k. cond (fits (rows.width k) (rows.height k) u w) (rows.value k) 0) rows.count k h,
      ap (λ (b : Bool). cond b (rows.value k) 0) ((fits_says (rows.width k) (rows.height k) u w).found f),
    )

-- What is worked out from the rows is the worth for a lay, on a sheet a by b.
abbrev pub GivesWorth : Rows → Lay → ℕ → ℕ → Type 0
GivesWorth rows lay a b = (cell : ℕ → ℕ → ℕ) (u w : ℕ) → Inside u w a b → Worth lay a b cell u w (worth_of rows cell u w)

-- The worth is the largest candidate, where the rows hold the pieces and the points.
pub worth_of_worth : (rows : Rows) (pieces : List Piece) (a b : ℕ) → Hold rows pieces a b → GivesWorth rows (Lays pieces) a b
unfolding worth_of
worth_of_worth rows pieces a b hold cell u w i =
    record {
      attained =
          larger S
          (fitting_attained rows u w S Candidate.nothing (λ k h f. Candidate.fitting (row_lays hold.lists k h) f))
          (larger S
          (line_value_attained rows.in_p (λ c. cell c w) u S Candidate.nothing
          (λ c r e h l. Candidate.vertical (record { point = (hold.in_p c (omega arith)).means e; half = h; line = l })))
          (line_value_attained rows.in_q (λ d. cell u d) w S Candidate.nothing
          (λ d r e h l. Candidate.horizontal (record { point = (hold.in_q d (omega arith)).means e; half = h; line = l }))));
      bound = λ e. each e;
    }
  where
    S : ℕ → Type 0
    S = Candidate (Lays pieces) a b cell u w

    each : (e : ℕ) → S e → e ≤ worth_of rows cell u w
    each e Candidate.nothing = omega arith
    each e (Candidate.fitting h f) =
        let m = lays_row hold.lists h in
        let row = m.1 in
        omega (arith, row.value, fitting_bound rows u w m.0 row.among (omega arith))
    each e (Candidate.vertical {c = c} {r = r} l) =
        omega (arith, line_value_bound rows.in_p (λ c. cell c w) u c r ((hold.in_p c l.point.within).found l.point) l.half l.line)
    each e (Candidate.horizontal {d = d} {r = r} l) =
        omega (arith, line_value_bound rows.in_q (λ d. cell u d) w d r ((hold.in_q d l.point.within).found l.point) l.half l.line)

-- Where the smaller cells are within their bounds, so is the worth.
pub worth_of_most : (rows : Rows) (cell : ℕ → ℕ → ℕ) (u w : ℕ) → 1 ≤ u → 1 ≤ w → ((k : ℕ) → k < rows.count → rows.value k ≤ value_max)
    → ((x y : ℕ) → Smaller x y u w → cell x y ≤ most x y) → worth_of rows cell u w ≤ most u w
unfolding worth_of
worth_of_most rows cell u w p q values h =
    larger S
    (fitting_attained rows u w S (omega arith) (λ k b f. omega (arith, values k b, most_mono 1 1 u w p q)))
    (larger S
    (line_value_attained rows.in_p (λ c. cell c w) u S (omega arith)
    (λ c r e g l. omega (arith, part c w (omega arith) (omega arith), part r w (omega arith) (omega arith), most_parts u w c r (omega arith))))
    (line_value_attained rows.in_q (λ d. cell u d) w S (omega arith)
    (λ d r e g l. omega (arith, part u d (omega arith) (omega arith), part u r (omega arith) (omega arith), most_parts w u d r (omega arith)))))
  where
    S : ℕ → Type 0
    S v = v ≤ most u w

    part : (x y : ℕ) → Inside x y u w → x + y < u + w → cell x y ≤ most x y
    part x y i l = h x y (record { inside = i; less = l })
