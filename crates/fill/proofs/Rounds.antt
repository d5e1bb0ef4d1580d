-- What the code needs and gives at each cell, row and box, over the definitions.
use Prim.Native.Nat.{ℕ, ◌+◌, ◌-◌, ◌*◌, ◌≤◌, ◌<◌, max}
use mathlib.Core.Bool.{Bool, false, cond}
use mathlib.Core.Path.{◌≡◌, sym, ap, ap₂, ◌∙◌, subst}
use mathlib.Core.List.{List}
use mathlib.Core.Logic.{⊎_elim}
use native.Mathlib.Omega.{arith}
use lib.Dec.{eqb}
use lib.ListN.{set}
use Rattle.std.proofs.Common.{Option, Some, None}
use Rattle.std.specs.Option.{MatchOption, unwrap_or}
use Rattle.laws.proofs.Order.{le_or_lt, last_or_below}
use Rattle.laws.proofs.Says.{says_eq, says_no, says_false}
use Rattle.cutting.specs.Limits.{side_max}
use Rattle.cutting.specs.Piece.{Inside}
use Rattle.cutting.proofs.Bound.{most, most_parts}
use Rattle.cells.specs.Cells.{empty, place, cell_of}
use Rattle.cells.specs.Inner.{Holds, any_in_row}
use Rattle.cells.specs.Box.{is_empty, counted, count_in_row, count_in_box}
use Rattle.cells.proofs.Places.{holds_lower, area_fits}
use Rattle.cells.proofs.Box.{is_empty_says, any_in_row_says, count_in_box_zero, count_in_row_more, count_in_box_more, count_in_row_same, count_in_row_zero, count_in_row_bound, count_in_box_bound}
use Rattle.board.specs.Inner.{Rows}
use Rattle.fill.specs.Inner.{line_value, worth_of, RowLines, floor_by, cell_raised, LinesUp, FullBefore, filled, Around, RowReady, BoxReady}
use Rattle.fill.proofs.Worth.{line_value_same}
use Rattle.fill.specs.Filled.{Full}
use Rattle.fill.proofs.Filled.{most_fits, final_most, filled_inside, filled_outside}
use Rattle.fill.proofs.Growing.{cell_filled, filled_again, filled-length, filled_full, filled_cell, early, old_cell}

-- The lines across up to a cell.
pub around_lines : (a : ℕ) (t : List ℕ) (u w : ℕ) → Around a t u w → RowLines a t w u
around_lines a t u w s =
    record {
      holds = s.holds;
      wide = s.wide;
      adds = λ c r l.
          omega (
            arith,
            below c (omega arith) (omega arith),
            below r (omega arith) (omega arith),
            most_parts u w c r (omega arith),
            most_fits u w (omega (arith, s.wide, s.holds.width_most)) s.holds.height_most,
          );
    }
  where
    below : (c : ℕ) → 1 ≤ c → c < u → cell_of a t c w ≤ most c w
    below c p h = s.below c w (record { inside = omega (arith, s.holds.height_least); less = omega arith })

-- A cell that is not empty is left, an empty one is worked out.
cell_raised_lem : (floor : ℕ) (in_p : ℕ → Bool) (a u w : ℕ) (t : List ℕ) {s : Bool} → is_empty a t u w ≡ s
    → cell_raised floor in_p a u w t ≡ cond s (set t (place a u w) (max floor (line_value in_p (λ c. cell_of a t c w) u))) t
unfolding cell_raised
cell_raised_lem floor in_p a u w t e = ap (λ (b : Bool). cond b (set t (place a u w) (max floor (line_value in_p (λ c. cell_of a t c w) u))) t) e

pub cell_kept : (floor : ℕ) (in_p : ℕ → Bool) (a u w : ℕ) (t : List ℕ) {v : ℕ} → v ≡ cell_of a t u w → (v ≡ empty → ⊥)
    → (0 ≡ counted (is_empty a t u w)) × (t ≡ cell_raised floor in_p a u w t)
cell_kept floor in_p a u w t e h =
    let s = says_no (is_empty_says a t u w) (λ k. h (e ∙ k)) in
    (ap counted (sym s), sym (cell_raised_lem floor in_p a u w t s))

pub cell_worked : (floor : ℕ) (in_p : ℕ → Bool) (a u w : ℕ) (t t' : List ℕ) {v line m : ℕ} → v ≡ cell_of a t u w → v ≡ empty
    → line ≡ line_value in_p (λ c. cell_of a t c w) u → m ≡ max floor line → t' ≡ set t (place a u w) m
    → (1 ≡ counted (is_empty a t u w)) × (t' ≡ cell_raised floor in_p a u w t)
cell_worked floor in_p a u w t t' e h l g k =
    let s = (is_empty_says a t u w).found (sym e ∙ h) in
    (ap counted (sym s), k ∙ (ap (set t (place a u w)) (g ∙ ap (max floor) l) ∙ sym (cell_raised_lem floor in_p a u w t s)))

-- A cell raised from its true floor gets its worth.
raised_filled : (rows : Rows) (a u w : ℕ) (t : List ℕ) {floor : ℕ}
    → floor ≡ floor_by rows.width rows.height rows.value rows.count rows.in_q (cell_of a t) w u
    → cell_raised floor rows.in_p a u w t ≡ cell_filled rows a u w t
unfolding cell_raised cell_filled floor_by worth_of
raised_filled rows a u w t {floor} e =
    let worth : max floor (line_value rows.in_p (λ c. cell_of a t c w) u) ≡ worth_of rows (cell_of a t) u w = omega (arith, e) in
    ap (λ (v : ℕ). cond (is_empty a t u w) (set t (place a u w) v) t) worth

-- Along a row: the first i cells of row w are done, and the next column is u.
module _ (rows : Rows) (a b x w : ℕ) (t : List ℕ) (ready : RowReady rows a b x w t) (i u : ℕ) (next : u ≡ i + 1) (more : i < x) where
  full : Full a t u (w - 1)
  full m n j = ready.full m n (omega arith)

  in_width : i < a
  in_width = omega (arith, ready.inside.width_most)

  pub row_around : {now : List ℕ} → now ≡ filled rows a b i w t → Around a now u w
  row_around e =
      subst (λ (l : List ℕ). Around a l u w) (sym e)
      (record {
        holds = omega (arith, h, filled-length rows a b i w t);
        least = omega arith;
        wide = omega (arith, in_width);
        below = λ m n s.
            omega (
              arith,
              early rows a b t ready.holds.room i u w next in_width h.height_least ready.inside.height_most full m n s.inside
                  (λ k. omega (arith, s.less, k)),
              final_most rows (cell_of a t) x w ready.valued ready.bounded m n (omega (arith, s.inside)),
            );
      })
    where
      h : Holds a w t
      h = holds_lower w ready.holds ready.inside.height_least ready.inside.height_most

  -- The floor of the next cell is as it was before the row.
  floor_still : floor_by rows.width rows.height rows.value rows.count rows.in_q (cell_of a (filled rows a b i w t)) w u
      ≡ floor_by rows.width rows.height rows.value rows.count rows.in_q (cell_of a t) w u
  unfolding floor_by
  floor_still =
      ap (max _) (line_value_same rows.in_q _ _ w
      (λ d p h. filled_outside rows a b i w t ready.holds.room (omega (arith, in_width)) ready.inside.height_most u d
      (omega (arith, ready.inside)) (λ f. omega (arith, f.wide))))

  pub row_more : {now later : List ℕ} {floor : ℕ} → now ≡ filled rows a b i w t
      → floor ≡ floor_by rows.width rows.height rows.value rows.count rows.in_q (cell_of a t) w u
      → later ≡ cell_raised floor rows.in_p a u w now → later ≡ filled rows a b u w t
  row_more {now} {later} {floor} e g f =
      f
      ∙ (ap (cell_raised floor rows.in_p a u w) e
      ∙ (raised_filled rows a u w (filled rows a b i w t) (g ∙ sym floor_still)
      ∙ filled_cell rows a b t ready.holds.room i u w next in_width ready.inside.height_least ready.inside.height_most full))

  pub row_count : {now : List ℕ} {m r : ℕ} → now ≡ filled rows a b i w t → m ≡ count_in_row i w (is_empty a t) → r ≡ counted (is_empty a now u w)
      → m + r ≡ count_in_row u w (is_empty a t)
  unfolding is_empty
  row_count e f g =
      let same = old_cell rows a b t ready.holds.room i u w next in_width ready.inside.height_least ready.inside.height_most full in
      ap₂ ◌+◌ f (g ∙ (ap (λ (l : List ℕ). counted (is_empty a l u w)) e ∙ ap (λ (v : ℕ). counted (lib.Dec.eqb v empty)) same))
      ∙ sym (count_in_row_more i w (is_empty a t) next)

  pub row_within : {now : List ℕ} {m r : ℕ} → now ≡ filled rows a b i w t → m ≡ count_in_row i w (is_empty a t) → r ≡ counted (is_empty a now u w)
      → m + r ≤ u
  row_within e f g = subst (λ (k : ℕ). k ≤ u) (sym (row_count e f g)) (count_in_row_bound u w (is_empty a t))

-- A row that is ready can be looked through for an empty cell, and for the first one.
pub row_held : {rows : Rows} {a b x w : ℕ} {t : List ℕ} → RowReady rows a b x w t → Holds a w t × (x ≤ a)
row_held {w = w} ready = (holds_lower w ready.holds ready.inside.height_least ready.inside.height_most, ready.inside.width_most)

pub before_none : (a : ℕ) (t : List ℕ) (x w : ℕ) → FullBefore a t x w (0 + 1)
before_none a t x w = record { least = omega arith; most = omega arith; full = λ u p h. absurd (omega arith) }

pub before_more : (a : ℕ) (t : List ℕ) (x w i : ℕ) {v : ℕ} → i < x → FullBefore a t x w (i + 1) → v ≡ cell_of a t (i + 1) w → (v ≡ empty → ⊥)
    → FullBefore a t x w (i + 1 + 1)
before_more a t x w i l f e h =
    record {
      least = omega arith;
      most = omega arith;
      full = λ u p b.
          ⊎_elim (λ q. subst (λ (m : ℕ). cell_of a t m w ≡ empty → ⊥) (sym q) (λ z. h (e ∙ z))) (λ k. f.full u p k)
          (last_or_below {k = u} {n = i + 1} (omega arith));
    }

pub row_cells : (a : ℕ) (t : List ℕ) (x w i : ℕ) → Holds a w t → x ≤ a → i < x → Holds a w t × Inside (i + 1) w a w
row_cells a t x w i h k l = (h, omega (arith, h.height_least))

-- What a search for the first empty cell of row w finds, from column 1 on: no test before it said yes.
abbrev pub Found : ℕ → List ℕ → ℕ → ℕ → Option ℕ → Type 0
Found a t x w found =
    MatchOption found ((k : ℕ) → 1 ≤ k → k < x + 1 → eqb (cell_of a t k w) empty ≡ false)
    (λ u. (1 ≤ u) × (u < x + 1) × Unit {0} × ((k : ℕ) → 1 ≤ k → k < u → eqb (cell_of a t k w) empty ≡ false))

pub found_before : (a : ℕ) (t : List ℕ) (x w : ℕ) (found : Option ℕ) {from : ℕ} → Found a t x w found → from ≡ unwrap_or found (x + 1)
    → FullBefore a t x w from
found_before a t x w None f e =
    record { least = omega arith; most = omega arith; full = λ k p h. says_false (says_eq (cell_of a t k w) empty) (f k p (omega arith)) }
found_before a t x w (Some u) f e =
    record { least = omega arith; most = omega arith; full = λ k p h. says_false (says_eq (cell_of a t k w) empty) (f.3 k p (omega arith)) }

-- A row can be entered at the column before which it is full.
module _ (rows : Rows) (a b x w from : ℕ) (t : List ℕ) (ready : RowReady rows a b x w t) (start : FullBefore a t x w from) where
  entered_full : Full a t (from - 1) w
  entered_full u v i =
      ⊎_elim (λ e. subst (λ (m : ℕ). cell_of a t u m ≡ empty → ⊥) (sym e) (start.full u i.width_least (omega (arith, i.width_most, start.least))))
      (λ l. ready.full u v (omega (arith, i, start.most, start.least)))
      (last_or_below {k = v} {n = w} (omega (arith, i.height_most)))

  pub entered : t ≡ filled rows a b (from - 1) w t
  entered = filled_full rows a b (from - 1) w t entered_full

  pub entered_count : 0 ≡ count_in_row (from - 1) w (is_empty a t)
  entered_count = sym (count_in_row_zero (from - 1) w (is_empty a t) (λ u p h. says_no (is_empty_says a t u w) (start.full u p (omega (arith, start.least)))))

  pub lines_up : LinesUp a t from x w
  lines_up =
      record {
        holds = holds_lower w ready.holds ready.inside.height_least ready.inside.height_most;
        least = start.least;
        wide = ready.inside.width_most;
        adds = λ u d r h k l.
            omega (
              arith,
              below u d h k (omega arith) (omega arith),
              below u r h k (omega arith) (omega arith),
              most_parts w u d r (omega arith),
              most_fits u w (omega (arith, k, ready.inside, ready.holds)) (omega (arith, ready.inside, ready.holds)),
            );
      }
    where
      below : (u d : ℕ) → from ≤ u → u ≤ x → 1 ≤ d → d < w → cell_of a t u d ≤ most u d
      below u d h k p l = ready.bounded u d (omega (arith, start.least)) (ready.full u d (omega (arith, start.least)))

-- Nothing is to be done in a row without an empty cell ..
pub row_full : (rows : Rows) (a b x w : ℕ) (t : List ℕ) → RowReady rows a b x w t → any_in_row x w (is_empty a t) ≡ false
    → (0 ≡ count_in_row x w (is_empty a t)) × (t ≡ filled rows a b x w t)
row_full rows a b x w t ready none =
    subst (λ (m : ℕ). (0 ≡ count_in_row m w (is_empty a t)) × (t ≡ filled rows a b m w t)) (omega arith)
    (entered_count rows a b x w (x + 1) t ready start, entered rows a b x w (x + 1) t ready start)
  where
    start : FullBefore a t x w (x + 1)
    start =
        record {
          least = omega arith;
          most = omega arith;
          full = λ u p h e. says_false (any_in_row_says x w (is_empty a t)) none (u, p, omega arith, (is_empty_says a t u w).found e);
        }

-- .. and in such a box.
pub box_full : (rows : Rows) (a b x y : ℕ) (t : List ℕ) → Full a t x y → (0 ≡ count_in_box x y (is_empty a t)) × (t ≡ filled rows a b x y t)
box_full rows a b x y t full = (
  sym (count_in_box_zero x y (is_empty a t) (λ u w i. says_no (is_empty_says a t u w) (full u w i))),
  filled_full rows a b x y t full,
)

-- Up the rows: the first j rows of the box are done, and the next row is w.
module _ (rows : Rows) (a b x y : ℕ) (t : List ℕ) (ready : BoxReady rows a b x y t) (j w : ℕ) (next : w ≡ j + 1) (more : j < y) where
  wide : x ≤ a
  wide = ready.inside.width_most

  high : j ≤ b
  high = omega (arith, ready.inside.height_most)

  outside : (u v : ℕ) → Inside u v a b → j < v → cell_of a (filled rows a b x j t) u v ≡ cell_of a t u v
  outside u v i g = filled_outside rows a b x j t ready.holds.room wide high u v i (λ f. omega (arith, f.high))

  done_most : (u v : ℕ) → Inside u v x j → cell_of a (filled rows a b x j t) u v ≤ most u v
  done_most u v i =
      subst (λ (k : ℕ). k ≤ most u v) (sym (filled_inside rows a b x j t ready.holds.room wide high u v i))
      (final_most rows (cell_of a t) x y ready.valued ready.bounded u v (omega arith))

  pub box_row : {now : List ℕ} → now ≡ filled rows a b x j t → RowReady rows a b x w now
  box_row e =
      subst (RowReady rows a b x w) (sym e)
      (record {
        holds = omega (arith, h, filled-length rows a b x j t);
        inside = omega (arith, ready.inside);
        full = λ u v i k.
            let low = most_fits u v (omega (arith, i.width_most, ready.inside, h)) (omega (arith, i.height_most, ready.inside, h)) in
            omega (arith, done_most u v (omega arith), low, k);
        bounded = λ u v i k. ⊎_elim (λ g. done_most u v (omega arith)) (λ g. row u v i g k) (le_or_lt v j);
        valued = ready.valued;
      })
    where
      h : Holds a b t
      h = ready.holds

      row : (u v : ℕ) → Inside u v x w → j < v → (cell_of a (filled rows a b x j t) u v ≡ empty → ⊥) → cell_of a (filled rows a b x j t) u v ≤ most u v
      row u v i g k =
          let here = outside u v (omega (arith, ready.inside)) g in
          subst (λ (m : ℕ). m ≤ most u v) (sym here) (ready.bounded u v (omega arith) (λ q. k (here ∙ q)))

  pub box_more : {now later : List ℕ} → now ≡ filled rows a b x j t → later ≡ filled rows a b x w now → later ≡ filled rows a b x w t
  box_more e f =
      f
      ∙ (ap (filled rows a b x w) e
      ∙ filled_again rows a b t ready.holds.room x j x w (omega arith) (omega arith) wide (omega (arith, ready.inside.height_most)))

  pub box_count : {now : List ℕ} {m r : ℕ} → now ≡ filled rows a b x j t → m ≡ count_in_box x j (is_empty a t) → r ≡ count_in_row x w (is_empty a now)
      → m + r ≡ count_in_box x w (is_empty a t)
  unfolding is_empty
  box_count e f g =
      let same : (u : ℕ) → 1 ≤ u → u ≤ x → is_empty a (filled rows a b x j t) u w ≡ is_empty a t u w =
      λ u p h. ap (λ (v : ℕ). lib.Dec.eqb v empty) (outside u w (omega (arith, ready.inside)) (omega arith)) in
      ap₂ ◌+◌ f (g ∙ (ap (λ (l : List ℕ). count_in_row x w (is_empty a l)) e ∙ count_in_row_same x w _ _ same))
      ∙ sym (count_in_box_more x j (is_empty a t) next)

  pub box_within : {now : List ℕ} {m r : ℕ} → now ≡ filled rows a b x j t → m ≡ count_in_box x j (is_empty a t) → r ≡ count_in_row x w (is_empty a now)
      → m + r ≤ side_max * side_max
  box_within e f g =
      let sides = area_fits {u = x} {w = w} (omega (arith, wide, ready.holds)) (omega (arith, high, more, ready.inside, ready.holds)) in
      omega (arith, count_in_box_bound x w (is_empty a t), sides, box_count e f g)
