-- The floor of a row, raised column by column, piece by piece and line by line.
use Prim.Native.Nat.{ℕ, ◌+◌, ◌/◌, ◌≤◌, ◌<◌, max}
use mathlib.Core.Bool.{Bool, true, false, cond, ◌&&◌}
use mathlib.Core.List.{List}
use mathlib.Core.Path.{◌≡◌, refl, sym, ap, ap₂, ◌∙◌, subst}
use native.Mathlib.Omega.{arith}
use native.Mathlib.Decide.{ℕ_discrete}
use lib.Dec.{leb, ltb}
use lib.ListN.{length, get_or, set, replicate, get_or-eq_default}
use lib.Seq.{get_or-set_same, get_or-set_other}
use mathlib.Core.Logic.{⊎_elim}
use Rattle.std.proofs.lemmas.List.{get_or-replicate, length-replicate}
use Rattle.laws.proofs.Order.{le_or_lt}
use Rattle.laws.specs.Inner.{Says}
use Rattle.laws.proofs.Says.{says_and, says_le, says_lt, says_iff, says_same, says_no, says_false}
use Rattle.cutting.specs.Piece.{Fits, Inside}
use Rattle.cutting.specs.Dissection.{rest}
use Rattle.job.specs.declared.Piece.{Piece as Record}
use Rattle.job.specs.Job.{no_record}
use Rattle.board.specs.declared.Board.{Board}
use Rattle.board.specs.Inner.{records_on, width_at, height_at, value_at}
use Rattle.board.proofs.Laid.{record_on}
use Rattle.cells.specs.Inner.{Holds, fits}
use Rattle.cells.proofs.Emptied.{fits_says}
use Rattle.cells.proofs.Places.{holds_lower}
use Rattle.fill.specs.Inner.{fitting_value, line_at, line_value, value_in, Raises, Columns, LinesUp, floor_by}
use Rattle.fill.proofs.Steps.{lines_up_to, lines_none, lines_more, lines_end, fitting_none, fitting_more}

-- The columns from..u − 1 have been raised to g.
pub record RaisedTo (from u : ℕ) (g : ℕ → ℕ) (f f' : List ℕ) : Type 0 where
  pub at : (j : ℕ) → get_or f' j 0 ≡ cond (leb from j && ltb j u) (max (get_or f j 0) (g j)) (get_or f j 0)

flag_says : (from j u : ℕ) → Says (leb from j && ltb j u) ((from ≤ j) × (j < u))
flag_says from j u = says_and (says_le from j) (says_lt j u)

module _ (from : ℕ) (g : ℕ → ℕ) (f : List ℕ) where
  -- What column j holds, by whether it has been raised.
  abbrev raised : ℕ → Bool → ℕ
  raised j b = cond b (max (get_or f j 0) (g j)) (get_or f j 0)

  pub raised_none : RaisedTo from from g f f
  raised_none = record { at = λ j. ap (raised j) (sym (says_no (flag_says from j from) (λ h. omega arith))) }

  pub raised_more : (u : ℕ) {f' : List ℕ} {here v : ℕ} → from ≤ u → u < length f' → RaisedTo from u g f f' → here ≡ g u → v ≡ max (get_or f' u 0) here
      → RaisedTo from (u + 1) g f (set f' u v)
  raised_more u {f'} {here} {v} low room old e h = record { at = λ j. by j (ℕ_discrete j u) }
    where
      still : get_or f' u 0 ≡ get_or f u 0
      still = old.at u ∙ ap (raised u) (says_no (flag_says from u u) (λ m. omega (arith, m.1)))

      by : (j : ℕ) → Dec (j ≡ u) → get_or (set f' u v) j 0 ≡ raised j (leb from j && ltb j (u + 1))
      by j (yes q) =
          subst (λ (i : ℕ). get_or (set f' u v) i 0 ≡ raised i (leb from i && ltb i (u + 1))) (sym q)
          (get_or-set_same f' u v 0 room ∙ (h ∙ (ap₂ max still e ∙ ap (raised u) (sym ((flag_says from u (u + 1)).found (low, omega arith))))))
      by j (no n) =
          get_or-set_other f' u j v 0 n
          ∙ (old.at j ∙ ap (raised j) (says_same (flag_says from j u) (says_iff ((λ m. omega arith), (λ m. omega arith)) (flag_says from j (u + 1)))))

  pub raised_end : (u x : ℕ) {f' : List ℕ} → from ≤ u → x < u → u ≤ max from (x + 1) → RaisedTo from u g f f' → Raises from x g f f'
  raised_end u x low past most old =
      let same : (j : ℕ) → (leb from j && ltb j u) ≡ (leb from j && leb j x) =
      λ j. says_same (flag_says from j u) (says_iff ((λ m. omega arith), (λ m. omega arith)) (says_and (says_le from j) (says_le j x))) in
      record { at = λ j. old.at j ∙ ap (raised j) (same j) }

-- A column in the range was raised, one outside was not.
pub raised_in : (from x : ℕ) (g : ℕ → ℕ) (f f' : List ℕ) → Raises from x g f f' → (u : ℕ) → from ≤ u → u ≤ x → get_or f' u 0 ≡ max (get_or f u 0) (g u)
raised_in from x g f f' r u h k = r.at u ∙ ap (raised from g f u) ((says_and (says_le from u) (says_le u x)).found (h, k))

-- A piece raises the columns where it fits.
module _ (from x w p q v : ℕ) (f : List ℕ) where
  range : ℕ → Bool
  range u = leb from u && leb u x

  range_says : (u : ℕ) → Says (range u) ((from ≤ u) × (u ≤ x))
  unfolding range
  range_says u = says_and (says_le from u) (says_le u x)

  -- Outside the range, or where the piece does not fit, nothing changes.
  spared : (u : ℕ) → ((from ≤ u) × (u ≤ x) → Fits p q u w → ⊥) → get_or f u 0 ≡ cond (leb from u && leb u x) (max (get_or f u 0) (value_in p q v u w)) (get_or f u 0)
  unfolding range
  spared u h = by (range u) (range_says u) (fits p q u w) (fits_says p q u w)
    where
      by : (b : Bool) → Says b ((from ≤ u) × (u ≤ x)) → (d : Bool) → Says d (Fits p q u w) → get_or f u 0 ≡ cond b (max (get_or f u 0) (cond d v 0)) (get_or f u 0)
      by false r d m = refl
      by true r true m = absurd (h (r.means refl) (m.means refl))
      by true r false m = omega arith

  pub piece_low : w < q → Raises from x (λ u. value_in p q v u w) f f
  piece_low h = record { at = λ u. spared u (λ r m. omega (arith, m.high)) }

  pub piece_high : {f' : List ℕ} {start value : ℕ} → start ≡ max from p → value ≡ v → q ≤ w → Raises start x (λ u. value) f f'
      → Raises from x (λ u. value_in p q v u w) f f'
  unfolding range
  piece_high {f'} {start} {value} e g h r =
      record {
        at = λ u.
            r.at u
            ∙ (ap (λ (m : ℕ). cond (leb start u && leb u x) (max (get_or f u 0) m) (get_or f u 0)) g
            ∙ by u (leb start u && leb u x) (says_and (says_le start u) (says_le u x)));
      }
    where
      by : (u : ℕ) (b : Bool) → Says b ((start ≤ u) × (u ≤ x))
          → cond b (max (get_or f u 0) v) (get_or f u 0) ≡ cond (leb from u && leb u x) (max (get_or f u 0) (value_in p q v u w)) (get_or f u 0)
      by u true m =
          let k = m.means refl in
          let i : (from ≤ u) × (u ≤ x) = omega (arith, k.0, k.1) in
          let z : Fits p q u w = omega (arith, k.0, k.1) in
          ap (max (get_or f u 0)) (sym (ap (λ (b : Bool). cond b v 0) ((fits_says p q u w).found z)))
          ∙ ap (raised from (λ u. value_in p q v u w) f u) (sym ((range_says u).found i))
      by u false m = spared u (λ i z. says_false m refl (omega (arith, i.0, i.1, z.wide), i.1))

-- The first pieces of rows that have their sizes and values.
module _ (width height value : ℕ → ℕ) (from x w : ℕ) where
  pub fitted_none : (f : List ℕ) → Columns from x (λ u. 0) f → Columns from x (λ u. fitting_value width height value 0 u w) f
  fitted_none f h = record { at = λ u a b. h.at u a b ∙ fitting_none width height value u w }

  pub fitted_more : (k : ℕ) {f f' : List ℕ} {p q v : ℕ} → Columns from x (λ u. fitting_value width height value k u w) f → p ≡ width k → q ≡ height k
      → v ≡ value k → Raises from x (λ u. value_in p q v u w) f f' → Columns from x (λ u. fitting_value width height value (k + 1) u w) f'
  fitted_more k {f} {f'} h d e g r =
      record { at = λ u a b. fitting_more width height value u w k (h.at u a b) (λ i. value_in (d i) (e i) (g i) u w) (raised_in from x _ f f' r u a b) }

-- Piece by piece, over the records that are a board's pieces: what the first k of them give in column u.
abbrev pub pieces_up_to : Board → ℕ → ℕ → ℕ → ℕ
pieces_up_to board w k u = fitting_value (width_at board) (height_at board) (value_at board) k u w

module _ (board : Board) (from x w : ℕ) where
  pub pieces_none : (f : List ℕ) → Columns from x (λ u. 0) f → Columns from x (pieces_up_to board w 0) f
  pieces_none = fitted_none (width_at board) (height_at board) (value_at board) from x w

  -- What one record gives.
  abbrev given : Record → ℕ → ℕ
  given piece u = value_in piece.width piece.height piece.value u w

  pub pieces_more : (k : ℕ) {records : List Record} {f f' : List ℕ} → records ≡ records_on board → k < length records
      → Columns from x (pieces_up_to board w k) f → Raises from x (given (get_or records k no_record)) f f'
      → Columns from x (pieces_up_to board w (k + 1)) f'
  pieces_more k e l h r =
      let same = record_on board k e l in
      fitted_more (width_at board) (height_at board) (value_at board) from x w k h (ap (λ (q : Record). q.width) same)
      (ap (λ (q : Record). q.height) same) (ap (λ (q : Record). q.value) same) r

-- Line by line: column u of a floor f once the lines at 1, …, d have been tried.
unfoldable pub lined : (ℕ → Bool) → (ℕ → ℕ → ℕ) → ℕ → List ℕ → ℕ → ℕ → ℕ
lined in_q cell w f d u = max (get_or f u 0) (lines_up_to in_q (λ k. cell u k) w d)

module _ (in_q : ℕ → Bool) (cell : ℕ → ℕ → ℕ) (from x w : ℕ) (f : List ℕ) where
  pub lined_none : Columns from x (lined in_q cell w f 0) f
  unfolding lined
  lined_none = record { at = λ u a b. omega (arith, lines_none in_q (λ k. cell u k) w) }

  step : (k u : ℕ) {d : ℕ} {b s : Bool} → d ≡ k + 1 → b ≡ in_q d → b ≡ s
      → lines_up_to in_q (λ k. cell u k) w d ≡ max (lines_up_to in_q (λ k. cell u k) w k) (cond s (cell u d + cell u (rest w d)) 0)
  unfolding line_at
  step k u {d} next e t = sym (lines_more in_q (λ k. cell u k) w k next refl refl refl)
      ∙ ap (max _) (ap (λ (c : Bool). cond c (cell u d + cell u (rest w d)) 0) (sym e ∙ t))

  pub lined_marked : (k : ℕ) {d : ℕ} {f' f'' : List ℕ} {b : Bool} → d ≡ k + 1 → Columns from x (lined in_q cell w f k) f' → b ≡ in_q d → b ≡ true
      → Raises from x (λ u. cell u d + cell u (rest w d)) f' f'' → Columns from x (lined in_q cell w f d) f''
  unfolding lined
  lined_marked k {d} {f'} {f''} next h e t r = record { at = λ u a b. omega (arith, raised_in from x _ f' f'' r u a b, h.at u a b, step k u next e t) }

  pub lined_unmarked : (k : ℕ) {d : ℕ} {f' : List ℕ} {b : Bool} → d ≡ k + 1 → Columns from x (lined in_q cell w f k) f' → b ≡ in_q d → b ≡ false
      → Columns from x (lined in_q cell w f d) f'
  unfolding lined
  lined_unmarked k {d} {f'} next h e t = record { at = λ u a b. omega (arith, h.at u a b, step k u next e t) }

  pub lined_end : (d : ℕ) {f' : List ℕ} → Columns from x (lined in_q cell w f d) f' → d ≡ w / 2
      → Columns from x (λ u. max (get_or f u 0) (line_value in_q (λ k. cell u k) w)) f'
  unfolding lined
  lined_end d {f'} h e = record { at = λ u a b. h.at u a b ∙ ap (max (get_or f u 0)) (lines_end in_q (λ k. cell u k) w refl e) }

-- The floor of all.
pub floor_done : (width height value : ℕ → ℕ) (n : ℕ) (in_q : ℕ → Bool) (cell : ℕ → ℕ → ℕ) (from x w : ℕ) {f f' : List ℕ}
    → Columns from x (λ u. fitting_value width height value n u w) f → Columns from x (λ u. max (get_or f u 0) (line_value in_q (λ k. cell u k) w)) f'
    → Columns from x (floor_by width height value n in_q cell w) f'
unfolding floor_by
floor_done width height value n in_q cell from x w h k =
    record { at = λ u a b. k.at u a b ∙ ap (λ (m : ℕ). max m (line_value in_q (λ d. cell u d) w)) (h.at u a b) }

-- The cells of a line up a column.
pub column_cell : (a : ℕ) (t : List ℕ) (from x w u d : ℕ) → LinesUp a t from x w → from ≤ u → u ≤ x → 1 ≤ d → d ≤ w → Holds a d t × Inside u d a d
column_cell a t from x w u d s h k p m = (holds_lower d s.holds p m, omega (arith, s.least, s.wide))

-- A floor of zeros, before anything is laid.
pub zeros : (from x n : ℕ) → Columns from x (λ u. 0) (replicate n 0)
zeros from x n =
    record {
      at = λ u a b.
          ⊎_elim (λ h. get_or-eq_default (replicate n 0) 0 (omega (arith, length-replicate {A = ℕ}))) (λ h. get_or-replicate n u 0 0 h) (le_or_lt n u);
    }
