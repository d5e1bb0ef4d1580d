-- The next step is what the rules say: the searches find the first piece and the least line, and the first rule that strikes decides.
use Prim.Native.Nat.{ℕ, zero, suc, ◌+◌, ◌/◌, ◌≤◌, ◌<◌}
use mathlib.Core.Bool.{Bool, true, false, cond}
use mathlib.Core.Path.{◌≡◌, refl, sym, ap, ◌∙◌, subst}
use native.Mathlib.Omega.{arith}
use lib.Dec.{eqb}
use Rattle.laws.specs.Inner.{Says, first_below, first_number}
use Rattle.laws.proofs.First.{first_before, first_passes, first_within}
use Rattle.laws.proofs.Says.{says_and, says_eq, says_lt, says_false, says_iff}
use Rattle.laws.proofs.Choice.{chosen, not_chosen, either_way}
use mathlib.Core.List.{List}
use Rattle.cutting.specs.Piece.{Piece, Numbered, Lays, Inside}
use Rattle.cutting.specs.Candidate.{UpToHalf}
use Rattle.cutting.specs.Dissection.{rest, crossed, Line}
use Rattle.cells.proofs.Emptied.{fits_says}
use native.Mathlib.Numerals.{add-one}
use Rattle.board.specs.Inner.{Rows, Hold}
use Rattle.board.proofs.Holds.{IsRow, row_of}
use Rattle.tracer.specs.Rules.{Least, None, PointOf, Exact, part_cell, AddsUp, Fitting}
use Rattle.tracer.proofs.Least.{least_unique}
use Rattle.tracer.specs.Inner.{two_cells, marks, is_size, fits_in, suits, some_number, first_piece, adds_to, least_line, cut_out, strikes, ruled}
use Rattle.std.proofs.Common.{Option}
use Rattle.std.specs.declared.option.Option.TheVariants.{None as nothing, Some}
use Rattle.tracer.specs.declared.Wanted.{Wanted}
use Rattle.tracer.specs.declared.Step.{Step}

-- What a search found: the least of a set of numbers, or nothing where there is none.
pub data Searched (S : ℕ → Type 0) : Option ℕ → Type 0 where
  none : None S → Searched S nothing
  least : {k : ℕ} → Least S k → Searched S (Some k)

-- A search by a test that says what is in the set, which has numbers from 1 to n alone.
number_found : (f : ℕ → Bool) (n : ℕ) (S : ℕ → Type 0) → ((i : ℕ) → i < n → Says (f i) (S (suc i))) → ((k : ℕ) → S k → (1 ≤ k) × (k ≤ n))
    → Searched S (some_number (first_number f n))
unfolding first_number
number_found f n S says among =
    either_way (λ (k : ℕ). Searched S (some_number k)) (says_lt (first_below f n) n) _ _
    (λ h. Searched.least (record { holds = (says (first_below f n) h).means (first_passes f n h); least = earlier }))
    (λ h. Searched.none (λ k m. later k m (λ i l. first_before f n i (omega (arith, l, first_within f n, h)))))
  where
    at : (k : ℕ) → S k → ((i : ℕ) → i < n → f i ≡ false → k ≡ suc i → ⊥)
    at k m i l e q = says_false (says i l) e (subst S q m)

    earlier : (j : ℕ) → j < suc (first_below f n) → S j → ⊥
    earlier zero h m = omega (arith, among 0 m)
    earlier (suc i) h m = at (suc i) m i (omega (arith, among (suc i) m)) (first_before f n i (omega arith)) refl

    later : (k : ℕ) → S k → ((i : ℕ) → i < n → f i ≡ false) → ⊥
    later zero m all = omega (arith, among 0 m)
    later (suc i) m all = at (suc i) m i (omega (arith, among (suc i) m)) (all i (omega (arith, among (suc i) m))) refl

-- A rule that found something decides, one that found nothing leaves it to the next.
takes : {S : ℕ → Type 0} {j : ℕ} {k : Option ℕ} (step : ℕ → Step) (after : Option Step) → Searched S k → Least S j → strikes k step after ≡ Some (step j)
unfolding strikes
takes step after (Searched.none n) l = absurd (n _ l.holds)
takes step after (Searched.least m) l = ap (λ (i : ℕ). Some (step i)) (least_unique m l)

leaves : {S : ℕ → Type 0} {k : Option ℕ} (step : ℕ → Step) (after : Option Step) → Searched S k → None S → strikes k step after ≡ after
unfolding strikes
leaves step after (Searched.none n) m = refl
leaves step after (Searched.least l) m = absurd (m _ l.holds)

module _ {pieces : List Piece} {rows : Rows} {a b : ℕ} (hold : Hold rows pieces a b) (cell : ℕ → ℕ → ℕ) (x y : ℕ) (i : Inside x y a b) where
  -- The piece at index k is piece number k + 1.
  numbered : (k : ℕ) → k < rows.count → Numbered pieces (suc k) (rows.width k) (rows.height k) (rows.value k)
  numbered k h = subst (λ (n : ℕ). Numbered pieces n (rows.width k) (rows.height k) (rows.value k)) (add-one k) (hold.lists.piece k h)

  row : {k p q v : ℕ} → Numbered pieces (suc k) p q v → IsRow rows k p q v
  row {k} n = row_of hold.lists (sym (add-one k)) n

  exact_says : (k : ℕ) → k < rows.count → Says (suits rows (is_size rows x y) (cell x y) k) (Exact pieces a b cell x y (suc k))
  unfolding suits
  exact_says k h =
      let n = numbered k h in
      says_iff (
        λ e. record { first = n.first; last = n.last; width = n.width ∙ e.1.0; height = n.height ∙ e.1.1; value = n.value ∙ e.0 },
        λ m. let r = row m in (r.value, (r.width, r.height)),
      )
      (says_and (says_eq (rows.value k) (cell x y)) (says_and (says_eq (rows.width k) x) (says_eq (rows.height k) y)))

  fitting_says : (k : ℕ) → k < rows.count → Says (suits rows (fits_in rows x y) (cell x y) k) (Fitting pieces a b cell x y (suc k))
  unfolding suits
  fitting_says k h =
      says_iff (
        λ e. record { width = _; height = _; numbered = subst (Numbered pieces (suc k) (rows.width k) (rows.height k)) e.0 (numbered k h); fits = e.1 },
        λ m. let r = row m.numbered in (r.value, omega (arith, r.width, r.height, m.fits)),
      )
      (says_and (says_eq (rows.value k) (cell x y)) (fits_says (rows.width k) (rows.height k) x y))

  -- A mark is a point, of P or of Q.
  marks_say : (tall : Bool) (c : ℕ) → UpToHalf c (crossed tall x y) → Says (marks rows tall c) (PointOf (Lays pieces) a b tall c)
  marks_say true c h = hold.in_q c (omega (arith, i.height_most))
  marks_say false c h = hold.in_p c (omega (arith, i.width_most))

  -- What the cell of a part of x by y holds.
  abbrev held : Bool → ℕ → ℕ
  held tall c = part_cell pieces a b cell tall x y c

  adds_say : (tall : Bool) (k : ℕ) → k < crossed tall x y / 2 → Says (adds_to rows cell tall (cell x y) x y (suc k)) (AddsUp pieces a b cell tall x y (suc k))
  unfolding adds_to two_cells
  adds_say tall k h =
      let half : UpToHalf (suc k) (crossed tall x y) = omega arith in
      let inside : Line (crossed tall x y) (suc k) (rest (crossed tall x y) (suc k)) = record { least = omega arith; most = omega arith; leaves = refl } in
      says_iff ((λ e. record { far = _; tried = record { point = e.0; half = half; line = inside }; sum = e.1 }), (λ m. (m.tried.point, at_rest tall k m)))
      (says_and (marks_say tall (suc k) half) (says_eq _ (cell x y)))
    where
      at_rest : (tall : Bool) (k : ℕ) (m : AddsUp pieces a b cell tall x y (suc k))
          → held tall (suc k) + held tall (rest (crossed tall x y) (suc k)) ≡ cell x y
      at_rest tall k m = subst (λ (r : ℕ). held tall (suc k) + held tall r ≡ cell x y) m.tried.line.leaves m.sum

  -- What the searches find.
  exact_found : Searched (Exact pieces a b cell x y) (first_piece rows (is_size rows x y) (cell x y))
  unfolding first_piece
  exact_found = number_found _ rows.count _ exact_says (λ k m. (m.first, omega (arith, m.last, hold.lists.count)))

  fitting_found : Searched (Fitting pieces a b cell x y) (first_piece rows (fits_in rows x y) (cell x y))
  unfolding first_piece
  fitting_found = number_found _ rows.count _ fitting_says (λ k m. (m.numbered.first, omega (arith, m.numbered.last, hold.lists.count)))

  line_found : (tall : Bool) → Searched (AddsUp pieces a b cell tall x y) (least_line rows cell tall (cell x y) x y)
  unfolding least_line
  line_found tall = number_found _ (crossed tall x y / 2) _ (adds_say tall) (λ k m. (m.tried.line.least, omega (arith, m.tried.half)))

  -- The rules in their order: which step is taken where the part is free, and exactly when.
  pub data Strikes : Option Step → Type 0 where
    rule1 : cell x y ≡ 0 → Strikes (Some Step.Scrap)
    rule2 : {k : ℕ} → (cell x y ≡ 0 → ⊥) → Least (Exact pieces a b cell x y) k → Strikes (Some (Step.Piece k))
    rule3 : {c : ℕ} → (cell x y ≡ 0 → ⊥) → None (Exact pieces a b cell x y) → Least (AddsUp pieces a b cell false x y) c
        → Strikes (Some (Step.Line c Wanted.Free false))
    rule4 : {d : ℕ} → (cell x y ≡ 0 → ⊥) → None (Exact pieces a b cell x y) → None (AddsUp pieces a b cell false x y)
        → Least (AddsUp pieces a b cell true x y) d → Strikes (Some (Step.Line d Wanted.Free true))
    rule5 : {k : ℕ} → (cell x y ≡ 0 → ⊥) → None (Exact pieces a b cell x y) → None (AddsUp pieces a b cell false x y) → None (AddsUp pieces a b cell true x y)
        → Least (Fitting pieces a b cell x y) k → Strikes (Some (cut_out rows x y k))
    rule6 : (cell x y ≡ 0 → ⊥) → None (Exact pieces a b cell x y) → None (AddsUp pieces a b cell false x y) → None (AddsUp pieces a b cell true x y)
        → None (Fitting pieces a b cell x y) → Strikes nothing

  -- The steps of rules 6.2 to 6.6, by what the searches answer.
  abbrev later_rules : Option ℕ → Option ℕ → Option ℕ → Option ℕ → Option Step
  later_rules e c d f =
      strikes e Step.Piece (strikes c (λ k. Step.Line k Wanted.Free false) (strikes d (λ k. Step.Line k Wanted.Free true)
      (strikes f (cut_out rows x y) nothing)))

  in_order : (n : ℕ) (e c d f : Option ℕ) → n ≡ cell x y → Searched (Exact pieces a b cell x y) e → Searched (AddsUp pieces a b cell false x y) c
      → Searched (AddsUp pieces a b cell true x y) d → Searched (Fitting pieces a b cell x y) f
      → Strikes (cond (eqb n 0) (Some Step.Scrap) (later_rules e c d f))
  unfolding strikes
  in_order n e c d f is found across up fitting =
      either_way Strikes (says_eq n 0) _ _ (λ h. Strikes.rule1 (sym is ∙ h)) (λ h. go found across up fitting (λ z. h (is ∙ z)))
    where
      go : {e c d f : Option ℕ} → Searched (Exact pieces a b cell x y) e → Searched (AddsUp pieces a b cell false x y) c
          → Searched (AddsUp pieces a b cell true x y) d
          → Searched (Fitting pieces a b cell x y) f → (cell x y ≡ 0 → ⊥)
          → Strikes (later_rules e c d f)
      go (Searched.least l) p q r z = Strikes.rule2 z l
      go (Searched.none e) (Searched.least l) q r z = Strikes.rule3 z e l
      go (Searched.none e) (Searched.none p) (Searched.least l) r z = Strikes.rule4 z e p l
      go (Searched.none e) (Searched.none p) (Searched.none q) (Searched.least l) z = Strikes.rule5 z e p q l
      go (Searched.none e) (Searched.none p) (Searched.none q) (Searched.none r) z = Strikes.rule6 z e p q r

  pub ruled_strikes : Strikes (ruled rows cell x y (cell x y))
  unfolding ruled
  ruled_strikes = in_order (cell x y) _ _ _ _ refl exact_found (line_found false) (line_found true) fitting_found

  -- And no other step is taken.
  pub strikes_only : {s : Option Step} → Strikes s → ruled rows cell x y (cell x y) ≡ s
  unfolding ruled
  strikes_only (Strikes.rule1 z) = chosen (says_eq (cell x y) 0) _ _ z
  strikes_only (Strikes.rule2 z l) = not_chosen (says_eq (cell x y) 0) _ _ z ∙ takes _ _ exact_found l
  strikes_only (Strikes.rule3 z n l) = not_chosen (says_eq (cell x y) 0) _ _ z ∙ (leaves _ _ exact_found n ∙ takes _ _ (line_found false) l)
  strikes_only (Strikes.rule4 z n m l) =
      not_chosen (says_eq (cell x y) 0) _ _ z ∙ (leaves _ _ exact_found n ∙ (leaves _ _ (line_found false) m ∙ takes _ _ (line_found true) l))
  strikes_only (Strikes.rule5 z n m k l) =
      not_chosen (says_eq (cell x y) 0) _ _ z
      ∙ (leaves _ _ exact_found n ∙ (leaves _ _ (line_found false) m ∙ (leaves _ _ (line_found true) k ∙ takes _ _ fitting_found l)))
  strikes_only (Strikes.rule6 z n m k l) =
      not_chosen (says_eq (cell x y) 0) _ _ z
      ∙ (leaves _ _ exact_found n ∙ (leaves _ _ (line_found false) m ∙ (leaves _ _ (line_found true) k ∙ leaves _ _ fitting_found l)))
