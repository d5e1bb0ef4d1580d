-- The rules as the code comes to them, one after the other: each strikes where those before it did not.
use Rattle.std.proofs.Common.{◌≡◌, ℕ, ◌≤◌, Bool, true, false, Option, Some, None, refl, sym, ap, ◌∙◌, arith}
use Rattle.laws.proofs.Says.{says_eq}
use Rattle.laws.proofs.Choice.{taken, left}
use Rattle.laws.proofs.First.{number_most}
use Rattle.board.specs.Inner.{Rows}
use Rattle.tracer.specs.declared.Wanted.{Wanted}
use Rattle.tracer.specs.declared.Step.{Step}
use Rattle.tracer.specs.Inner.{is_size, fits_in, suits, first_piece, least_line, cut_out, strikes, ruled}
use Rattle.tracer.proofs.Traced.{some_number_is}

-- A rule strikes where its search, whose answer is s, found a number; else the rules after it do.
struck : {s search : Option ℕ} {k : ℕ} (step : ℕ → Step) (after : Option Step) → s ≡ search → s ≡ Some k → Some (step k) ≡ strikes search step after
unfolding strikes
struck step after e f = ap (λ (s : Option ℕ). strikes s step after) (sym f ∙ e)

passed : {s search : Option ℕ} (step : ℕ → Step) {after r : Option Step} → s ≡ search → s ≡ None → r ≡ after → r ≡ strikes search step after
unfolding strikes
passed step {after} e f g = g ∙ ap (λ (s : Option ℕ). strikes s step after) (sym f ∙ e)

-- The code's number is that of the cell.
module _ (rows : Rows) (cell : ℕ → ℕ → ℕ) (x y : ℕ) {number n : ℕ} (is : number ≡ n) where
  by_number : {r : Option Step} → r ≡ ruled rows cell x y number → r ≡ ruled rows cell x y n
  by_number e = e ∙ ap (ruled rows cell x y) is

  pub rule1 : number ≡ 0 → Some Step.Scrap ≡ ruled rows cell x y n
  unfolding ruled
  rule1 z = by_number (taken (says_eq number 0) _ z refl)

  module _ (some : number ≡ 0 → ⊥) {e : Option ℕ} (exact : e ≡ first_piece rows (is_size rows x y) number) where
    pub rule2 : {k : ℕ} → e ≡ Some k → Some (Step.Piece k) ≡ ruled rows cell x y n
    unfolding ruled
    rule2 h = by_number (left (says_eq number 0) _ some (struck _ _ exact h))

    module _ (no-exact : e ≡ None) {c : Option ℕ} (across : c ≡ least_line rows cell false number x y) where
      pub rule3 : {k : ℕ} → c ≡ Some k → Some (Step.Line k Wanted.Free false) ≡ ruled rows cell x y n
      unfolding ruled
      rule3 h = by_number (left (says_eq number 0) _ some (passed _ exact no-exact (struck _ _ across h)))

      module _ (no-across : c ≡ None) {d : Option ℕ} (up : d ≡ least_line rows cell true number x y) where
        pub rule4 : {k : ℕ} → d ≡ Some k → Some (Step.Line k Wanted.Free true) ≡ ruled rows cell x y n
        unfolding ruled
        rule4 h = by_number (left (says_eq number 0) _ some (passed _ exact no-exact (passed _ across no-across (struck _ _ up h))))

        module _ (no-up : d ≡ None) {f : Option ℕ} (fitting : f ≡ first_piece rows (fits_in rows x y) number) where
          past4 : {r : Option Step} → r ≡ strikes (first_piece rows (fits_in rows x y) number) (cut_out rows x y) None → r ≡ ruled rows cell x y n
          unfolding ruled
          past4 h = by_number (left (says_eq number 0) _ some (passed _ exact no-exact (passed _ across no-across (passed _ up no-up h))))

          pub rule5 : {k : ℕ} {r : Step} → f ≡ Some k → r ≡ cut_out rows x y k → Some r ≡ ruled rows cell x y n
          rule5 h g = past4 (ap Some g ∙ struck _ _ fitting h)

          pub rule6 : {r : Option Step} → f ≡ None → r ≡ None → r ≡ ruled rows cell x y n
          rule6 h g = past4 (passed _ fitting h g)

-- A piece that was found is one of the pieces.
pub piece_among : (rows : Rows) (test : ℕ → Bool) (number : ℕ) {f : Option ℕ} {k : ℕ} → f ≡ first_piece rows test number → f ≡ Some k
    → (1 ≤ k) × (k ≤ rows.count)
unfolding first_piece
piece_among rows test number e h =
    let is = some_number_is _ (sym e ∙ h) in
    (is.0, omega (arith, is, number_most (suits rows test number) rows.count))
