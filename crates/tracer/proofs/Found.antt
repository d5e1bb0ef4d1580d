-- The searches as the code comes to them: nothing before it passes, and it passes, or nothing passes.
use Rattle.std.proofs.Common.{◌≡◌, ℕ, zero, suc, ◌+◌, ◌/◌, ◌≤◌, ◌<◌, Bool, true, false, Some, None, sym, ap, ◌∙◌, add-one, arith}
use Rattle.laws.specs.Inner.{first_below, first_number}
use Rattle.laws.proofs.First.{first_only, first_end, number_first, number_none}
use Rattle.cutting.specs.Dissection.{crossed}
use Rattle.board.specs.Inner.{Rows}
use Rattle.tracer.specs.Inner.{some_number, suits, first_piece, adds_to, least_line}

module _ (f : ℕ → Bool) (n : ℕ) where
  found : {k : ℕ} → k < n → f k ≡ true → ((j : ℕ) → j < k → f j ≡ false) → Some (suc k) ≡ some_number (first_number f n)
  found {k} h p before =
      let first : first_below f n ≡ k = first_only (record { within = h; passes = p; first = before }) in
      sym (ap some_number (number_first f n (omega arith) ∙ ap suc first))

  none : ((j : ℕ) → j < n → f j ≡ false) → None ≡ some_number (first_number f n)
  none before = sym (ap some_number (number_none f n (first_end f n before)))

module _ (rows : Rows) (test : ℕ → Bool) (number : ℕ) where
  pub piece_found : {k : ℕ} → k < rows.count → suits rows test number k ≡ true → ((j : ℕ) → j < k → suits rows test number j ≡ false)
      → Some (k + 1) ≡ first_piece rows test number
  unfolding first_piece
  piece_found {k} h p before = ap Some (add-one k) ∙ found (suits rows test number) rows.count h p before

  pub no_piece : ((j : ℕ) → j < rows.count → suits rows test number j ≡ false) → None ≡ first_piece rows test number
  unfolding first_piece
  no_piece before = none (suits rows test number) rows.count before

module _ (rows : Rows) (cell : ℕ → ℕ → ℕ) (tall : Bool) (number x y : ℕ) where
  pub line_found : {c : ℕ} → 1 ≤ c → c ≤ crossed tall x y / 2 → adds_to rows cell tall number x y c ≡ true
      → ((j : ℕ) → 1 ≤ j → j < c → adds_to rows cell tall number x y j ≡ false) → Some c ≡ least_line rows cell tall number x y
  unfolding least_line
  line_found {c = zero} l h p before = absurd (omega arith)
  line_found {c = suc i} l h p before =
      found (λ j. adds_to rows cell tall number x y (suc j)) (crossed tall x y / 2) (omega arith) p (λ j b. before (suc j) (omega arith) (omega arith))

  pub no_line : ((j : ℕ) → 1 ≤ j → j ≤ crossed tall x y / 2 → adds_to rows cell tall number x y j ≡ false)
      → None ≡ least_line rows cell tall number x y
  unfolding least_line
  no_line before = none (λ j. adds_to rows cell tall number x y (suc j)) (crossed tall x y / 2) (λ j b. before (suc j) (omega arith) (omega arith))
