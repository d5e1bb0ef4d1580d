-- The tests of a piece and of a line as code comes to them: what it read is what stands there, and each return has one test.
use Rattle.std.proofs.Common.{ℕ, ◌≤◌, ◌<◌, ◌≡◌, refl, sym, ap, ◌∙◌, Bool, true, false, ◌&&◌, leb, eqb, arith}
use Rattle.laws.proofs.Says.{says_eq, says_le, says_itself, says_false}
use Rattle.laws.proofs.Tests.{fact_no, fact_yes}
use Rattle.cells.specs.Inner.{fits}
use Rattle.board.specs.declared.Board.{Board}
use Rattle.board.specs.Inner.{rows_on, marked_at}
use Rattle.tracer.specs.Inner.{marks, two_cells, adds_to}

-- One test and another after it, of a size p by q that the code read as k by l.
module _ {k p : ℕ} (read : k ≡ p) where
  pub same_no : {x : ℕ} (d : Bool) → (k ≡ x → ⊥) → false ≡ (eqb p x && d)
  same_no d h = fact_no (says_eq _ _) d (λ e. h (read ∙ e))

  pub same_yes : {x : ℕ} {d r : Bool} → k ≡ x → r ≡ d → r ≡ (eqb p x && d)
  same_yes h f = fact_yes (says_eq _ _) (sym read ∙ h) f

  pub fits_no : {x : ℕ} (q y : ℕ) → x < k → false ≡ fits p q x y
  unfolding fits
  fits_no {x} q y h = fact_no (says_le p x) _ (λ m. omega arith)

  pub fits_yes : {x q l : ℕ} (y : ℕ) → k ≤ x → l ≡ q → leb l y ≡ fits p q x y
  unfolding fits
  fits_yes {x} y h e = fact_yes (says_le p x) (omega arith) (ap (λ (n : ℕ). leb n y) e)

-- The mark first, then the two cells.
mark_read : (board : Board) (tall : Bool) (c : ℕ) → marked_at board tall c ≡ marks (rows_on board) tall c
unfolding rows_on
mark_read board true c = refl
mark_read board false c = refl

module _ (board : Board) (cell : ℕ → ℕ → ℕ) (tall : Bool) (number x y c : ℕ) {b : Bool} (read : b ≡ marked_at board tall c) where
  pub adds_unmarked : b ≡ false → false ≡ adds_to (rows_on board) cell tall number x y c
  unfolding adds_to
  adds_unmarked h = fact_no (says_itself _) _ (says_false (says_itself _) (sym (read ∙ mark_read board tall c) ∙ h))

  pub adds_marked : {n : ℕ} → b ≡ true → n ≡ two_cells cell tall x y c → eqb n number ≡ adds_to (rows_on board) cell tall number x y c
  unfolding adds_to
  adds_marked h e = fact_yes (says_itself _) (sym (read ∙ mark_read board tall c) ∙ h) (ap (λ (m : ℕ). eqb m number) e)
