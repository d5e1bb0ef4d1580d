-- Decimal numbers by their own equations.
use Prim.Native.Nat.{ℕ, zero, suc, ◌/◌, ◌%◌, ◌^◌, ◌≤◌, ◌<◌}
use mathlib.Core.Bool.{Bool, cond}
use mathlib.Core.Path.{◌≡◌, sym, ap, ◌∙◌}
use mathlib.Core.Logic.{⊎_elim}
use mathlib.Core.List.{List, [], ◌∷◌, ◌++◌}
use native.Mathlib.Omega.{arith}
use native.Mathlib.Nat.{pow-suc}
use lib.Dec.{ltb}
use lib.ListN.{length, length-append}
use borrow.Author.Tests.{lt-ltb, le-ltb}
use Rattle.laws.proofs.Order.{le_or_lt}
use Rattle.printing.specs.Inner.{Printed, Writes}
use Rattle.printing.specs.declared.Text.{Text}
use Rattle.printing.specs.Decimal.{digit, decimal_within, decimal}
use Rattle.printing.proofs.Printed.{printed_as, printed_both}

-- One digit, or the digits of a tenth and one more.
within_one : (k n : ℕ) → n < 10 → decimal_within (suc k) n ≡ digit n ∷ []
unfolding decimal_within
within_one k n h = ap (λ (b : Bool). cond b (digit n ∷ []) (decimal_within k (n / 10) ++ (digit (n % 10) ∷ []))) (lt-ltb n 10 h)

within_more : (k n : ℕ) → 10 ≤ n → decimal_within (suc k) n ≡ decimal_within k (n / 10) ++ (digit (n % 10) ∷ [])
unfolding decimal_within
within_more k n h = ap (λ (b : Bool). cond b (digit n ∷ []) (decimal_within k (n / 10) ++ (digit (n % 10) ∷ []))) (le-ltb n 10 h)

-- More digits than the number has change nothing.
enough : (k j n : ℕ) → n < k → n < j → decimal_within k n ≡ decimal_within j n
enough zero j n h g = absurd (omega arith)
enough (suc k) zero n h g = absurd (omega arith)
enough (suc k) (suc j) n h g =
    ⊎_elim (λ m.
    let tenth = ap (λ (l : List ℕ). l ++ (digit (n % 10) ∷ [])) (enough k j (n / 10) (omega arith) (omega arith)) in
    within_more k n m ∙ (tenth ∙ sym (within_more j n m)))
    (λ m. within_one k n m ∙ sym (within_one j n m))
    (le_or_lt 10 n)

pub decimal_one : (n : ℕ) → n < 10 → decimal n ≡ digit n ∷ []
unfolding decimal
decimal_one n h = within_one n n h

pub decimal_more : (n : ℕ) → 10 ≤ n → decimal n ≡ decimal (n / 10) ++ (digit (n % 10) ∷ [])
unfolding decimal
decimal_more n h = within_more n n h ∙ ap (λ (l : List ℕ). l ++ (digit (n % 10) ∷ [])) (enough n (suc (n / 10)) (n / 10) (omega arith) (omega arith))

pub decimal_own : (n : ℕ) → decimal n ≡ cond (ltb n 10) (digit n ∷ []) (decimal (n / 10) ++ (digit (n % 10) ∷ []))
decimal_own n = ⊎_elim (λ h. rw (le-ltb n 10 h) (decimal_more n h)) (λ h. rw (lt-ltb n 10 h) (decimal_one n h)) (le_or_lt 10 n)

-- A number below 10 has one digit, and one below ten times as much at most one more.
pub decimal-length : (k n : ℕ) → n < 10 ^ suc k → length (decimal n) ≤ suc k
decimal-length zero n h = omega (arith, ap length (decimal_one n h))
decimal-length (suc k) n h =
    let tenth : length (decimal (n / 10)) ≤ suc k = decimal-length k (n / 10) (omega (arith, pow-suc 10 (suc k))) in
    ⊎_elim (λ m. omega (arith, ap length (decimal_more n m), length-append (decimal (n / 10)) (digit (n % 10) ∷ [])))
    (λ m. omega (arith, ap length (decimal_one n m)))
    (le_or_lt 10 n)

-- A number written: its only digit, or the digits of a tenth and one more behind them.
pub printed_digit : {o p : List ℕ} {at n : ℕ} {d : ℕ} (k : ℕ) → k < 10 → d ≡ digit k → Printed o at (d ∷ []) n p → Printed o at (decimal k) n p
printed_digit k h e w = printed_as (ap (λ (d : ℕ). d ∷ []) e ∙ sym (decimal_one k h)) w

pub printed_digits : {o p q : List ℕ} {at m n : ℕ} {d : ℕ} (k : ℕ) → 10 ≤ k → d ≡ digit (k % 10) → Printed o at (decimal (k / 10)) m p
    → Printed p m (d ∷ []) n q → Printed o at (decimal k) n q
printed_digits {d = d} k h e v w =
    printed_as (ap (λ (d : ℕ). decimal (k / 10) ++ (d ∷ [])) e ∙ sym (decimal_more k h)) (printed_both (decimal (k / 10)) (d ∷ []) v w)

-- The same in a text.
pub writes_digit : {t u : Text} {d : ℕ} (k : ℕ) → k < 10 → d ≡ digit k → Writes t (d ∷ []) u → Writes t (decimal k) u
writes_digit k h e w = record { row = w.row; printed = printed_digit k h e w.printed }

pub writes_digits : {t u v : Text} {d : ℕ} (k : ℕ) → 10 ≤ k → d ≡ digit (k % 10) → Writes t (decimal (k / 10)) u → Writes u (d ∷ []) v
    → Writes t (decimal k) v
writes_digits k h e x y = record { row = y.row ∙ x.row; printed = printed_digits k h e x.printed y.printed }
