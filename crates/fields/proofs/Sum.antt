-- The laws of the running sum: over no bytes, over one part and then another, over one byte more.
use Rattle.std.proofs.Common.{◌≡◌, ℕ, ◌+◌, ◌<◌, List, [], ◌∷◌, ◌++◌, length, get_or, take, sym, refl, ap, ◌∙◌, add-one, arith, take-suc}
use Rattle.fields.specs.Sum.{sum_step, running_sum}

pub sum_none : (start : ℕ) → running_sum start [] ≡ start
unfolding running_sum
sum_none start = refl

-- Over one part and then over the next.
pub sum-append : (start : ℕ) (s t : List ℕ) → running_sum start (s ++ t) ≡ running_sum (running_sum start s) t
unfolding running_sum
sum-append start [] t = refl
sum-append start (b ∷ s) t = sum-append (sum_step start b) s t

-- Over one byte more: the code's k + 1.
pub sum_more : (start : ℕ) (s : List ℕ) (k : ℕ) {sum r : ℕ} → k < length s → sum ≡ running_sum start (take k s) → r ≡ sum_step sum (get_or s k 0)
    → r ≡ running_sum start (take (k + 1) s)
unfolding running_sum
sum_more start s k h e f =
    rw (add-one, take-suc s k 0) (f ∙ (ap (λ (n : ℕ). sum_step n (get_or s k 0)) e ∙ sym (sum-append start (take k s) (get_or s k 0 ∷ []))))

-- The sum stays in its field.
pub sum_below_lem : (start : ℕ) (s : List ℕ) → start < 4_294_967_296 → running_sum start s < 4_294_967_296
unfolding running_sum
sum_below_lem start [] h = h
sum_below_lem start (b ∷ s) h = sum_below_lem (sum_step start b) s (omega arith)
