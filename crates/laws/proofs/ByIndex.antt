-- The laws of by_index: its length, its elements, and that a list with these elements is it.
use Prim.Native.Nat.{ℕ, zero, suc, ◌+◌, ◌<◌}
use mathlib.Core.Path.{◌≡◌, refl, sym, ap, ap₂, ◌∙◌}
use mathlib.Core.List.{List, [], ◌∷◌, ◌++◌}
use native.Mathlib.Omega.{arith}
use native.Mathlib.Numerals.{add-one}
use lib.ListN.{length, get_or}
use lib.Seq.{ext_get_or}
use Rattle.laws.specs.ByIndex.{by_index}

pub by_index-length {ℓ} : {A : Type ℓ} (f : ℕ → A) (n : ℕ) → length (by_index f n) ≡ n
unfolding by_index
by_index-length f zero = refl
by_index-length f (suc n) = ap suc (by_index-length (λ k. f (suc k)) n)

pub by_index_at {ℓ} : {A : Type ℓ} (f : ℕ → A) (n k : ℕ) (d : A) → k < n → get_or (by_index f n) k d ≡ f k
unfolding by_index
by_index_at f zero k d h = absurd (omega arith)
by_index_at f (suc n) zero d h = refl
by_index_at f (suc n) (suc k) d h = by_index_at (λ i. f (suc i)) n k d (omega arith)

pub is_by_index {ℓ} : {A : Type ℓ} (f : ℕ → A) (n : ℕ) (l : List A) (d : A) → length l ≡ n → ((k : ℕ) → k < n → get_or l k d ≡ f k) → l ≡ by_index f n
is_by_index f n l d e h =
    ext_get_or d l (by_index f n) (e ∙ sym (by_index-length f n))
    (λ k b. let c : k < n = omega arith in h k c ∙ sym (by_index_at f n k d c))

pub by_index_same {ℓ} : {A : Type ℓ} (f g : ℕ → A) (n : ℕ) → ((k : ℕ) → k < n → f k ≡ g k) → by_index f n ≡ by_index g n
unfolding by_index
by_index_same f g zero h = refl
by_index_same f g (suc n) h =
    ap₂ ◌∷◌ (h zero (omega arith)) (by_index_same (λ k. f (suc k)) (λ k. g (suc k)) n (λ k b. h (suc k) (omega arith)))

-- One element more stands at the end: the code's n + 1.
pub by_index_more {ℓ} : {A : Type ℓ} (f : ℕ → A) (n : ℕ) → by_index f (n + 1) ≡ by_index f n ++ (f n ∷ [])
unfolding by_index
by_index_more f zero = refl
by_index_more f (suc n) = rw add-one (ap (λ l. f zero ∷ l) (rw add-one at (by_index_more (λ k. f (suc k)) n)))
