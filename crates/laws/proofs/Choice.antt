-- A choice by a test is a choice by the fact that the test stands for.
use mathlib.Core.Bool.{Bool, true, false, cond}
use mathlib.Core.Path.{◌≡◌, refl, sym, ◌∙◌}
use Rattle.laws.specs.Inner.{Says}
use Rattle.laws.proofs.Says.{true≢false, says_no, says_false}

pub chosen {ℓ} : {A : Type ℓ} {b : Bool} {P : Type 0} → Says b P → (m n : A) → P → cond b m n ≡ m
chosen s m n p = rw (s.found p)

pub not_chosen {ℓ} : {A : Type ℓ} {b : Bool} {P : Type 0} → Says b P → (m n : A) → (P → ⊥) → cond b m n ≡ n
not_chosen s m n p = rw (says_no s p)

-- What holds of one where the fact holds, and of the other where it doesn't, holds of the choice.
pub either_way {ℓ} : {A : Type ℓ} {b : Bool} {P : Type 0} (X : A → Type 0) (s : Says b P) (m n : A) → (P → X m) → ((P → ⊥) → X n) → X (cond b m n)
either_way {b = true} X s m n f g = f (s.means refl)
either_way {b = false} X s m n f g = g (says_false s refl)

-- As the code comes to it: it took the one, or went on to the other.
pub taken {ℓ} : {A : Type ℓ} {b : Bool} {P : Type 0} {m r : A} → Says b P → (n : A) → P → r ≡ m → r ≡ cond b m n
taken {m = m} s n p e = e ∙ sym (chosen s m n p)

pub left {ℓ} : {A : Type ℓ} {b : Bool} {P : Type 0} {n r : A} → Says b P → (m : A) → (P → ⊥) → r ≡ n → r ≡ cond b m n
left {n = n} s m p e = e ∙ sym (not_chosen s m n p)

-- The same where it asked the test itself.
pub if-true {ℓ} : {A : Type ℓ} {b : Bool} {m r : A} → b ≡ true → (n : A) → r ≡ m → r ≡ cond b m n
if-true {b = true} h n e = e
if-true {b = false} h n e = absurd (true≢false (sym h))

pub if-false {ℓ} : {A : Type ℓ} {b : Bool} {n r : A} → b ≡ false → (m : A) → r ≡ n → r ≡ cond b m n
if-false {b = true} h m e = absurd (true≢false h)
if-false {b = false} h m e = e
