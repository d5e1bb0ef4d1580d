-- For any list of pieces and any x, y ≥ 1 the best value exists, and `best_value` computes it.
use Prim.Native.Nat.{ℕ, zero, suc, ◌+◌, ◌-◌, ◌≤◌, ◌<◌, max}
use mathlib.Core.Bool.{Bool, true, false, cond}
use mathlib.Core.Path.{◌≡◌, refl, sym, ap, ap₂, subst}
use mathlib.Core.Logic.{⊎_elim}
use mathlib.Core.List.{List}
use native.Mathlib.Omega.{arith}
use lib.ListN.{length, get_or}
use Rattle.laws.specs.Inner.{Says}
use Rattle.laws.proofs.Says.{says_and, says_eq}
use Rattle.laws.proofs.Order.{larger}
use Rattle.laws.proofs.Below.{best_below_bound, best_below_attained, best_below_same}
use Rattle.laws.proofs.Depth.{deep_own, deep_keeps}
use Rattle.cutting.specs.Piece.{Piece, sized, no_piece, Lays, Lies}
use Rattle.cutting.specs.Dissection.{rest, Line, Earns, Best}
use Rattle.cutting.specs.Inner.{exactly, exact_value, every_line, best_by, best_value}
use Rattle.cutting.proofs.Listed.{lays_listed, listed_lays}

-- A piece earns its exact value on x by y, and one of this size earns its value.
exactly_earned : (pieces : List Piece) (i x y : ℕ) → i < length pieces → Earns (Lays pieces) x y (exactly (get_or pieces i no_piece) x y)
unfolding exactly
exactly_earned pieces i x y h = go _ _ (says_and (says_eq p.width x) (says_eq p.height y)) refl
  where
    p : Piece
    p = get_or pieces i no_piece

    go : (b : Bool) (v : ℕ) → Says b ((p.width ≡ x) × (p.height ≡ y)) → p.value ≡ v → Earns (Lays pieces) x y (cond b v 0)
    go false v s e = Earns.scrap
    go true v s e =
        Earns.piece (listed_lays {i = i} (record { within = h; is = λ j. record { width = (s.means refl).0 j; height = (s.means refl).1 j; value = e j } }))

exactly_sized : (x y v : ℕ) → exactly (sized x y v) x y ≡ v
unfolding exactly
exactly_sized x y v = ap (λ (b : Bool). cond b v 0) ((says_and (says_eq x x) (says_eq y y)).found (refl, refl))

-- The largest exact value is earned, and no exact piece is worth more.
exact_earned : (pieces : List Piece) (x y : ℕ) → Earns (Lays pieces) x y (exact_value pieces x y)
unfolding exact_value
exact_earned pieces x y =
    ⊎_elim (λ e. subst (Earns (Lays pieces) x y) (sym e) Earns.scrap)
    (λ t. subst (Earns (Lays pieces) x y) (sym t.2) (exactly_earned pieces t.0 x y t.1))
    (best_below_attained (λ i. exactly (get_or pieces i no_piece) x y) (length pieces))

exact_bound : (pieces : List Piece) (x y v : ℕ) → Lies pieces x y v → v ≤ exact_value pieces x y
unfolding exact_value
exact_bound pieces x y v l =
    let t = lays_listed l in
    let worth = ap (λ (p : Piece). exactly p x y) t.1.is in
    omega (arith, best_below_bound (λ i. exactly (get_or pieces i no_piece) x y) (length pieces) t.0 t.1.within, worth, exactly_sized x y v)

-- Every line is tried, and the best of them is earned where each part's number is.
module _ (S : ℕ → Type 0) (part : ℕ → ℕ) (x : ℕ) where
  every_line_earned : S 0 → ((c r : ℕ) → Line x c r → S (part c + part r)) → S (every_line part x)
  every_line_earned none each =
      ⊎_elim (λ e. subst S (sym e) none)
      (λ t. subst S (sym t.2) (each _ _ (record { least = omega arith; most = omega (arith, t.1); leaves = refl })))
      (best_below_attained (λ i. part (suc i) + part (rest x (suc i))) (x - 1))

every_line_bound : (part : ℕ → ℕ) (x c r : ℕ) → Line x c r → part c + part r ≤ every_line part x
every_line_bound part x zero r l = absurd (omega arith)
every_line_bound part x (suc i) r l =
    omega (arith, best_below_bound (λ i. part (suc i) + part (rest x (suc i))) (x - 1) i (omega arith), ap part l.leaves)

every_line_same : (part other : ℕ → ℕ) (x : ℕ) → ((c : ℕ) → c < x → part c ≡ other c) → every_line part x ≡ every_line other x
every_line_same part other x h =
    best_below_same _ _ (x - 1) (λ i b. ap₂ ◌+◌ (h (suc i) (omega arith)) (h (rest x (suc i)) (omega arith)))

module _ (pieces : List Piece) where
  best_value_own : (x y : ℕ) → best_value pieces x y ≡ best_by pieces (best_value pieces) x y
  unfolding best_value best_by
  best_value_own x y =
      deep_own _ _ _
      (λ f g s same. ap₂ (λ (m n : ℕ). max (exact_value pieces s.0 s.1) (max m n))
      (every_line_same _ _ s.0 (λ c l. same (c, s.1) (omega arith)))
      (every_line_same _ _ s.1 (λ d l. same (s.0, d) (omega arith))))
      (x, y)

  -- What is computed is earned, and no dissection earns more.
  best_by_earned : (part : ℕ → ℕ → ℕ) → ((u w : ℕ) → Earns (Lays pieces) u w (part u w)) → (x y : ℕ) → Earns (Lays pieces) x y (best_by pieces part x y)
  unfolding best_by
  best_by_earned part earned x y =
      larger earns (exact_earned pieces x y)
      (larger earns
      (every_line_earned earns (λ c. part c y) x Earns.scrap (λ c r l. Earns.vertical l (earned c y) (earned r y)))
      (every_line_earned earns (λ d. part x d) y Earns.scrap (λ d r l. Earns.horizontal l (earned x d) (earned x r))))
    where
      earns : ℕ → Type 0
      earns = Earns (Lays pieces) x y

  best_value_earned : (x y : ℕ) → Earns (Lays pieces) x y (best_value pieces x y)
  unfolding best_value
  best_value_earned x y =
      deep_keeps _ _ _ (λ s v. Earns (Lays pieces) s.0 s.1 v) (λ s. Earns.scrap)
      (λ part earned s. best_by_earned (λ u w. part (u, w)) (λ u w. earned (u, w)) s.0 s.1)
      (x, y)

  best_value_bound : {x y e : ℕ} → Earns (Lays pieces) x y e → e ≤ best_value pieces x y
  unfolding best_by
  best_value_bound Earns.scrap = omega arith
  best_value_bound {x} {y} {e} (Earns.piece g) = omega (arith, best_value_own x y, exact_bound pieces x y e g)
  best_value_bound {x} {y} (Earns.vertical {c = c} {r = r} l s t) =
      omega (arith, best_value_own x y, best_value_bound s, best_value_bound t, every_line_bound (λ c. best_value pieces c y) x c r l)
  best_value_bound {x} {y} (Earns.horizontal {d = d} {r = r} l s t) =
      omega (arith, best_value_own x y, best_value_bound s, best_value_bound t, every_line_bound (λ d. best_value pieces x d) y d r l)

pub best_value_best : (pieces : List Piece) (x y : ℕ) → 1 ≤ x → 1 ≤ y → Best (Lays pieces) x y (best_value pieces x y)
best_value_best pieces x y p q = record { attained = best_value_earned pieces x y; bound = λ e d. best_value_bound pieces d }
