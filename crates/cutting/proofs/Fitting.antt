-- Only what fits matters: the best value of x by y depends on the pieces that fit in it and on no other (rule 5.4).
use Prim.Native.Nat.{ℕ, suc, ◌-◌, ◌≤◌, ◌<◌}
use mathlib.Core.Path.{◌≡◌, sym, ap, ◌∙◌, subst}
use mathlib.Core.Logic.{◌⊎◌, inl, inr, ⊎_elim, ◌↔◌}
use mathlib.Core.List.{List, [], ◌∷◌, ◌++◌}
use native.Mathlib.Omega.{arith}
use native.Mathlib.Decide.{ℕ_discrete}
use lib.ListN.{length, get_or, take, drop, set, length-append, length-set, length-drop, get_or-append}
use lib.Seq.{get_or-append-add, get_or-set_same, get_or-set_other, get_or-take, get_or-drop, length-take-le, get_or-append_seam}
use Rattle.laws.proofs.Largest.{largest_same}
use Rattle.laws.proofs.Order.{le_or_lt, last_or_below}
use Rattle.cutting.specs.Piece.{Piece, no_piece, piece_at, Lay, Lays, Lies, Fits}
use Rattle.cutting.specs.Dissection.{Earns, Best}
use Rattle.cutting.proofs.Listed.{Listed, lays_listed, listed_lays}
use Rattle.cutting.specs.Change.{added, corrected, removed, CoveredBy, TooLarge}

pub earns_fitting : {lay : Lay} (other : Lay) {x y e : ℕ} → CoveredBy lay other x y → Earns lay x y e → Earns other x y e
earns_fitting other h Earns.scrap = Earns.scrap
earns_fitting other {x = x} {y = y} {e = e} h (Earns.piece g) =
    Earns.piece (h x y e (record { wide = omega arith; high = omega arith }) g)
earns_fitting other h (Earns.vertical l s t) =
    Earns.vertical l (earns_fitting other (λ p q v f. h p q v (record { wide = omega (arith, f.wide); high = f.high })) s)
    (earns_fitting other (λ p q v f. h p q v (record { wide = omega (arith, f.wide); high = f.high })) t)
earns_fitting other h (Earns.horizontal l s t) =
    Earns.horizontal l (earns_fitting other (λ p q v f. h p q v (record { wide = f.wide; high = omega (arith, f.high) })) s)
    (earns_fitting other (λ p q v f. h p q v (record { wide = f.wide; high = omega (arith, f.high) })) t)

-- Lays that agree on what fits have the same best value.
pub fitting_only : (lay other : Lay) (x y : ℕ) → CoveredBy lay other x y → CoveredBy other lay x y → (v : ℕ) → Best lay x y v ↔ Best other x y v
fitting_only lay other x y h k = largest_same (λ e. (earns_fitting other h, earns_fitting lay k))

-- What stands at index i of the list is too large, or stands in the other list too.
Kept : List Piece → List Piece → ℕ → ℕ → ℕ → Type 0
Kept pieces others x y i = TooLarge (get_or pieces i no_piece) x y ⊎ ((j : ℕ) × (j < length others) × (get_or others j no_piece ≡ get_or pieces i no_piece))

covered : (pieces others : List Piece) (x y : ℕ) → ((i : ℕ) → i < length pieces → Kept pieces others x y i) → CoveredBy (Lays pieces) (Lays others) x y
unfolding Kept
covered pieces others x y each p q v f l = place (lays_listed l)
  where
    place : (i : ℕ) × Listed pieces i p q v → Lies others p q v
    place t =
        ⊎_elim (λ large. absurd (large (subst (λ (r : Piece). Fits r.width r.height x y) (sym t.1.is) f)))
        (λ k. listed_lays (record { within = k.1; is = k.2 ∙ t.1.is }))
        (each t.0 t.1.within)

-- Adding a piece leaves the best value of every rectangle in which it does not fit.
pub added_leaves : (pieces : List Piece) (new : Piece) (x y v : ℕ) → TooLarge new x y → Best (Lays pieces) x y v ↔ Best (Lays (added pieces new)) x y v
unfolding added Kept
added_leaves pieces new x y v large =
    fitting_only _ _ x y (covered pieces (pieces ++ (new ∷ [])) x y forth) (covered (pieces ++ (new ∷ [])) pieces x y back) v
  where
    longer : length (pieces ++ (new ∷ [])) ≡ suc (length pieces)
    longer = length-append pieces (new ∷ []) ∙ omega arith

    forth : (i : ℕ) → i < length pieces → Kept pieces (pieces ++ (new ∷ [])) x y i
    forth i h = inr (i, omega (arith, longer), get_or-append pieces (new ∷ []) no_piece i h)

    back : (i : ℕ) → i < length (pieces ++ (new ∷ [])) → Kept (pieces ++ (new ∷ [])) pieces x y i
    back i h =
        let last = get_or-append_seam pieces new [] no_piece in
        ⊎_elim (λ e. inl (subst (λ (r : Piece). TooLarge r x y) (sym (ap (λ (k : ℕ). get_or (pieces ++ (new ∷ [])) k no_piece) e ∙ last)) large))
        (λ l. inr (i, l, sym (get_or-append pieces (new ∷ []) no_piece i l)))
        (last_or_below (subst (λ (n : ℕ). i < n) longer h))

module _ (pieces : List Piece) (k : ℕ) (first : 1 ≤ k) (last : k ≤ length pieces) where
  -- Correcting piece k leaves the best value of every rectangle in which neither the old nor the new size fits.
  pub corrected_leaves : (new : Piece) (x y v : ℕ) → TooLarge (piece_at pieces k) x y → TooLarge new x y
      → Best (Lays pieces) x y v ↔ Best (Lays (corrected pieces k new)) x y v
  unfolding corrected piece_at Kept
  corrected_leaves new x y v old large =
      fitting_only _ _ x y (covered pieces next x y forth) (covered next pieces x y back) v
    where
      next : List Piece
      next = set pieces (k - 1) new

      forth : (i : ℕ) → i < length pieces → Kept pieces next x y i
      forth i h =
          elim (ℕ_discrete i (k - 1)) [
            | yes e ↦ inl (subst (λ (j : ℕ). TooLarge (get_or pieces j no_piece) x y) (sym e) old)
            | no n ↦ inr (i, omega (arith, length-set pieces (k - 1) new), get_or-set_other pieces (k - 1) i new no_piece n)
          ]

      back : (i : ℕ) → i < length next → Kept next pieces x y i
      back i h =
          let there = get_or-set_same pieces (k - 1) new no_piece (omega arith) in
          elim (ℕ_discrete i (k - 1)) [
            | yes e ↦ inl (subst (λ (r : Piece). TooLarge r x y) (sym (ap (λ (j : ℕ). get_or next j no_piece) e ∙ there)) large)
            | no n ↦ inr (i, omega (arith, length-set pieces (k - 1) new), sym (get_or-set_other pieces (k - 1) i new no_piece n))
          ]

  -- Removing piece k leaves the best value of every rectangle in which it does not fit.
  pub removed_leaves : (x y v : ℕ) → TooLarge (piece_at pieces k) x y → Best (Lays pieces) x y v ↔ Best (Lays (removed pieces k)) x y v
  unfolding removed piece_at Kept
  removed_leaves x y v old =
      fitting_only _ _ x y (covered pieces next x y forth) (covered next pieces x y back) v
    where
      head : List Piece
      head = take (k - 1) pieces

      next : List Piece
      next = head ++ drop k pieces

      head-length : length head ≡ k - 1
      head-length = length-take-le (k - 1) pieces (omega arith)

      shorter : suc (length next) ≡ length pieces
      shorter = omega (arith, length-append head (drop k pieces), head-length, length-drop k pieces)

      early : (i : ℕ) → i < k - 1 → get_or next i no_piece ≡ get_or pieces i no_piece
      early i h = get_or-append head (drop k pieces) no_piece i (omega (arith, head-length)) ∙ get_or-take (k - 1) pieces i no_piece h

      late : (i : ℕ) → k ≤ suc i → get_or next i no_piece ≡ get_or pieces (suc i) no_piece
      late i h =
          ap (λ (j : ℕ). get_or next j no_piece) (omega (arith, head-length)) ∙
          (get_or-append-add head (drop k pieces) (suc i - k) no_piece ∙
          (get_or-drop k pieces (suc i - k) no_piece ∙ ap (λ (j : ℕ). get_or pieces j no_piece) (omega arith)))

      forth : (i : ℕ) → i < length pieces → Kept pieces next x y i
      forth i h =
          ⊎_elim (λ g. inr (i - 1, omega (arith, shorter), late (i - 1) (omega arith) ∙ ap (λ (j : ℕ). get_or pieces j no_piece) (omega arith)))
          (λ g. ⊎_elim (λ e. inl (subst (λ (j : ℕ). TooLarge (get_or pieces j no_piece) x y) (sym e) old))
          (λ l. inr (i, omega (arith, shorter), early i l))
          (last_or_below {k = i} {n = k - 1} (omega arith)))
          (le_or_lt k i)

      back : (i : ℕ) → i < length next → Kept next pieces x y i
      back i h =
          ⊎_elim (λ g. inr (suc i, omega (arith, shorter), sym (late i g)))
          (λ g. inr (i, omega (arith, shorter), sym (early i (omega arith))))
          (le_or_lt k (suc i))
