-- The laws of put: its length, what stands where, one put after another, and one element.
use Prim.Native.Nat.{ℕ, ◌+◌, ◌≤◌, ◌<◌}
use mathlib.Core.Path.{◌≡◌, refl, sym, ap, ap₂, ◌∙◌}
use mathlib.Core.List.{List, [], ◌∷◌, ◌++◌, append_assoc}
use native.Mathlib.Omega.{arith}
use native.Mathlib.Nat.{add-zero}
use lib.ListN.{length, take, drop, set, length-append, length-drop, take-append-drop}
use lib.Seq.{length-take-le, take_at, drop_at, drop-drop, sets, sets-eq}
use Rattle.laws.specs.Put.{put}

module _ {ℓ} {A : Type ℓ} where
  pub put_length : (o : List A) (at : ℕ) (e : List A) → at + length e ≤ length o → length (put o at e) ≡ length o
  unfolding put
  put_length o at e h =
      let t : length (take at o) ≡ at = length-take-le at o (omega arith) in
      simp (length-append, length-drop) (omega arith)

  -- Stores of e's elements, one after the other, are one put.
  pub put_sets : (o : List A) (at : ℕ) (e : List A) → at + length e ≤ length o → sets o at e ≡ put o at e
  unfolding put
  put_sets o at e h = sets-eq e o at h ∙ append_assoc (take at o) e (drop (at + length e) o)

  pub put_one : (o : List A) (at : ℕ) (a : A) → at < length o → put o at (a ∷ []) ≡ set o at a
  put_one o at a h = sym (put_sets o at (a ∷ []) (omega arith))

  pub put_none : (o : List A) (at : ℕ) → put o at [] ≡ o
  unfolding put
  put_none o at = rw add-zero (take-append-drop at o)

  pub put_drop : (o : List A) (at : ℕ) (e : List A) → at ≤ length o → drop (at + length e) (put o at e) ≡ drop (at + length e) o
  unfolding put
  put_drop o at e h =
      sym (drop-drop (length e) at (put o at e))
      ∙ (ap (drop (length e)) (drop_at (take at o) _ at (length-take-le at o h)) ∙ drop_at e _ (length e) refl)

  -- The start of the list up to the end of the part.
  pub put_front : (o : List A) (at : ℕ) (e : List A) → at ≤ length o → take (at + length e) (put o at e) ≡ take at o ++ e
  unfolding put
  put_front o at e h =
      ap (take (at + length e)) (sym (append_assoc (take at o) e (drop (at + length e) o)))
      ∙ take_at (take at o ++ e) _ (at + length e) (length-append (take at o) e ∙ ap (λ (k : ℕ). k + length e) (length-take-le at o h))

  -- A part and the part right behind it are one part.
  pub put_put : (o : List A) (at : ℕ) (e f : List A) → at + length e ≤ length o → put (put o at e) (at + length e) f ≡ put o at (e ++ f)
  unfolding put
  put_put o at e f h =
      let places : at + length e + length f ≡ at + length (e ++ f) = omega (arith, length-append e f) in
      let rest : drop (at + length e + length f) (put o at e) ≡ drop (at + length (e ++ f)) o =
      sym (drop-drop (length f) (at + length e) (put o at e))
      ∙ (ap (drop (length f)) (put_drop o at e (omega arith))
      ∙ (drop-drop (length f) (at + length e) o ∙ ap (λ (k : ℕ). drop k o) places)) in
      ap₂ (λ (a b : List A). a ++ (f ++ b)) (put_front o at e (omega arith)) rest
      ∙ (append_assoc (take at o) e _ ∙ ap (λ (m : List A). take at o ++ m) (sym (append_assoc e f _)))

  -- The same of what the code left behind it, step by step.
  pub put_next : (o : List A) (at : ℕ) (e f : List A) {p q : List A} {next : ℕ} → at + length e ≤ length o → next ≡ at + length e → p ≡ put o at e
      → q ≡ put p next f → q ≡ put o at (e ++ f)
  put_next o at e f h n i j = j ∙ (ap₂ (λ (l : List A) (k : ℕ). put l k f) i n ∙ put_put o at e f h)
