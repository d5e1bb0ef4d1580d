-- What stands where in a list with a part of it overwritten, and when a list is that.
use Prim.Native.Nat.{ℕ, ◌+◌, ◌-◌, ◌≤◌, ◌<◌}
use mathlib.Core.Path.{◌≡◌, sym, ap, ◌∙◌}
use mathlib.Core.List.{List, [], ◌∷◌, ◌++◌, append_assoc}
use mathlib.Core.Logic.{◌⊎◌, inl, inr, ⊎_elim}
use native.Mathlib.Omega.{arith}
use lib.ListN.{length, take, drop, get_or, set, length-append, length-set, get_or-append}
use lib.Seq.{length-take-le, get_or-append-add, get_or-take, get_or-drop, ext_get_or, get_or-set_same, get_or-set_other}
use Rattle.laws.specs.ByIndex.{by_index}
use Rattle.laws.specs.Put.{put}
use Rattle.laws.proofs.Order.{le_or_lt, eq_or_not}
use Rattle.laws.proofs.Put.{put_length, put_none, put_one, put_next}
use Rattle.laws.proofs.ByIndex.{by_index-length, by_index_more}

-- Index i is none of the n from `at` on.
abbrev pub Outside : ℕ → ℕ → ℕ → Type 0
Outside at n i = (i < at) ⊎ (at + n ≤ i)

module _ {ℓ} {A : Type ℓ} (o : List A) (at : ℕ) (e : List A) (d : A) (room : at + length e ≤ length o) where
  -- The code's index: at + k.
  pub put_in : (k : ℕ) → k < length e → get_or (put o at e) (at + k) d ≡ get_or e k d
  unfolding put
  put_in k h =
      let t : length (take at o) ≡ at = length-take-le at o (omega arith) in
      ap (λ (m : ℕ). get_or (put o at e) (m + k) d) (sym t)
      ∙ (get_or-append-add (take at o) (e ++ drop (at + length e) o) k d ∙ get_or-append e (drop (at + length e) o) d k h)

  put_before : (i : ℕ) → i < at → get_or (put o at e) i d ≡ get_or o i d
  unfolding put
  put_before i h =
      get_or-append (take at o) (e ++ drop (at + length e) o) d i (omega (arith, length-take-le at o (omega arith))) ∙ get_or-take at o i d h

  put_after : (n : ℕ) → get_or (put o at e) (at + length e + n) d ≡ get_or o (at + length e + n) d
  unfolding put
  put_after n =
      let t : length (take at o ++ e) ≡ at + length e = length-append (take at o) e ∙ ap (λ (m : ℕ). m + length e) (length-take-le at o (omega arith)) in
      ap (λ (l : List A). get_or l (at + length e + n) d) (sym (append_assoc (take at o) e (drop (at + length e) o)))
      ∙ (ap (λ (m : ℕ). get_or ((take at o ++ e) ++ drop (at + length e) o) (m + n) d) (sym t)
      ∙ (get_or-append-add (take at o ++ e) (drop (at + length e) o) n d ∙ get_or-drop (at + length e) o n d))

  pub put_out : (i : ℕ) → Outside at (length e) i → get_or (put o at e) i d ≡ get_or o i d
  put_out i (inl h) = put_before i h
  put_out i (inr h) =
      let q : i ≡ at + length e + (i - (at + length e)) = omega arith in
      ap (λ (m : ℕ). get_or (put o at e) m d) q ∙ (put_after (i - (at + length e)) ∙ ap (λ (m : ℕ). get_or o m d) (sym q))

  -- A list with these elements is it.
  pub is_put : (l : List A) → length l ≡ length o → ((k : ℕ) → k < length e → get_or l (at + k) d ≡ get_or e k d)
      → ((i : ℕ) → Outside at (length e) i → get_or l i d ≡ get_or o i d) → l ≡ put o at e
  is_put l long inner outer =
      ext_get_or d l (put o at e) (long ∙ sym (put_length o at e room)) (λ i b. each i (le_or_lt at i) (le_or_lt (at + length e) i))
    where
      each : (i : ℕ) → (at ≤ i) ⊎ (i < at) → (at + length e ≤ i) ⊎ (i < at + length e) → get_or l i d ≡ get_or (put o at e) i d
      each i (inr h) m = outer i (inl h) ∙ sym (put_out i (inl h))
      each i (inl g) (inl h) = outer i (inr h) ∙ sym (put_out i (inr h))
      each i (inl g) (inr h) =
          let q : i ≡ at + (i - at) = omega arith in
          let b : i - at < length e = omega arith in
          ap (λ (m : ℕ). get_or l m d) q ∙ (inner (i - at) b ∙ (sym (put_in (i - at) b) ∙ ap (λ (m : ℕ). get_or (put o at e) m d) (sym q)))

-- One element of the part set anew.
pub put-set {ℓ} : {A : Type ℓ} (o : List A) (at : ℕ) (e : List A) (d : A) → at + length e ≤ length o → (k : ℕ) (a : A) → k < length e
    → set (put o at e) (at + k) a ≡ put o at (set e k a)
put-set {A = A} o at e d room k a h =
    is_put o at (set e k a) d (omega (arith, length-set e k a)) (set (put o at e) (at + k) a)
    (length-set (put o at e) (at + k) a ∙ put_length o at e room)
    (λ j b. either j (omega (arith, length-set e k a)) (eq_or_not j k))
    (λ i b. get_or-set_other (put o at e) (at + k) i a d (⊎_elim (λ l q. omega arith) (λ l q. omega (arith, length-set e k a)) b)
    ∙ put_out o at e d room i (⊎_elim (λ l. inl l) (λ l. inr (omega (arith, length-set e k a))) b))
  where
    either : (j : ℕ) → j < length e → (j ≡ k) ⊎ (j ≡ k → ⊥) → get_or (set (put o at e) (at + k) a) (at + j) d ≡ get_or (set e k a) j d
    either j b (inl q) =
        ap (λ (m : ℕ). get_or (set (put o at e) (at + k) a) (at + m) d) q
        ∙ (get_or-set_same (put o at e) (at + k) a d (omega (arith, put_length o at e room))
        ∙ (sym (get_or-set_same e k a d h) ∙ ap (λ (m : ℕ). get_or (set e k a) m d) (sym q)))
    either j b (inr q) =
        get_or-set_other (put o at e) (at + k) (at + j) a d (λ w. q (omega arith))
        ∙ (put_in o at e d room j b ∙ sym (get_or-set_other e k j a d q))

-- A part that is written from its start, element by element: the code's k + 1.
module _ {ℓ} {A : Type ℓ} (o : List A) (at : ℕ) (f : ℕ → A) where
  pub put_start : o ≡ put o at (by_index f 0)
  unfolding by_index
  put_start = sym (put_none o at)

  pub put_more : (k : ℕ) {l : List A} {a : A} → at + k < length o → l ≡ put o at (by_index f k) → a ≡ f k → set l (at + k) a ≡ put o at (by_index f (k + 1))
  put_more k {l} {a} h e g =
      let long : length (by_index f k) ≡ k = by_index-length f k in
      let same : length l ≡ length o = ap length e ∙ put_length o at (by_index f k) (omega arith) in
      put_next o at (by_index f k) (a ∷ []) (omega arith) (ap (λ (m : ℕ). at + m) (sym long)) e (sym (put_one l (at + k) a (omega arith)))
      ∙ ap (put o at) (ap (λ (b : A). by_index f k ++ (b ∷ [])) g ∙ sym (by_index_more f k))
