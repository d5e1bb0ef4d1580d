-- One part written behind another: both are written, as far as there is room.
use Prim.Native.Nat.{ℕ, ◌+◌, ◌-◌, ◌≤◌, ◌<◌}
use mathlib.Core.Path.{◌≡◌, refl, sym, ap, ap₂, ◌∙◌, subst}
use mathlib.Core.Logic.{⊎_elim}
use mathlib.Core.List.{List, [], ◌∷◌, ◌++◌}
use native.Mathlib.Omega.{arith}
use native.Mathlib.Numerals.{add-one}
use lib.ListN.{length, take, get_or, set, length-append, length-take}
use lib.Seq.{take_all, take-append-le, take-append-add, take-suc}
use Rattle.laws.specs.Put.{put}
use Rattle.laws.proofs.Order.{le_or_lt}
use Rattle.laws.proofs.Put.{put_length, put_one, put_none, put_put}
use Rattle.printing.specs.Inner.{fitting, Printed, Writes}
use Rattle.printing.specs.declared.Text.{Text}

-- What fits, by cases.
fits_all : (o : List ℕ) (at : ℕ) (e : List ℕ) → length e ≤ length o - at → fitting o at e ≡ e
unfolding fitting
fits_all o at e h = take_all (length o - at) e h

fits_none : (o : List ℕ) (at : ℕ) (e : List ℕ) → length o ≤ at → fitting o at e ≡ []
unfolding fitting
fits_none o at e h = rw (none (length o) at h)
  where
    none : (n m : ℕ) → n ≤ m → n - m ≡ 0
    none n m h = omega arith

fits-length : (o : List ℕ) (at : ℕ) (e : List ℕ) → length (fitting o at e) ≤ length o - at
unfolding fitting
fits-length o at e = omega (arith, length-take (length o - at) e)

-- Writing changes no length.
pub printed_length : {o p : List ℕ} {at n : ℕ} {e : List ℕ} → Printed o at e n p → length p ≡ length o
printed_length {o} {p} {at} {n} {e} w =
    ap length w.bytes
    ∙ ⊎_elim (λ (h : at ≤ length o). put_length o at (fitting o at e) (omega (arith, fits-length o at e)))
    (λ (h : length o < at). ap length (ap (put o at) (fits_none o at e (omega arith)) ∙ put_none o at))
    (le_or_lt at (length o))

-- What of a second part fits behind the first.
fits_both : (o p : List ℕ) (at : ℕ) (e f : List ℕ) → length p ≡ length o → fitting o at e ++ fitting p (at + length (fitting o at e)) f ≡ fitting o at (e ++ f)
unfolding fitting
fits_both o p at e f l = ⊎_elim whole part (le_or_lt (length e) (length o - at))
  where
    whole : length e ≤ length o - at → take (length o - at) e ++ take (length p - (at + length (take (length o - at) e))) f ≡ take (length o - at) (e ++ f)
    whole h =
        let all : take (length o - at) e ≡ e = take_all (length o - at) e h in
        let n : length p - (at + length e) ≡ length o - at - length e = omega arith in
        let m : length e + (length o - at - length e) ≡ length o - at = omega arith in
        ap (λ (t : List ℕ). t ++ take (length p - (at + length t)) f) all
        ∙ (ap (λ (k : ℕ). e ++ take k f) n ∙ (sym (take-append-add e f (length o - at - length e)) ∙ ap (λ (k : ℕ). take k (e ++ f)) m))

    part : length o - at < length e → take (length o - at) e ++ take (length p - (at + length (take (length o - at) e))) f ≡ take (length o - at) (e ++ f)
    part h =
        let n : length p - (at + length (take (length o - at) e)) ≡ 0 = omega (arith, length-take (length o - at) e) in
        ap (λ (k : ℕ). take (length o - at) e ++ take k f) n ∙ (append_none (take (length o - at) e) ∙ sym (take-append-le (length o - at) e f (omega arith)))
      where
        append_none : (l : List ℕ) → l ++ take 0 f ≡ l
        append_none [] = refl
        append_none (a ∷ l) = ap (λ (m : List ℕ). a ∷ m) (append_none l)

pub printed_both : {o p q : List ℕ} {at m n : ℕ} (e f : List ℕ) → Printed o at e m p → Printed p m f n q → Printed o at (e ++ f) n q
printed_both {o} {p} {q} {at} {m} {n} e f v w = record { place = place; bytes = bytes }
  where
    second : fitting p m f ≡ fitting p (at + length (fitting o at e)) f
    second = ap (λ (k : ℕ). fitting p k f) v.place

    all : fitting o at e ++ fitting p m f ≡ fitting o at (e ++ f)
    all = ap (λ (l : List ℕ). fitting o at e ++ l) second ∙ fits_both o p at e f (printed_length v)

    place : n ≡ at + length (fitting o at (e ++ f))
    place = omega (arith, v.place, w.place, length-append (fitting o at e) (fitting p m f), ap length all)

    joined : put (put o at (fitting o at e)) (at + length (fitting o at e)) (fitting p m f) ≡ put o at (fitting o at e ++ fitting p m f)
    joined =
        ⊎_elim (λ (h : at ≤ length o). put_put o at (fitting o at e) (fitting p m f) (omega (arith, fits-length o at e)))
        (λ (h : length o < at).
        let g : fitting p m f ≡ [] = fits_none p m f (omega (arith, v.place, printed_length v)) in
        ap (put (put o at (fitting o at e)) (at + length (fitting o at e))) g
        ∙ (put_none _ _ ∙ ap (put o at) (sym (append_empty (fitting o at e)) ∙ ap (λ (l : List ℕ). fitting o at e ++ l) (sym g))))
        (le_or_lt at (length o))
      where
        append_empty : (l : List ℕ) → l ++ [] ≡ l
        append_empty [] = refl
        append_empty (a ∷ l) = ap (λ (k : List ℕ). a ∷ k) (append_empty l)

    bytes : q ≡ put o at (fitting o at (e ++ f))
    bytes = w.bytes ∙ (ap₂ (λ (l : List ℕ) (k : ℕ). put l k (fitting p m f)) v.bytes v.place ∙ (joined ∙ ap (put o at) all))

pub printed_as : {o p : List ℕ} {at n : ℕ} {e f : List ℕ} → e ≡ f → Printed o at e n p → Printed o at f n p
printed_as {o} {p} {at} {n} g w = subst (λ (l : List ℕ). Printed o at l n p) g w

-- Nothing written.
pub printed_nothing : (o : List ℕ) (at : ℕ) → Printed o at [] at o
unfolding fitting
printed_nothing o at = record { place = place; bytes = sym (ap (put o at) empty ∙ put_none o at) }
  where
    empty : ◌≡◌ {A = List ℕ} (take (length o - at) []) []
    empty = take_all (length o - at) [] (omega arith)

    place : at ≡ at + length {A = ℕ} (take (length o - at) [])
    place = omega (arith, ap length empty)

-- One byte, where there is room, or where there is none.
pub printed_one : {o p : List ℕ} {at : ℕ} (a : ℕ) → at < length o → p ≡ set o at a → Printed o at (a ∷ []) (at + 1) p
printed_one {o} {p} {at} a h e =
    let all = fits_all o at (a ∷ []) (omega arith) in
    record { place = ap (λ (l : List ℕ). at + length l) (sym all); bytes = e ∙ (sym (put_one o at a h) ∙ ap (put o at) (sym all)) }

pub printed_none : {o : List ℕ} {at : ℕ} (e : List ℕ) → length o ≤ at → Printed o at e at o
printed_none {o} {at} e h =
    let none = fits_none o at e h in
    record { place = omega (arith, ap length none); bytes = sym (ap (put o at) none ∙ put_none o at) }

-- A word, byte by byte.
pub printed_more : {o p q : List ℕ} {at m n : ℕ} (word : List ℕ) (i : ℕ) → i < length word → Printed o at (take i word) m p
    → Printed p m (get_or word i 0 ∷ []) n q → Printed o at (take (i + 1) word) n q
printed_more word i h v w = printed_as (rw add-one (sym (take-suc word i 0 h))) (printed_both (take i word) (get_or word i 0 ∷ []) v w)

pub printed_whole : {o p : List ℕ} {at n : ℕ} (word : List ℕ) (i : ℕ) → length word ≤ i → Printed o at (take i word) n p → Printed o at word n p
printed_whole word i h w = printed_as (take_all i word h) w

-- With room enough all of it is written.
pub printed_put : {o p : List ℕ} {at n : ℕ} {e : List ℕ} → at + length e ≤ length o → Printed o at e n p → (n ≡ at + length e) × (p ≡ put o at e)
printed_put {o} {at = at} {e = e} h w =
    let all = fits_all o at e (omega arith) in
    (w.place ∙ ap (λ (l : List ℕ). at + length l) all, w.bytes ∙ ap (put o at) all)

-- A text: nothing written, one byte, one part behind another, a word byte by byte.
pub writes_nothing : (t : Text) → Writes t [] t
writes_nothing t = record { row = refl; printed = printed_nothing t.row.now t.at }

pub writes_both : {t u v : Text} (e f : List ℕ) → Writes t e u → Writes u f v → Writes t (e ++ f) v
writes_both e f x y = record { row = y.row ∙ x.row; printed = printed_both e f x.printed y.printed }

pub writes_as : {t u : Text} {e f : List ℕ} → e ≡ f → Writes t e u → Writes t f u
writes_as g w = record { row = w.row; printed = printed_as g w.printed }

pub writes_more : {t u v : Text} (word : List ℕ) (i : ℕ) → i < length word → Writes t (take i word) u → Writes u (get_or word i 0 ∷ []) v
    → Writes t (take (i + 1) word) v
writes_more word i h x y = record { row = y.row ∙ x.row; printed = printed_more word i h x.printed y.printed }
