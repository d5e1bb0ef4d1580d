-- The laws of little-endian numbers: reading and writing are inverse to each other, at any place of a row.
use Rattle.std.proofs.Common.{◌≡◌, ℕ, suc, ◌+◌, ◌-◌, ◌*◌, ◌/◌, ◌%◌, ◌<◌, ◌≤◌, List, [], ◌∷◌, ◌++◌, length, get_or, take, drop, sym, ap, ◌∙◌, ap₂, append_assoc, add-zero, add-one, arith, length-append, get_or-drop, drop-cons, drop-drop, take-add, drop_at}
use borrow.Rule.Slice.PartMut.{put_mid}
use Rattle.std.specs.Int.{w16, w32, to_le_bytes, byte_at}
use Rattle.laws.specs.Put.{put}
use Rattle.laws.proofs.Put.{put_next}
pub use Rattle.fields.specs.Inner.{bytes2-length, bytes4-length, number2_bytes, number4_bytes}
use Rattle.fields.specs.Number.{joined, joined_halves, number2_of, number4_of, bytes2, bytes4, Bytes}

-- A number at a place of a row is one at the start of what is left there.
pub number2_drop : (s : List ℕ) (at : ℕ) → number2_of s at ≡ number2_of (drop at s) 0
unfolding number2_of
number2_drop s at = simp (get_or-drop, add-zero)

pub number4_drop : (s : List ℕ) (at : ℕ) → number4_of s at ≡ number4_of (drop at s) 0
unfolding number4_of
number4_drop s at =
    ap₂ joined_halves (number2_drop s at)
    (number2_drop s (at + 2) ∙ (ap (λ (l : List ℕ). number2_of l 0) (sym (drop-drop 2 at s)) ∙ sym (number2_drop (drop at s) 2)))

-- The bytes of a number are read as that number at a place behind p.
pub number2_behind : (p : List ℕ) (n : ℕ) (r : List ℕ) (at : ℕ) → length p ≡ at → n < 65_536 → number2_of (p ++ (bytes2 n ++ r)) at ≡ n
number2_behind p n r at e h =
    number2_drop (p ++ (bytes2 n ++ r)) at ∙ (ap (λ (l : List ℕ). number2_of l 0) (drop_at p (bytes2 n ++ r) at e) ∙ number2_bytes n r h)

pub number4_behind : (p : List ℕ) (n : ℕ) (r : List ℕ) (at : ℕ) → length p ≡ at → n < 4_294_967_296 → number4_of (p ++ (bytes4 n ++ r)) at ≡ n
number4_behind p n r at e h =
    number4_drop (p ++ (bytes4 n ++ r)) at ∙ (ap (λ (l : List ℕ). number4_of l 0) (drop_at p (bytes4 n ++ r) at e) ∙ number4_bytes n r h)

-- A number read from a row of bytes fits its field, and its bytes are those that were read.
pub number2_below : (s : List ℕ) (at : ℕ) → Bytes s → number2_of s at < 65_536
unfolding number2_of
number2_below s at b = omega (arith, b at, b (at + 1))

bytes2_joined : (x y : ℕ) → x < 256 → y < 256 → bytes2 (joined x y) ≡ x ∷ (y ∷ [])
unfolding bytes2
bytes2_joined x y h l =
    let low : joined x y % 256 ≡ x = omega arith in
    let whole : joined x y / 256 ≡ y = omega arith in
    let high : joined x y / 256 % 256 ≡ y = rw whole (omega arith) in
    ap₂ (λ (a d : ℕ). a ∷ (d ∷ [])) low high

pub bytes2_number : (s : List ℕ) (at : ℕ) → Bytes s → at + 2 ≤ length s → bytes2 (number2_of s at) ≡ take 2 (drop at s)
unfolding number2_of
bytes2_number s at b h =
    let x : ℕ = get_or s at 0 in
    let y : ℕ = get_or s (at + 1) 0 in
    let first : drop at s ≡ x ∷ drop (at + 1) s = rw add-one (drop-cons s at 0 (omega arith)) in
    let second : drop (at + 1) s ≡ y ∷ drop (suc (at + 1)) s = drop-cons s (at + 1) 0 (omega arith) in
    bytes2_joined x y (b at) (b (at + 1)) ∙ sym (ap (take 2) first ∙ ap (λ (l : List ℕ). x ∷ take 1 l) second)

pub bytes4_number : (s : List ℕ) (at : ℕ) → Bytes s → at + 4 ≤ length s → bytes4 (number4_of s at) ≡ take 4 (drop at s)
unfolding number4_of bytes4
bytes4_number s at b h =
    let x : ℕ = number2_of s at in
    let y : ℕ = number2_of s (at + 2) in
    let lower : joined_halves x y % 65_536 ≡ x = omega (arith, number2_below s at b) in
    let upper : joined_halves x y / 65_536 ≡ y = omega (arith, number2_below s at b) in
    ap₂ (λ (m n : ℕ). bytes2 m ++ bytes2 n) lower upper
    ∙ (ap₂ ◌++◌ (bytes2_number s at b (omega arith)) (bytes2_number s (at + 2) b (omega arith) ∙ ap (take 2) (sym (drop-drop 2 at s)))
    ∙ sym (take-add 2 2 (drop at s)))

-- A part that is written as long as it was.
put_part : (o : List ℕ) (at k : ℕ) (e : List ℕ) {p : List ℕ} → k ≡ length e → p ≡ e → put_mid at k o p ≡ put o at e
unfolding put
put_part o at k e f g =
    ap₂ (λ (n : ℕ) (l : List ℕ). take at o ++ (l ++ drop n (drop at o))) f g ∙ ap (λ (l : List ℕ). take at o ++ (e ++ l)) (drop-drop (length e) at o)

pub put_bytes2 : (o : List ℕ) (at n : ℕ) {p : List ℕ} → p ≡ to_le_bytes w16 n → put_mid at (at + 2 - at) o p ≡ put o at (bytes2 n)
unfolding bytes2
put_bytes2 o at n e = put_part o at (at + 2 - at) (bytes2 n) (omega arith) e

pub put_bytes4 : (o : List ℕ) (at n : ℕ) {p : List ℕ} → p ≡ to_le_bytes w32 n → put_mid at (at + 4 - at) o p ≡ put o at (bytes4 n)
unfolding bytes2 bytes4
put_bytes4 o at n e =
    let first : byte_at 0 n ≡ n % 65_536 % 256 = omega arith in
    let second : byte_at 1 n ≡ n % 65_536 / 256 % 256 = omega arith in
    let fourth : byte_at 3 n ≡ n / 65_536 / 256 % 256 = omega arith in
    let same : to_le_bytes w32 n ≡ bytes4 n = λ i. first i ∷ (second i ∷ (byte_at 2 n ∷ (fourth i ∷ []))) in
    put_part o at (at + 4 - at) (bytes4 n) (omega arith) (e ∙ same)

-- Three numbers of k bytes each, one behind the other.
pub put_three : (k : ℕ) (bytes : ℕ → List ℕ) → ((n : ℕ) → length (bytes n) ≡ k) → (o : List ℕ) (at a b d : ℕ) {p q r : List ℕ}
    → at + 3 * k ≤ length o
    → p ≡ put o at (bytes a)
    → q ≡ put p (at + k) (bytes b)
    → r ≡ put q (at + 2 * k) (bytes d)
    → r ≡ put o at (bytes a ++ (bytes b ++ bytes d))
put_three k bytes long o at a b d h e f g =
    let two : length (bytes a ++ bytes b) ≡ 2 * k = length-append (bytes a) (bytes b) ∙ omega (arith, long a, long b) in
    put_next o at (bytes a ++ bytes b) (bytes d) (omega arith) (omega arith)
    (put_next o at (bytes a) (bytes b) (omega (arith, long a)) (omega (arith, long a)) e f)
    g
    ∙ ap (put o at) (append_assoc (bytes a) (bytes b) (bytes d))
