-- The rule of each letter: what its test says, and the nodes that obey.
use Prim.Native.Nat.{ℕ, ◌+◌, ◌-◌, ◌≤◌, ◌<◌}
use mathlib.Core.Bool.{Bool, true, false, cond}
use mathlib.Core.Path.{◌≡◌, refl, sym, subst, ◌∙◌}
use mathlib.Core.List.{List}
use native.Mathlib.Omega.{arith}
use lib.ListN.{length, get_or}
use Rattle.std.specs.Bool.{then_some}
use Rattle.std.specs.Prelude.{Option, Some, None}
use Rattle.laws.specs.Inner.{Says}
use Rattle.laws.proofs.Choice.{chosen, not_chosen, either_way}
use Rattle.laws.proofs.Says.{true≢false, says_iff, says_and, says_le, says_eq}
use Rattle.cutting.specs.Piece.{Piece, piece_at, Numbered}
use Rattle.cutting.specs.Dissection.{rest, crossed, Line}
use Rattle.fields.specs.Number.{number2_of}
use Rattle.fields.specs.Format.{letter_v, letter_h, letter_p, letter_s, node_length}
use Rattle.nodes.specs.Encoding.{letter_of}
use Rattle.nodes.specs.Reads.{Frame}
use Rattle.nodes.specs.Inner.{is_inside, line_node, is_piece, piece_node, scrap_node, letter_node, node_at}
use Rattle.nodes.specs.declared.Node.{Node}
use Rattle.nodes.proofs.Encoding.{NodeStands}

pub is_inside_says : (side c : ℕ) → Says (is_inside side c) (Line side c (rest side c))
unfolding is_inside
is_inside_says side c =
    says_iff ((λ h. record { least = h.0; most = h.1; leaves = refl }), (λ l. (l.least, l.most)))
    (says_and (says_le 1 c) (says_le c (side - 1)))

pub is_piece_says : (pieces : List Piece) (k x y : ℕ) → Says (is_piece pieces k x y) (Numbered pieces k x y (piece_at pieces k).value)
unfolding is_piece
is_piece_says pieces k x y =
    says_iff (
      λ h. record { first = h.0; last = h.1.0; width = h.1.1.0; height = h.1.1.1; value = refl },
      λ n. (n.first, (n.last, (n.width, n.height))),
    )
    (says_and (says_le 1 k) (says_and (says_le k (length pieces)) (says_and (says_eq _ _) (says_eq _ _))))

-- A node is kept by a test that holds just where its rule does.
pub kept : {A : Type 0} {b d : Bool} {P : Type 0} {r : Option A} (x : A) → Says d P
    → (b ≡ true → P) → (P → b ≡ true) → r ≡ then_some b x → r ≡ cond d (Some x) None
kept {b = true} x s f g e = e ∙ sym (chosen s _ _ (f refl))
kept {b = false} x s f g e = e ∙ sym (not_chosen s _ _ (λ p. true≢false (sym (g p))))

-- The letters, one by one.
module _ (pieces : List Piece) (letter number x y : ℕ) where
  pub on_line : (tall : Bool) {side : ℕ} → side ≡ crossed tall x y → letter ≡ letter_of tall → line_node tall side number ≡ letter_node pieces letter number x y
  unfolding letter_node
  on_line true e d = rw (e, d)
  on_line false e d = rw (e, d)

  pub on_P : letter ≡ letter_p → piece_node pieces number x y ≡ letter_node pieces letter number x y
  unfolding letter_node
  on_P e = rw e

  pub on_S : letter ≡ letter_s → scrap_node number ≡ letter_node pieces letter number x y
  unfolding letter_node
  on_S e = rw e

  pub on_other : (letter ≡ letter_v → ⊥) → (letter ≡ letter_h → ⊥) → (letter ≡ letter_p → ⊥) → (letter ≡ letter_s → ⊥)
      → None ≡ letter_node pieces letter number x y
  unfolding letter_node
  on_other a b c d = sym (not_chosen (says_eq _ _) _ _ a ∙ not_chosen (says_eq _ _) _ _ b ∙ not_chosen (says_eq _ _) _ _ c ∙ not_chosen (says_eq _ _) _ _ d)

-- The node at a place: there, or not whole.
pub node_short : (pieces : List Piece) (s : List ℕ) (f : Frame) → length s < f.at + node_length → None ≡ node_at pieces s f
unfolding node_at
node_short pieces s f h = sym (not_chosen (says_le (f.at + node_length) (length s)) _ _ (λ l. omega arith))

pub node_whole : (pieces : List Piece) (s : List ℕ) (f : Frame) {letter number : ℕ} → NodeStands s f.at letter number
    → letter_node pieces letter number f.width f.height ≡ node_at pieces s f
unfolding node_at
node_whole pieces s f n = rw (n.letter, n.number) (sym (chosen (says_le _ _) _ _ n.whole))

-- What a node that was found tells: its letter and its number stand there, and it obeys the letter's rule.
abbrev pub Tells : List Piece → List ℕ → Frame → Option Node → Type 0
Tells pieces s f (Some (Node.Line tall c)) =
    NodeStands s f.at (letter_of tall) c × Line (crossed tall f.width f.height) c (rest (crossed tall f.width f.height) c)
Tells pieces s f (Some (Node.Piece k)) = NodeStands s f.at letter_p k × Numbered pieces k f.width f.height (piece_at pieces k).value
Tells pieces s f (Some Node.Scrap) = NodeStands s f.at letter_s 0
Tells pieces s f None = Unit {0}

judged : (pieces : List Piece) (s : List ℕ) (f : Frame) → Tells pieces s f (node_at pieces s f)
unfolding node_at letter_node
judged pieces s f =
    either_way X (says_le (f.at + node_length) (length s)) _ _
    (λ h. either_way X (says_eq letter letter_v) _ _ (of_line h false)
    (λ _. either_way X (says_eq letter letter_h) _ _ (of_line h true)
    (λ _. either_way X (says_eq letter letter_p) _ _
    (λ e. either_way X (is_piece_says pieces number f.width f.height) _ _ (λ n. (record { whole = h; letter = sym e; number = refl }, n)) (λ _. tt))
    (λ _. either_way X (says_eq letter letter_s) _ _
    (λ e. either_way X (says_eq number 0) _ _ (λ z. record { whole = h; letter = sym e; number = sym z }) (λ _. tt))
    (λ _. tt)))))
    (λ _. tt)
  where
    X : Option Node → Type 0
    X = Tells pieces s f

    letter : ℕ
    letter = get_or s f.at 0

    number : ℕ
    number = number2_of s (f.at + 1)

    of_line : f.at + node_length ≤ length s → (tall : Bool) → letter ≡ letter_of tall → X (line_node tall (crossed tall f.width f.height) number)
    of_line h tall e =
        either_way X (is_inside_says (crossed tall f.width f.height) number) _ _ (λ l. (record { whole = h; letter = sym e; number = refl }, l)) (λ _. tt)

pub node_tells : (pieces : List Piece) (s : List ℕ) (f : Frame) {n : Option Node} → node_at pieces s f ≡ n → Tells pieces s f n
node_tells pieces s f e = subst (Tells pieces s f) e (judged pieces s f)
