-- The tree of a part: its equation by the next step, the length of its nodes, and that it is short.
use Prim.Native.Nat.{ℕ, zero, suc, ◌+◌, ◌*◌, ◌/◌, ◌≤◌, ◌<◌}
use mathlib.Core.Bool.{Bool, true, false, cond, ◌&&◌}
use mathlib.Core.Path.{◌≡◌, refl, sym, ap, ap₂, ◌∙◌, subst}
use mathlib.Core.List.{◌++◌}
use native.Mathlib.Omega.{arith}
use native.Mathlib.Nat.{mul-le-mul}
use lib.ListN.{length}
use Rattle.laws.specs.Inner.{deep}
use Rattle.laws.proofs.Says.{says_and, says_eq, says_le, says_lt}
use Rattle.laws.proofs.First.{number_most}
use Rattle.laws.proofs.Choice.{either_way}
use Rattle.laws.proofs.Depth.{by_size, deep_own}
use Rattle.cutting.specs.Limits.{side_max}
use Rattle.cutting.specs.Dissection.{rest, crossed, Line}
use Rattle.cutting.specs.Tree.{Tree}
use Rattle.cutting.proofs.Tree.{parts_area, least, line_far, part_less}
use Rattle.fields.specs.Format.{letter_p, letter_s, node_length}
use Rattle.board.specs.Inner.{Rows}
use Rattle.nodes.specs.Encoding.{letter_of, encode}
use Rattle.nodes.proofs.Encoding.{node-length, line-length}
use Rattle.std.proofs.Common.{Option, Some, None, unwrap_or}
use Rattle.std.proofs.lemmas.Option.{none-some, same_Some, cond_some}
use Rattle.tracer.specs.declared.Wanted.{Wanted}
use Rattle.tracer.specs.declared.Step.{Step}
use Rattle.tracer.specs.Inner.{WantedPart, near_wanted, far_wanted, suits, some_number, first_piece, adds_to, least_line, trimmed_to, cut_out, strikes, ruled, step_in, tree_by, traces_by, sides_of, traced, traces, measured, node_of, length_most, Among}

-- What a step says of its part: a line lies inside the side that it crosses, and what is wanted of its near part is as `Good` says.
pub record LineStep (Good : Wanted → Type 0) (p : WantedPart) (tall : Bool) (c : ℕ) (wanted : Wanted) : Type 0 where
  pub inside : Line (crossed tall p.width p.height) c (rest (crossed tall p.width p.height) c)
  pub near : Good wanted

abbrev StepIs : (Wanted → Type 0) → WantedPart → Step → Type 0
StepIs Good p Step.Scrap = Unit {0}
StepIs Good p (Step.Piece k) = Unit {0}
StepIs Good p (Step.Line c wanted tall) = LineStep Good p tall c wanted

abbrev Steps : (Wanted → Type 0) → WantedPart → Option Step → Type 0
Steps Good p None = Unit {0}
Steps Good p (Some s) = StepIs Good p s

-- A part is not wanted as waste.
abbrev pub Used : Wanted → Type 0
Used Wanted.Free = Unit {0}
Used (Wanted.Piece k) = Unit {0}
Used Wanted.Waste = ⊥

-- A number that a search found is 1 at least.
pub some_number_is : (n : ℕ) {k : ℕ} → some_number n ≡ Some k → (1 ≤ k) × (n ≡ k)
some_number_is zero {k} e = absurd (none-some k e)
some_number_is (suc n) {k} e = let i = same_Some (suc n) k e in (omega arith, i)

module _ (rows : Rows) (cell : ℕ → ℕ → ℕ) (p : WantedPart) (Good : Wanted → Type 0) (free : Good Wanted.Free)
    (pieces : (k : ℕ) → 1 ≤ k → k ≤ rows.count → Good (Wanted.Piece k)) where
  abbrev x : ℕ
  x = p.width

  abbrev y : ℕ
  y = p.height

  trimmed_steps : (tall : Bool) (size : ℕ) (wanted : Wanted) (after : Step) → Good wanted → StepIs Good p after
      → StepIs Good p (trimmed_to tall size (crossed tall x y) wanted after)
  unfolding trimmed_to
  trimmed_steps tall size _ after g s =
      either_way (StepIs Good p) (says_and (says_le 1 size) (says_lt size (crossed tall x y))) _ _
      (λ l. record { inside = record { least = l.0; most = omega (arith, l.1); leaves = refl }; near = g })
      (λ _. s)

  cut_steps : (k : ℕ) → Good (Wanted.Piece k) → StepIs Good p (cut_out rows x y k)
  unfolding cut_out
  cut_steps k g = trimmed_steps false _ _ _ g (trimmed_steps true _ _ _ g tt)

  strikes_steps : (k : Option ℕ) (step : ℕ → Step) (after : Option Step) → ((i : ℕ) → k ≡ Some i → StepIs Good p (step i)) → Steps Good p after
      → Steps Good p (strikes k step after)
  unfolding strikes
  strikes_steps None step after f s = s
  strikes_steps (Some i) step after f s = f i refl

  line_steps : (tall : Bool) (number i : ℕ) → least_line rows cell tall number x y ≡ Some i → LineStep Good p tall i Wanted.Free
  unfolding least_line
  line_steps tall number i e =
      let is = some_number_is _ e in
      let most = number_most (λ j. adds_to rows cell tall number x y (suc j)) (crossed tall x y / 2) in
      record { inside = record { least = is.0; most = omega (arith, most, is); leaves = refl }; near = free }

  piece_steps : (test : ℕ → Bool) (number i : ℕ) → first_piece rows test number ≡ Some i → StepIs Good p (cut_out rows x y i)
  unfolding first_piece
  piece_steps test number i e =
      let is = some_number_is _ e in
      cut_steps i (pieces i is.0 (omega (arith, is, number_most (suits rows test number) rows.count)))

  ruled_steps : (number : ℕ) → Steps Good p (ruled rows cell x y number)
  unfolding ruled
  ruled_steps number =
      either_way (Steps Good p) (says_eq number 0) _ _ (λ _. tt)
      (λ _. strikes_steps _ _ _ (λ i e. tt)
      (strikes_steps _ _ _ (λ i e. line_steps false number i e)
      (strikes_steps _ _ _ (λ i e. line_steps true number i e)
      (strikes_steps _ _ _ (λ i e. piece_steps _ number i e) tt))))

  pub next_steps : ((k : ℕ) → p.wanted ≡ Wanted.Piece k → Good (Wanted.Piece k)) → Steps Good p (step_in rows cell p)
  unfolding step_in
  next_steps good = go p.wanted refl
    where
      go : (w : Wanted) → p.wanted ≡ w → Steps Good p (step_in rows cell (record p { wanted = w }))
      go Wanted.Free e = ruled_steps _
      go (Wanted.Piece k) e = cut_steps k (good k e)
      go Wanted.Waste e = tt

module _ (rows : Rows) (cell : ℕ → ℕ → ℕ) where
  -- A line lies inside the side that it crosses, whatever the rows hold and whatever is wanted.
  any_steps : (p : WantedPart) → Steps (λ _. Unit {0}) p (step_in rows cell p)
  any_steps p = next_steps rows cell p (λ _. Unit {0}) tt (λ k l h. tt) (λ k e. tt)

  pub step_inside : (p : WantedPart) {tall : Bool} {c : ℕ} {wanted : Wanted} → step_in rows cell p ≡ Some (Step.Line c wanted tall)
      → Line (crossed tall p.width p.height) c (rest (crossed tall p.width p.height) c)
  step_inside p e = (subst (Steps (λ _. Unit {0}) p) e (any_steps p)).inside

  -- Its near part is free, or has a piece of the rows cut out of it.
  pub step_among : (p : WantedPart) {tall : Bool} {c : ℕ} {wanted : Wanted} → Among rows p.wanted → step_in rows cell p ≡ Some (Step.Line c wanted tall)
      → Among rows wanted × Used wanted
  step_among p w e =
      (subst (Steps (λ n. Among rows n × Used n) p) e
      (next_steps rows cell p (λ n. Among rows n × Used n) (tt, tt) (λ k l h. ((l, h), tt)) (λ k i. (subst (Among rows) i w, tt)))).near

-- A line at c lies inside the side of a part that it crosses.
abbrev pub LineIn : Bool → ℕ → WantedPart → Type 0
LineIn tall c p = Line (crossed tall p.width p.height) c (rest (crossed tall p.width p.height) c)

pub near_less : (tall : Bool) (c : ℕ) (wanted : Wanted) (p : WantedPart) → LineIn tall c p → sides_of (near_wanted tall c wanted p) < sides_of p
near_less tall c _ p l = part_less tall p.width p.height c (omega (arith, l.least, l.most))

pub far_less : (tall : Bool) (c : ℕ) (wanted : Wanted) (p : WantedPart) → LineIn tall c p → sides_of (far_wanted tall c wanted p) < sides_of p
far_less tall c _ p l = part_less tall p.width p.height (rest (crossed tall p.width p.height) c) (omega (arith, l.least, l.most))

module _ (rows : Rows) (cell : ℕ → ℕ → ℕ) where
  -- The tree and the test look at the two parts of a line alone, and these are smaller.
  tree_parts : (g h : WantedPart → Tree) (p : WantedPart) → ((q : WantedPart) → sides_of q < sides_of p → g q ≡ h q)
      → tree_by g p (step_in rows cell p) ≡ tree_by h p (step_in rows cell p)
  unfolding tree_by
  tree_parts g h p same = go (step_in rows cell p) (any_steps rows cell p)
    where
      go : (step : Option Step) → Steps (λ _. Unit {0}) p step → tree_by g p step ≡ tree_by h p step
      go None s = refl
      go (Some Step.Scrap) s = refl
      go (Some (Step.Piece k)) s = refl
      go (Some (Step.Line c wanted tall)) s = ap₂ (Tree.line tall c) (same _ (near_less tall c wanted p s.inside)) (same _ (far_less tall c wanted p s.inside))

  test_parts : (g h : WantedPart → Bool) (p : WantedPart) → ((q : WantedPart) → sides_of q < sides_of p → g q ≡ h q)
      → traces_by g p (step_in rows cell p) ≡ traces_by h p (step_in rows cell p)
  unfolding traces_by
  test_parts g h p same = go (step_in rows cell p) (any_steps rows cell p)
    where
      go : (step : Option Step) → Steps (λ _. Unit {0}) p step → traces_by g p step ≡ traces_by h p step
      go None s = refl
      go (Some Step.Scrap) s = refl
      go (Some (Step.Piece k)) s = refl
      go (Some (Step.Line c wanted tall)) s = ap₂ ◌&&◌ (same _ (near_less tall c wanted p s.inside)) (same _ (far_less tall c wanted p s.inside))

  -- The equations of the tree and of the test, where the next step is known.
  pub traced_own : (p : WantedPart) {step : Option Step} → step_in rows cell p ≡ step → traced rows cell p ≡ tree_by (traced rows cell) p step
  unfolding traced
  traced_own p e =
      let tree : (WantedPart → Tree) → WantedPart → Tree = λ read q. tree_by read q (step_in rows cell q) in
      deep_own sides_of Tree.scrap_s tree tree_parts p ∙ ap (tree_by (deep sides_of Tree.scrap_s tree) p) e

  pub traces_own : (p : WantedPart) {step : Option Step} → step_in rows cell p ≡ step → traces rows cell p ≡ traces_by (traces rows cell) p step
  unfolding traces
  traces_own p e =
      let test : (WantedPart → Bool) → WantedPart → Bool = λ read q. traces_by read q (step_in rows cell q) in
      deep_own sides_of false test test_parts p ∙ ap (traces_by (deep sides_of false test) p) e

scrap-length : length (encode Tree.scrap_s) ≡ node_length
unfolding encode
scrap-length = node-length letter_s 0

piece-length : (k : ℕ) → length (encode (Tree.piece_p k)) ≡ node_length
unfolding encode
piece-length k = node-length letter_p k

pub length_line : (tall : Bool) (c : ℕ) (s t : Tree) → length (encode (Tree.line tall c s t)) ≡ node_length + length (encode s) + length (encode t)
unfolding encode
length_line tall c s t = line-length (letter_of tall) c s t

-- The code's test that a step is no line.
abbrev pub NoLine : Step → Type 0
NoLine s = (c : ℕ) (wanted : Wanted) (tall : Bool) → s ≡ Step.Line c wanted tall → ⊥

-- What a line measures, by what its two parts do: nothing where one of them measures nothing.
pub record MeasuredLine (near far whole : Option ℕ) : Type 0 where
  pub no_near : near ≡ None → None ≡ whole
  pub no_far : far ≡ None → None ≡ whole
  pub both : {m n : ℕ} → near ≡ Some m → far ≡ Some n → Some (node_length + m + n) ≡ whole

module _ (rows : Rows) (cell : ℕ → ℕ → ℕ) (p : WantedPart) where
  -- What a part measures, by its test and its tree.
  abbrev by_test : Bool → Tree → Option ℕ
  by_test b t = cond b (Some (length (encode t))) None

  measured_own : {step : Option Step} → step_in rows cell p ≡ step
      → by_test (traces_by (traces rows cell) p step) (tree_by (traced rows cell) p step) ≡ measured rows cell p
  unfolding measured
  measured_own e = sym (ap₂ by_test (traces_own rows cell p e) (traced_own rows cell p e))

  -- Where rule 6.6 strikes, and where the step is no line.
  pub measured_struck : step_in rows cell p ≡ None → None ≡ measured rows cell p
  unfolding traces_by tree_by
  measured_struck e = measured_own e

  pub measured_leaf : (step : Step) → NoLine step → step_in rows cell p ≡ Some step → Some node_length ≡ measured rows cell p
  unfolding traces_by tree_by
  measured_leaf Step.Scrap l e = sym (ap Some scrap-length) ∙ measured_own e
  measured_leaf (Step.Piece k) l e = sym (ap Some (piece-length k)) ∙ measured_own e
  measured_leaf (Step.Line c wanted tall) l e = absurd (l c wanted tall refl)

  pub nodes_leaf : (step : Step) → NoLine step → unwrap_or (step_in rows cell p) Step.Scrap ≡ step → encode (traced rows cell p) ≡ node_of step
  unfolding tree_by encode node_of
  nodes_leaf = go (step_in rows cell p) refl
    where
      go : (found : Option Step) → step_in rows cell p ≡ found → (step : Step) → NoLine step → unwrap_or found Step.Scrap ≡ step
          → encode (traced rows cell p) ≡ node_of step
      go None e step l f = ap encode (traced_own rows cell p e) ∙ ap node_of f
      go (Some Step.Scrap) e step l f = ap encode (traced_own rows cell p e) ∙ ap node_of f
      go (Some (Step.Piece k)) e step l f = ap encode (traced_own rows cell p e) ∙ ap node_of f
      go (Some (Step.Line c wanted tall)) e step l f = absurd (l c wanted tall (sym f))

  -- A line's two parts, each by itself.
  module _ {tall : Bool} {c : ℕ} {wanted : Wanted} (e : step_in rows cell p ≡ Some (Step.Line c wanted tall)) where
    abbrev near : WantedPart
    near = near_wanted tall c wanted p

    abbrev far : WantedPart
    far = far_wanted tall c wanted p

    line_own : by_test (traces rows cell near && traces rows cell far) (Tree.line tall c (traced rows cell near) (traced rows cell far)) ≡ measured rows cell p
    unfolding traces_by tree_by
    line_own = measured_own e

    pub measured_line : MeasuredLine (measured rows cell near) (measured rows cell far) (measured rows cell p)
    unfolding measured
    measured_line =
        subst (MeasuredLine (measured rows cell near) (measured rows cell far)) line_own
        (go (traces rows cell near) (traces rows cell far) (traced rows cell near) (traced rows cell far))
      where
        go : (b d : Bool) (s t : Tree) → MeasuredLine (by_test b s) (by_test d t) (by_test (b && d) (Tree.line tall c s t))
        go true true s t =
            record {
              no_near = λ e. absurd (none-some _ (sym e));
              no_far = λ e. absurd (none-some _ (sym e));
              both = λ e f. ap Some (ap₂ (λ (m n : ℕ). node_length + m + n) (sym (same_Some _ _ e)) (sym (same_Some _ _ f)) ∙ sym (length_line tall c s t));
            }
        go true false s t = record { no_near = λ e. refl; no_far = λ e. refl; both = λ e f. absurd (none-some _ f) }
        go false d s t = record { no_near = λ e. refl; no_far = λ e. refl; both = λ e f. absurd (none-some _ e) }

    pub nodes_line : encode (traced rows cell p)
        ≡ node_of (Step.Line c wanted tall) ++ (encode (traced rows cell near) ++ encode (traced rows cell far))
    unfolding tree_by encode node_of
    nodes_line = ap encode (traced_own rows cell p e)

-- No tree is longer than two nodes for each unit of area.
abbrev Bounded : WantedPart → Tree → Type 0
Bounded p t = 1 ≤ p.width → 1 ≤ p.height → length (encode t) + node_length ≤ 2 * node_length * (p.width * p.height)

unit : (x y n : ℕ) → 1 ≤ x → 1 ≤ y → n ≡ node_length → n + node_length ≤ 2 * node_length * (x * y)
unit x y n h k e = omega (arith, e, mul-le-mul {n₁ = 1} {m₁ = 1} h k)

module _ (rows : Rows) (cell : ℕ → ℕ → ℕ) where
  nodes_most : (p : WantedPart) → Bounded p (traced rows cell p)
  unfolding tree_by
  nodes_most =
      by_size sides_of (λ p. Bounded p (traced rows cell p))
      (λ p below. subst (Bounded p) (sym (traced_own rows cell p refl)) (grown p below (step_in rows cell p) (any_steps rows cell p)))
    where
      grown : (p : WantedPart) → ((q : WantedPart) → sides_of q < sides_of p → Bounded q (traced rows cell q)) → (step : Option Step)
          → Steps (λ _. Unit {0}) p step
          → Bounded p (tree_by (traced rows cell) p step)
      grown p below None s h k = unit _ _ _ h k scrap-length
      grown p below (Some Step.Scrap) s h k = unit _ _ _ h k scrap-length
      grown p below (Some (Step.Piece n)) s h k = unit _ _ _ h k (piece-length n)
      grown p below (Some (Step.Line c wanted tall)) s h k =
          let l = s.inside in
          let near = below (near_wanted tall c wanted p) (near_less tall c wanted p l) (least tall _ _ h l.least) (least tall _ _ l.least k) in
          let far = below (far_wanted tall c wanted p) (far_less tall c wanted p l) (least tall _ _ h (line_far l)) (least tall _ _ (line_far l) k) in
          let all = length_line tall c (traced rows cell (near_wanted tall c wanted p)) (traced rows cell (far_wanted tall c wanted p)) in
          omega (arith, all, near, far, parts_area tall p.width p.height c _ l)

  pub measured_most : (p : WantedPart) {n : ℕ} → 1 ≤ p.width → p.width ≤ side_max → 1 ≤ p.height → p.height ≤ side_max → measured rows cell p ≡ Some n
      → n ≤ length_most
  unfolding measured
  measured_most p {n} h k l m e =
      let is = cond_some (traces rows cell p) (length (encode (traced rows cell p))) n e in
      omega (arith, is, nodes_most p h l, mul-le-mul {n₁ = p.width} {m₁ = p.height} k m)
