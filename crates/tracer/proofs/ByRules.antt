-- The tree that the code traces is the tree by the rules, and there is no other.
use Prim.Native.Nat.{ℕ, ◌-◌, ◌≤◌, ◌<◌}
use mathlib.Core.Bool.{Bool, true, false, ◌&&◌}
use mathlib.Core.Path.{◌≡◌, refl, sym, ap, ap₂, ◌∙◌, subst}
use mathlib.Core.Logic.{⊎_elim}
use mathlib.Core.List.{List}
use native.Mathlib.Omega.{arith}
use Rattle.laws.specs.Inner.{Says}
use Rattle.laws.proofs.Order.{le_or_lt}
use Rattle.laws.proofs.Says.{true≢false, says_and, says_le, says_lt, both}
use Rattle.laws.proofs.Choice.{chosen, not_chosen}
use Rattle.cutting.specs.Piece.{Piece, Lays, InRange, Inside}
use Rattle.cutting.specs.Dissection.{rest}
use Rattle.cutting.specs.Candidate.{Smaller}
use Rattle.cutting.specs.Tree.{Tree}
use Rattle.cutting.proofs.Box.{box_induction}
use Rattle.board.specs.Inner.{Rows, Hold}
use Rattle.board.proofs.Holds.{row_of}
use Rattle.tracer.specs.Rules.{Trimmed, Fitting, TreeBy}
use Rattle.tracer.specs.Inner.{part_of, WantedPart, whole, near_wanted, far_wanted, trimmed_to, cut_out, step_in, tree_by, traces_by, traced, traces}
use Rattle.std.proofs.Common.{Option, Some, None}
use Rattle.tracer.specs.declared.Wanted.{Wanted}
use Rattle.tracer.specs.declared.Step.{Step}
use Rattle.tracer.proofs.Traced.{traced_own, traces_own}
use Rattle.tracer.proofs.Strikes.{Strikes, ruled_strikes, strikes_only}

-- A trim of a part that fits: with a line, or without.
pub trim : (tall : Bool) {p x : ℕ} (t : Tree) → p ≤ x → (u : Tree) × Trimmed tall p x t u
trim tall {p} {x} t h = ⊎_elim (λ l. (t, Trimmed.whole (omega arith))) (λ l. (Tree.line tall p t Tree.scrap_s, Trimmed.cut l)) (le_or_lt x p)

module _ (rows : Rows) (cell : ℕ → ℕ → ℕ) where
  -- Rule 6.6 strikes nowhere in a part, and this is its tree.
  abbrev IsTraced : WantedPart → Tree → Type 0
  IsTraced p tree = (traces rows cell p ≡ true) × (traced rows cell p ≡ tree)

  own : (p : WantedPart) {step : Option Step} {tree : Tree} → step_in rows cell p ≡ step → traces_by (traces rows cell) p step ≡ true
      → tree_by (traced rows cell) p step ≡ tree → IsTraced p tree
  own p e f g = (traces_own rows cell p e ∙ f, traced_own rows cell p e ∙ g)

  line_own : (p : WantedPart) {tall : Bool} {c : ℕ} {wanted : Wanted} {s t : Tree} → step_in rows cell p ≡ Some (Step.Line c wanted tall)
      → IsTraced (near_wanted tall c wanted p) s
      → IsTraced (far_wanted tall c wanted p) t → IsTraced p (Tree.line tall c s t)
  unfolding traces_by tree_by
  line_own p {tall} {c} e n f = own p e (ap₂ ◌&&◌ n.0 f.0) (ap₂ (Tree.line tall c) n.1 f.1)

  -- What is waste is scrap.
  waste_traced : (x y : ℕ) → IsTraced (part_of x y Wanted.Waste) Tree.scrap_s
  unfolding step_in traces_by tree_by
  waste_traced x y = own (part_of x y Wanted.Waste) refl refl refl

  -- A piece is cut out of a part by the lines of rule 6.5.
  module _ (k : ℕ) where
    abbrev p : ℕ
    p = rows.width (k - 1)

    abbrev q : ℕ
    q = rows.height (k - 1)

    abbrev piece : Wanted
    piece = Wanted.Piece k

    wanted_step : (x y : ℕ) → step_in rows cell (part_of x y piece) ≡ Some (cut_out rows x y k)
    unfolding step_in
    wanted_step x y = refl

    trim_cuts : (tall : Bool) {size side : ℕ} (after : Step) → 1 ≤ size → size < side → trimmed_to tall size side piece after ≡ Step.Line size piece tall
    unfolding trimmed_to
    trim_cuts tall {size} {side} after h l = chosen (says_and (says_le 1 size) (says_lt size side)) _ _ (h, l)

    trim_passes : (tall : Bool) {size side : ℕ} (after : Step) → side ≤ size → trimmed_to tall size side piece after ≡ after
    unfolding trimmed_to
    trim_passes tall {size} {side} after h = not_chosen (says_and (says_le 1 size) (says_lt size side)) _ _ (λ l. omega (arith, l.1))

    module _ (wide : 1 ≤ p) (high : 1 ≤ q) where
      piece_traced : IsTraced (part_of p q piece) (Tree.piece_p k)
      unfolding cut_out traces_by tree_by
      piece_traced =
          own (part_of p q piece) (wanted_step p q ∙ ap Some (trim_passes false _ (omega arith) ∙ trim_passes true _ (omega arith))) refl refl

      up_traced : {y : ℕ} {s : Tree} → Trimmed true q y (Tree.piece_p k) s → IsTraced (part_of p y piece) s
      unfolding cut_out
      up_traced {y} (Trimmed.cut l) =
          line_own (part_of p y piece) (wanted_step p y ∙ ap Some (trim_passes false _ (omega arith) ∙ trim_cuts true _ high l)) piece_traced
          (waste_traced p (rest y q))
      up_traced (Trimmed.whole e) = subst (λ (y : ℕ). IsTraced (part_of p y piece) (Tree.piece_p k)) e piece_traced

      across_traced : {x : ℕ} (y : ℕ) {s t : Tree} → Trimmed false p x s t → IsTraced (part_of p y piece) s → IsTraced (part_of x y piece) t
      unfolding cut_out
      across_traced {x} y (Trimmed.cut l) d =
          line_own (part_of x y piece) (wanted_step x y ∙ ap Some (trim_cuts false _ wide l)) d (waste_traced (rest x p) y)
      across_traced {x} y {t = t} (Trimmed.whole e) d = subst (λ (x : ℕ). IsTraced (part_of x y piece) t) e d

  -- The next step of a part decides alone: what was wanted of it makes no difference after that.
  same_tree : (x y : ℕ) (v w : Wanted) (step : Option Step) → tree_by (traced rows cell) (part_of x y v) step ≡ tree_by (traced rows cell) (part_of x y w) step
  unfolding tree_by
  same_tree x y v w None = refl
  same_tree x y v w (Some Step.Scrap) = refl
  same_tree x y v w (Some (Step.Piece k)) = refl
  same_tree x y v w (Some (Step.Line c _ tall)) = refl

  same_test : (x y : ℕ) (v w : Wanted) (step : Option Step)
      → traces_by (traces rows cell) (part_of x y v) step ≡ traces_by (traces rows cell) (part_of x y w) step
  unfolding traces_by
  same_test x y v w None = refl
  same_test x y v w (Some Step.Scrap) = refl
  same_test x y v w (Some (Step.Piece k)) = refl
  same_test x y v w (Some (Step.Line c _ tall)) = refl

  wanted_traced : (x y : ℕ) (v w : Wanted) {step : Option Step} {tree : Tree} → step_in rows cell (part_of x y v) ≡ step
      → step_in rows cell (part_of x y w) ≡ step
      → IsTraced (part_of x y w) tree → IsTraced (part_of x y v) tree
  wanted_traced x y v w {step} e f d =
      own (part_of x y v) e (same_test x y v w step ∙ (sym (traces_own rows cell (part_of x y w) f) ∙ d.0))
      (same_tree x y v w step ∙ (sym (traced_own rows cell (part_of x y w) f) ∙ d.1))

module _ {pieces : List Piece} {rows : Rows} {a b : ℕ} (hold : Hold rows pieces a b) (range : InRange (Lays pieces))
    (cell : ℕ → ℕ → ℕ) where
  -- A free part by the rule that strikes.
  free_step : {x y : ℕ} (i : Inside x y a b) {step : Option Step} → Strikes hold cell x y i step → step_in rows cell (whole x y) ≡ step
  unfolding step_in
  free_step {x} {y} i s = strikes_only hold cell x y i s

  -- Rule 6.5: the piece is cut out as it says.
  fitting_traced : {x y k : ℕ} (i : Inside x y a b) {s t : Tree} → step_in rows cell (whole x y) ≡ Some (cut_out rows x y k)
      → (f : Fitting pieces a b cell x y k)
      → Trimmed true f.height y (Tree.piece_p k) s → Trimmed false f.width x s t → IsTraced rows cell (whole x y) t
  fitting_traced {x} {y} {k} i {s} {t} e f up across =
      let n = f.numbered in
      let row = row_of hold.lists {k = k - 1} (omega (arith, n.first)) n in
      let g = range f.width f.height _ (record { number = k; numbered = n }) in
      let wide : 1 ≤ rows.width (k - 1) = omega (arith, row.width, g.width_least) in
      let high : 1 ≤ rows.height (k - 1) = omega (arith, row.height, g.height_least) in
      wanted_traced rows cell x y Wanted.Free (Wanted.Piece k) e (wanted_step rows cell k x y)
      (across_traced rows cell k wide high y (subst (λ (m : ℕ). Trimmed false m x s t) (sym row.width) across)
      (up_traced rows cell k wide high (subst (λ (m : ℕ). Trimmed true m y (Tree.piece_p k) s) (sym row.height) up)))

  -- A tree by the rules is the one that is traced.
  pub rules_trace : {x y : ℕ} {tree : Tree} → Inside x y a b → TreeBy pieces a b cell x y tree
      → (traces rows cell (whole x y) ≡ true) × (traced rows cell (whole x y) ≡ tree)
  unfolding traces_by tree_by
  rules_trace {x} {y} i (TreeBy.rule1 z) = own rows cell (whole x y) (free_step i (Strikes.rule1 z)) refl refl
  rules_trace {x} {y} i (TreeBy.rule2 z l) = own rows cell (whole x y) (free_step i (Strikes.rule2 z l)) refl refl
  rules_trace {x} {y} i (TreeBy.rule3 z n l s t) =
      let line = l.holds.tried in
      line_own rows cell (whole x y) (free_step i (Strikes.rule3 z n l))
      (rules_trace (omega (arith, i, line.line.least, line.half)) s) (rules_trace (omega (arith, i, line.line.least, line.half)) t)
  rules_trace {x} {y} i (TreeBy.rule4 z n m l s t) =
      let line = l.holds.tried in
      line_own rows cell (whole x y) (free_step i (Strikes.rule4 z n m l))
      (rules_trace (omega (arith, i, line.line.least, line.half)) s) (rules_trace (omega (arith, i, line.line.least, line.half)) t)
  rules_trace {x} {y} i (TreeBy.rule5 z n m k first up across) =
      fitting_traced i (free_step i (Strikes.rule5 z n m k first)) first.holds up across

  -- And the tree that is traced is by the rules.
  abbrev Ruled : ℕ → ℕ → Type 0
  Ruled x y = traces rows cell (whole x y) ≡ true → TreeBy pieces a b cell x y (traced rows cell (whole x y))

  by_rule : (x y : ℕ) (i : Inside x y a b) → ((u w : ℕ) → Smaller u w x y → Ruled u w) → {step : Option Step} → Strikes hold cell x y i step
      → traces_by (traces rows cell) (whole x y) step ≡ true → step_in rows cell (whole x y) ≡ step
      → TreeBy pieces a b cell x y (tree_by (traced rows cell) (whole x y) step)
  unfolding traces_by tree_by
  by_rule x y i below (Strikes.rule1 z) e q = TreeBy.rule1 z
  by_rule x y i below (Strikes.rule2 z l) e q = TreeBy.rule2 z l
  by_rule x y i below (Strikes.rule3 z n l) e q =
      let parts = both _ _ e in
      let line = l.holds.tried in
      TreeBy.rule3 z n l
      (below _ y (record { inside = omega (arith, i, line.line.least, line.half); less = omega (arith, line.line.most, line.line.least) }) parts.0)
      (below _ y (record { inside = omega (arith, i, line.line.least, line.half); less = omega (arith, line.line.least, line.half) }) parts.1)
  by_rule x y i below (Strikes.rule4 z n m l) e q =
      let parts = both _ _ e in
      let line = l.holds.tried in
      TreeBy.rule4 z n m l
      (below x _ (record { inside = omega (arith, i, line.line.least, line.half); less = omega (arith, line.line.most, line.line.least) }) parts.0)
      (below x _ (record { inside = omega (arith, i, line.line.least, line.half); less = omega (arith, line.line.least, line.half) }) parts.1)
  by_rule x y i below (Strikes.rule5 z n m k first) e q =
      let f = first.holds in
      let up = trim true (Tree.piece_p _) f.fits.high in
      let across = trim false up.0 f.fits.wide in
      subst (TreeBy pieces a b cell x y) (sym (fitting_traced i q f up.1 across.1).1 ∙ traced_own rows cell (whole x y) q)
      (TreeBy.rule5 z n m k first up.1 across.1)
  by_rule x y i below (Strikes.rule6 z n m k l) e q = absurd (true≢false (sym e))

  pub traced_by_rules : (x y : ℕ) → Inside x y a b → traces rows cell (whole x y) ≡ true → TreeBy pieces a b cell x y (traced rows cell (whole x y))
  unfolding step_in
  traced_by_rules =
      box_induction Ruled (λ x y i below e.
      subst (TreeBy pieces a b cell x y) (sym (traced_own rows cell (whole x y) refl))
      (by_rule x y i below (ruled_strikes hold cell x y i) (sym (traces_own rows cell (whole x y) refl) ∙ e) refl))

  -- Only one tree is by the rules.
  pub rules_only : {x y : ℕ} {s t : Tree} → Inside x y a b → TreeBy pieces a b cell x y s → TreeBy pieces a b cell x y t → s ≡ t
  rules_only i s t = sym (rules_trace i s).1 ∙ (rules_trace i t).1

  -- Rule 6.6 strikes nowhere exactly where there is a tree by the rules.
  pub traces_says : (x y : ℕ) → Inside x y a b → Says (traces rows cell (whole x y)) ((tree : Tree) × TreeBy pieces a b cell x y tree)
  traces_says x y i = record { means = λ e. (traced rows cell (whole x y), traced_by_rules x y i e); found = λ t. (rules_trace i t.1).0 }
