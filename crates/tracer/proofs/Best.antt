-- On a table of best values some rule strikes in every cell: there is a tree by the rules, and it earns the best value.
use Prim.Native.Nat.{ℕ, ◌-◌, ◌≤◌}
use mathlib.Core.Bool.{true, false}
use mathlib.Core.Path.{◌≡◌, refl, sym}
use mathlib.Core.List.{List}
use native.Mathlib.Omega.{arith}
use Rattle.cutting.specs.Piece.{Piece, Lays, InRange, Inside}
use Rattle.cutting.specs.Dissection.{Best}
use Rattle.cutting.specs.Candidate.{Candidate, Smaller}
use Rattle.cutting.specs.Tree.{Tree}
use Rattle.cutting.proofs.Box.{box_induction}
use Rattle.cutting.proofs.Rule.{best_is_worth}
use Rattle.board.specs.Inner.{Rows, Hold}
use Rattle.tracer.specs.Rules.{None, AddsUp, Fitting, TreeBy}
use Rattle.std.proofs.Common.{Option}
use Rattle.tracer.specs.declared.Step.{Step}
use Rattle.tracer.proofs.Strikes.{Strikes, ruled_strikes}
use Rattle.tracer.proofs.ByRules.{trim}

module _ {pieces : List Piece} {a b : ℕ} (cell : ℕ → ℕ → ℕ) where
  -- Where the number in the cell is a candidate, some rule strikes.
  struck : {x y v : ℕ} → Candidate (Lays pieces) a b cell x y v → cell x y ≡ v → (cell x y ≡ 0 → ⊥) → None (AddsUp pieces a b cell false x y)
      → None (AddsUp pieces a b cell true x y) → None (Fitting pieces a b cell x y) → ⊥
  struck Candidate.nothing e z p q f = z e
  struck (Candidate.fitting l g) e z p q f = f l.number (record { width = _; height = _; numbered = rw e l.numbered; fits = g })
  struck (Candidate.vertical {c = c} {r = r} t) e z p q f = p c (record { far = r; tried = t; sum = sym e })
  struck (Candidate.horizontal {d = d} {r = r} t) e z p q f = q d (record { far = r; tried = t; sum = sym e })

-- Where every cell of the box holds its best value, each has a tree by the rules: on a kept table rule 6.6 never strikes.
pub best_traced : {pieces : List Piece} {rows : Rows} {a b : ℕ} → Hold rows pieces a b → InRange (Lays pieces) → (cell : ℕ → ℕ → ℕ) (x y : ℕ) → x ≤ a → y ≤ b
    → ((u w : ℕ) → Inside u w x y → Best (Lays pieces) u w (cell u w)) → (u w : ℕ) → Inside u w x y → (tree : Tree) × TreeBy pieces a b cell u w tree
best_traced {pieces} {rows} {a} {b} hold range cell x y g h best =
    box_induction (λ u w. (tree : Tree) × TreeBy pieces a b cell u w tree) (λ u w i below. step u w i below (ruled_strikes hold cell u w (omega arith)))
  where
    candidate : (u w : ℕ) → Inside u w x y → Candidate (Lays pieces) a b cell u w (cell u w)
    candidate u w j =
        (best_is_worth (Lays pieces) range a b cell u w (cell u w) (omega arith) (λ m n k. best m n (omega (arith, k.inside))) (best u w j)).attained

    step : (u w : ℕ) → Inside u w x y → ((m n : ℕ) → Smaller m n u w → (tree : Tree) × TreeBy pieces a b cell m n tree) → {s : Option Step} {k : Inside u w a b}
        → Strikes hold cell u w k s → (tree : Tree) × TreeBy pieces a b cell u w tree
    step u w i below (Strikes.rule1 z) = (Tree.scrap_s, TreeBy.rule1 z)
    step u w i below (Strikes.rule2 {k = k} z l) = (Tree.piece_p k, TreeBy.rule2 z l)
    step u w i below (Strikes.rule3 {c = c} z n l) =
        let line = l.holds.tried in
        let near = below c w (record { inside = omega (arith, i, line.line.least, line.half); less = omega (arith, line.line.most, line.line.least) }) in
        let far = below (u - c) w (record { inside = omega (arith, i, line.line.least, line.half); less = omega (arith, line.line.least, line.half) }) in
        (Tree.line false c near.0 far.0, TreeBy.rule3 z n l near.1 far.1)
    step u w i below (Strikes.rule4 {d = d} z n m l) =
        let line = l.holds.tried in
        let near = below u d (record { inside = omega (arith, i, line.line.least, line.half); less = omega (arith, line.line.most, line.line.least) }) in
        let far = below u (w - d) (record { inside = omega (arith, i, line.line.least, line.half); less = omega (arith, line.line.least, line.half) }) in
        (Tree.line true d near.0 far.0, TreeBy.rule4 z n m l near.1 far.1)
    step u w i below (Strikes.rule5 {k = k} z n m q first) =
        let up = trim true (Tree.piece_p k) first.holds.fits.high in
        let across = trim false up.0 first.holds.fits.wide in
        (across.0, TreeBy.rule5 z n m q first up.1 across.1)
    step u w i below (Strikes.rule6 z n m q l) = absurd (struck cell (candidate u w i) refl z m q l)
