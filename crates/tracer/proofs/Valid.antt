-- A tree by the rules dissects its rectangle and earns the number in its cell, on any table.
use Prim.Native.Nat.{ℕ, ◌+◌, ◌≤◌}
use mathlib.Core.Bool.{Bool, true, false}
use mathlib.Core.Path.{◌≡◌, refl, sym, ap₂, ◌∙◌, subst}
use mathlib.Core.List.{List}
use native.Mathlib.Omega.{arith}
use Rattle.cutting.specs.Piece.{Piece, Lays, InRange}
use Rattle.cutting.specs.Dissection.{rest, crossed, part_width, part_height, Line}
use Rattle.cutting.specs.Tree.{Tree, Valid, earning}
use Rattle.tracer.specs.Rules.{Trimmed, part_cell, AddsUp, TreeBy}
use Rattle.tracer.specs.Inner.{Dissects}

module _ (pieces : List Piece) where
  -- A trim loses nothing, in both directions alike.
  trimmed_dissects : (tall : Bool) {x y p number : ℕ} {s t : Tree} → 1 ≤ p → Trimmed tall p (crossed tall x y) s t
      → Dissects pieces s (part_width tall x p) (part_height tall y p) number → Dissects pieces t x y number
  unfolding earning
  trimmed_dissects tall {x} {y} {p} h (Trimmed.cut l) d =
      let inside : Line (crossed tall x y) p (rest (crossed tall x y) p) = record { least = h; most = omega (arith, l); leaves = refl } in
      record { valid = Valid.line inside d.valid Valid.scrap_s; earns = omega (arith, d.earns) }
  trimmed_dissects true {x = x} {s = s} h (Trimmed.whole e) d = record { valid = subst (Valid pieces s x) e d.valid; earns = d.earns }
  trimmed_dissects false {y = y} {s = s} h (Trimmed.whole e) d = record { valid = subst (λ (k : ℕ). Valid pieces s k y) e d.valid; earns = d.earns }

module _ {pieces : List Piece} {a b : ℕ} {cell : ℕ → ℕ → ℕ} (range : InRange (Lays pieces)) where
  -- A line whose two cells add to V, with a tree on each part.
  line_dissects : (tall : Bool) {x y c : ℕ} {s t : Tree} (m : AddsUp pieces a b cell tall x y c)
      → Dissects pieces s (part_width tall x c) (part_height tall y c) (cell (part_width tall x c) (part_height tall y c))
      → Dissects pieces t (part_width tall x (rest (crossed tall x y) c)) (part_height tall y (rest (crossed tall x y) c))
      (cell (part_width tall x (rest (crossed tall x y) c)) (part_height tall y (rest (crossed tall x y) c)))
      → Dissects pieces (Tree.line tall c s t) x y (cell x y)
  unfolding earning
  line_dissects tall {x} {y} {c} m d e =
      let l = m.tried.line in
      let sum = subst (λ (r : ℕ). part_cell pieces a b cell tall x y c + part_cell pieces a b cell tall x y r ≡ cell x y) l.leaves m.sum in
      record {
        valid = Valid.line (record { least = l.least; most = l.most; leaves = refl }) d.valid e.valid;
        earns = ap₂ ◌+◌ d.earns e.earns ∙ sum;
      }

  pub rules_dissect : {x y : ℕ} {tree : Tree} → TreeBy pieces a b cell x y tree → Dissects pieces tree x y (cell x y)
  unfolding earning
  rules_dissect (TreeBy.rule1 z) = record { valid = Valid.scrap_s; earns = sym z }
  rules_dissect (TreeBy.rule2 z l) = record { valid = Valid.piece_p l.holds; earns = l.holds.value }
  rules_dissect (TreeBy.rule3 z n l s t) = line_dissects false l.holds (rules_dissect s) (rules_dissect t)
  rules_dissect (TreeBy.rule4 z n m l s t) = line_dissects true l.holds (rules_dissect s) (rules_dissect t)
  rules_dissect (TreeBy.rule5 {k = k} z n m q first up across) =
      let f = first.holds in
      let g = range f.width f.height _ (record { number = k; numbered = f.numbered }) in
      trimmed_dissects pieces false g.width_least across
      (trimmed_dissects pieces true g.height_least up (record { valid = Valid.piece_p f.numbered; earns = f.numbered.value }))
