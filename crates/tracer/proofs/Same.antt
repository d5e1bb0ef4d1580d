-- The tree reads the cells of its rectangle alone.
use Prim.Native.Nat.{ℕ, suc, ◌+◌, ◌/◌, ◌≤◌, ◌<◌}
use mathlib.Core.Bool.{Bool, true, false, cond, ◌&&◌}
use mathlib.Core.Path.{◌≡◌, refl, sym, ap, ap₂, ◌∙◌}
use native.Mathlib.Omega.{arith}
use lib.Dec.{eqb, ltb}
use Rattle.laws.specs.Inner.{first_number}
use Rattle.laws.proofs.First.{first_same}
use Rattle.laws.proofs.Depth.{by_size}
use Rattle.cutting.specs.Piece.{Inside}
use Rattle.cutting.specs.Dissection.{rest, crossed}
use Rattle.cutting.specs.Tree.{Tree}
use Rattle.cutting.proofs.Tree.{line_far, part_inside}
use Rattle.board.specs.Inner.{Rows}
use Rattle.std.proofs.Common.{Option, Some, None}
use Rattle.tracer.specs.declared.Wanted.{Wanted}
use Rattle.tracer.specs.declared.Step.{Step}
use Rattle.tracer.specs.Inner.{WantedPart, near_wanted, far_wanted, two_cells, marks, some_number, adds_to, least_line, ruled, step_in, tree_by, traces_by, sides_of, traced, traces}
use Rattle.tracer.proofs.Traced.{step_inside, near_less, far_less, traced_own, traces_own}

-- The cells of the rectangle agree.
abbrev pub SameCells : (ℕ → ℕ → ℕ) → (ℕ → ℕ → ℕ) → ℕ → ℕ → Type 0
SameCells cell other x y = (u w : ℕ) → Inside u w x y → cell u w ≡ other u w

module _ (rows : Rows) (cell other : ℕ → ℕ → ℕ) where
  abbrev Same : ℕ → ℕ → Type 0
  Same = SameCells cell other

  line_same : (tall : Bool) (number x y : ℕ) → 1 ≤ x → 1 ≤ y → Same x y → least_line rows cell tall number x y ≡ least_line rows other tall number x y
  unfolding least_line first_number adds_to two_cells
  line_same tall number x y h k same =
      let found = first_same _ _ (crossed tall x y / 2) (λ i b. ap (λ (n : ℕ). marks rows tall (suc i) && eqb n number)
      (ap₂ ◌+◌ (same _ _ (part_inside tall x y (suc i) h k (omega arith) (omega arith)))
      (same _ _ (part_inside tall x y (rest (crossed tall x y) (suc i)) h k (omega arith) (omega arith))))) in
      ap (λ (n : ℕ). some_number (cond (ltb n (crossed tall x y / 2)) (suc n) 0)) found

  ruled_same : (x y : ℕ) → 1 ≤ x → 1 ≤ y → Same x y → ruled rows cell x y (cell x y) ≡ ruled rows other x y (other x y)
  unfolding ruled
  ruled_same x y h k same = rw (same x y (omega arith), line_same false (other x y) x y h k same, line_same true (other x y) x y h k same)

  step_same : (p : WantedPart) → 1 ≤ p.width → 1 ≤ p.height → Same p.width p.height → step_in rows cell p ≡ step_in rows other p
  unfolding step_in
  step_same p h k same = go p.wanted
    where
      go : (w : Wanted) → step_in rows cell (record p { wanted = w }) ≡ step_in rows other (record p { wanted = w })
      go Wanted.Free = ruled_same p.width p.height h k same
      go (Wanted.Piece n) = refl
      go Wanted.Waste = refl

  abbrev Agree : WantedPart → Type 0
  Agree p = 1 ≤ p.width → 1 ≤ p.height → Same p.width p.height → (traced rows cell p ≡ traced rows other p) × (traces rows cell p ≡ traces rows other p)

  agree : (p : WantedPart) → Agree p
  unfolding tree_by traces_by
  agree = by_size sides_of Agree (λ p below h k same. let e = step_same p h k same in
      let goes = go p below h k same (step_in rows other p) refl in
      (traced_own rows cell p e ∙ (goes.0 ∙ sym (traced_own rows other p refl)), traces_own rows cell p e ∙ (goes.1 ∙ sym (traces_own rows other p refl))))
    where
      go : (p : WantedPart) → ((q : WantedPart) → sides_of q < sides_of p → Agree q) → 1 ≤ p.width → 1 ≤ p.height → Same p.width p.height → (step : Option Step)
          → step_in rows other p ≡ step
          → (tree_by (traced rows cell) p step ≡ tree_by (traced rows other) p step)
          × (traces_by (traces rows cell) p step ≡ traces_by (traces rows other) p step)
      go p below h k same None e = (refl, refl)
      go p below h k same (Some Step.Scrap) e = (refl, refl)
      go p below h k same (Some (Step.Piece n)) e = (refl, refl)
      go p below h k same (Some (Step.Line c wanted tall)) e =
          let l = step_inside rows other p e in
          let near = part_inside tall p.width p.height c h k l.least (omega (arith, l.most)) in
          let far = part_inside tall p.width p.height (rest (crossed tall p.width p.height) c) h k (line_far l) (omega arith) in
          let n = below (near_wanted tall c wanted p) (near_less tall c wanted p l) near.width_least near.height_least
          (λ u w i. same u w (omega (arith, i, near))) in
          let f = below (far_wanted tall c wanted p) (far_less tall c wanted p l) far.width_least far.height_least
          (λ u w i. same u w (omega (arith, i, far))) in
          (ap₂ (Tree.line tall c) n.0 f.0, ap₂ ◌&&◌ n.1 f.1)

  pub traced_same : (p : WantedPart) → 1 ≤ p.width → 1 ≤ p.height → Same p.width p.height → traced rows cell p ≡ traced rows other p
  traced_same p h k same = (agree p h k same).0

  pub traces_same : (p : WantedPart) → 1 ≤ p.width → 1 ≤ p.height → Same p.width p.height → traces rows cell p ≡ traces rows other p
  traces_same p h k same = (agree p h k same).1
