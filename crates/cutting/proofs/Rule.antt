-- The rule: where the cells of all smaller rectangles hold their best values, the largest candidate is the best value (rule 3.5).
-- The dull lines can't beat the candidates: each dissection inside u by w is matched by a candidate of (u, w).
use Prim.Native.Nat.{ℕ, ◌+◌, ◌-◌, ◌≤◌, ◌<◌}
use mathlib.Core.Path.{refl, subst}
use mathlib.Core.Logic.{◌⊎◌, ⊎_elim, ◌↔◌}
use native.Mathlib.Omega.{arith}
use Rattle.laws.proofs.Order.{le_or_lt}
use Rattle.cutting.specs.Inner.{half_of}
use Rattle.cutting.specs.Piece.{Lay, Turned, Inside, InRange}
use Rattle.cutting.specs.Dissection.{Line, Earns, Best}
use Rattle.cutting.specs.Points.{Narrowed}
use Rattle.cutting.specs.Candidate.{BestSmaller, Candidate, Worth, UpToHalf}
use Rattle.cutting.proofs.Dissection.{turned, best_turned, enlarged}
use Rattle.cutting.proofs.Box.{box_induction}
use Rattle.cutting.proofs.Points.{narrowed_width, P_wider}

-- A candidate of (u, w) that is at least e.
record Matched (lay : Lay) (a b : ℕ) (cell : ℕ → ℕ → ℕ) (u w e : ℕ) : Type 0 where
  pub worth : ℕ
  pub candidate : Candidate lay a b cell u w worth
  pub enough : e ≤ worth

-- The table turned.
abbrev flip : (ℕ → ℕ → ℕ) → ℕ → ℕ → ℕ
flip cell x y = cell y x

candidate_turned : {lay : Lay} {a b : ℕ} {cell : ℕ → ℕ → ℕ} {u w e : ℕ} → Candidate lay a b cell u w e → Candidate (Turned lay) b a (flip cell) w u e
candidate_turned Candidate.nothing = Candidate.nothing
candidate_turned (Candidate.fitting h f) = Candidate.fitting h (omega arith)
candidate_turned (Candidate.vertical l) = Candidate.horizontal l
candidate_turned (Candidate.horizontal l) = Candidate.vertical l

matched_turned : {lay : Lay} {a b : ℕ} {cell : ℕ → ℕ → ℕ} {u w e : ℕ} → Matched lay a b cell u w e → Matched (Turned lay) b a (flip cell) w u e
matched_turned m = record { worth = m.worth; candidate = candidate_turned m.candidate; enough = m.enough }

below_turned : {lay : Lay} {cell : ℕ → ℕ → ℕ} (u w : ℕ) → BestSmaller lay cell u w → BestSmaller (Turned lay) (flip cell) w u
below_turned u w below x y s =
    best_turned (below y x (record { inside = omega arith; less = omega arith }))

module _ (lay : Lay) (a b : ℕ) (cell : ℕ → ℕ → ℕ) (u w : ℕ) (inside : Inside u w a b) (below : BestSmaller lay cell u w) where
  -- What is earned inside u by w, in a strictly narrower rectangle, its cell has at least.
  cell_has : {x y e : ℕ} (z : ℕ) → 1 ≤ x → x ≤ z → 1 ≤ y → y ≤ w → z < u → Earns lay x y e → e ≤ cell z w
  cell_has {e = e} z p h q k l d =
      (below z w (record { inside = omega arith; less = omega arith })).bound e (enlarged z w p h q k d)

  -- A line at c, not beyond the middle, where the near part is matched at a point of P.
  near : {x y c r e f : ℕ} → Inside x y u w → Line x c r → c ≤ r → Narrowed lay c y e → Earns lay r y f → Matched lay a b cell u w f
      → Matched lay a b cell u w (e + f)
  near i l h (Narrowed.worthless g) d m = record { worth = m.worth; candidate = m.candidate; enough = omega arith }
  near {e = e} {f = f} i l h (Narrowed.at_point c p k) d m =
      let line : Line u c (u - c) = record { least = p.not_zero; most = omega arith; leaves = refl } in
      let has = cell_has c (omega arith) (omega arith) (omega arith) (omega arith) (omega arith) k in
      record {
        worth = cell c w + cell (u - c) w;
        candidate = Candidate.vertical (record { point = P_wider a (omega arith) p; half = omega arith; line = line });
        enough = omega (arith, has, cell_has (u - c) (omega arith) (omega arith) (omega arith) (omega arith) (omega arith) d);
      }

  -- A vertical line, from whichever side is nearer.
  across : {x y c r e f : ℕ} → Inside x y u w → Line x c r → Earns lay c y e → Earns lay r y f → Matched lay a b cell u w e → Matched lay a b cell u w f
      → Matched lay a b cell u w (e + f)
  across {c = c} {r = r} {e = e} {f = f} i l s t m n =
      ⊎_elim (λ h. near i l h (narrowed_width l.least s) t n)
      (λ h. subst (Matched lay a b cell u w) (omega arith)
      (near i (record { least = omega arith; most = omega arith; leaves = omega arith }) (omega arith) (narrowed_width (omega arith) t) s m))
      (le_or_lt c r)

-- Each dissection of a rectangle inside u by w is matched by a candidate of (u, w).
matched : (lay : Lay) (a b : ℕ) (cell : ℕ → ℕ → ℕ) (u w : ℕ) → Inside u w a b → BestSmaller lay cell u w → {x y e : ℕ} → Inside x y u w → Earns lay x y e
    → Matched lay a b cell u w e
matched lay a b cell u w j below i Earns.scrap =
    record { worth = 0; candidate = Candidate.nothing; enough = omega arith }
matched lay a b cell u w j below i (Earns.piece {v = v} h) =
    record { worth = v; candidate = Candidate.fitting h (omega arith); enough = omega arith }
matched lay a b cell u w j below i (Earns.vertical l s t) =
    across lay a b cell u w j below i l s t
    (matched lay a b cell u w j below (omega arith) s)
    (matched lay a b cell u w j below (omega arith) t)
matched lay a b cell u w j below i (Earns.horizontal l s t) =
    matched_turned
    (across (Turned lay) b a (flip cell) w u (omega arith) (below_turned u w below) (omega arith) l (turned s) (turned t)
    (matched_turned (matched lay a b cell u w j below (omega arith) s))
    (matched_turned (matched lay a b cell u w j below (omega arith) t)))

-- Each candidate is earned by a dissection.
earned : (lay : Lay) → InRange lay → (a b : ℕ) (cell : ℕ → ℕ → ℕ) (u w : ℕ) → Inside u w a b → BestSmaller lay cell u w → {v : ℕ} → Candidate lay a b cell u w v
    → Earns lay u w v
earned lay range a b cell u w j below Candidate.nothing = Earns.scrap
earned lay range a b cell u w j below (Candidate.fitting {p = p} {q = q} {v = v} h f) =
    let g = range p q v h in
    enlarged u w g.width_least (omega arith) g.height_least (omega arith) (Earns.piece h)
earned lay range a b cell u w j below (Candidate.vertical {c = c} {r = r} l) =
    Earns.vertical l.line
    (below c w (record { inside = omega arith; less = omega arith })).attained
    (below r w (record { inside = omega arith; less = omega arith })).attained
earned lay range a b cell u w j below (Candidate.horizontal {d = d} {r = r} l) =
    Earns.horizontal l.line
    (below u d (record { inside = omega arith; less = omega arith })).attained
    (below u r (record { inside = omega arith; less = omega arith })).attained

module _ (lay : Lay) (range : InRange lay) (a b : ℕ) (cell : ℕ → ℕ → ℕ) where
  -- The rule gives the best value.
  pub rule : (u w v : ℕ) → Inside u w a b → BestSmaller lay cell u w → Worth lay a b cell u w v → Best lay u w v
  rule u w v j below l =
      record {
        attained = earned lay range a b cell u w j below l.attained;
        bound = λ e d. covered e (matched lay a b cell u w j below (omega arith) d);
      }
    where
      covered : (e : ℕ) → Matched lay a b cell u w e → e ≤ v
      covered e m = omega (arith, l.bound m.worth m.candidate, m.enough)

  -- The best value is itself a candidate, and the largest (so rule 6.6 never strikes).
  pub best_is_worth : (u w v : ℕ) → Inside u w a b → BestSmaller lay cell u w → Best lay u w v → Worth lay a b cell u w v
  best_is_worth u w v j below d =
      record {
        attained = found (matched lay a b cell u w j below (omega arith) d.attained);
        bound = λ e k. d.bound e (earned lay range a b cell u w j below k);
      }
    where
      found : Matched lay a b cell u w v → Candidate lay a b cell u w v
      found m =
          subst (Candidate lay a b cell u w)
          (omega (arith, m.enough, d.bound m.worth (earned lay range a b cell u w j below m.candidate)))
          m.candidate

  -- A whole table by the rule: where each cell of the box x by y holds its worth or else its best value, each holds its best value.
  pub table_best : (x y : ℕ) → x ≤ a → y ≤ b → ((u w : ℕ) → Inside u w x y → Worth lay a b cell u w (cell u w) ⊎ Best lay u w (cell u w)) → (u w : ℕ)
      → Inside u w x y → Best lay u w (cell u w)
  table_best x y g h each =
      box_induction (λ u w. Best lay u w (cell u w)) (λ u w i below. ⊎_elim (rule u w (cell u w) (omega arith) below) (λ d. d) (each u w i))

-- Up to half, and where a search for such lines ends.
pub half_says : (c u : ℕ) → UpToHalf c u ↔ (c ≤ half_of u)
half_says c u = ((λ h. omega arith), (λ h. omega arith))
