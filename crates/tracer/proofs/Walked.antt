-- A step of the walk: what it may rely on at the two parts of a line, and what it makes of their answers.
use Rattle.std.proofs.Common.{◌≡◌, ℕ, ◌≤◌, ◌<◌, Bool, List, ◌++◌, Option, Some, None, unwrap_or, refl, sym, ap, ◌∙◌, subst, arith}
use Rattle.cutting.specs.Dissection.{rest, crossed, part_width, part_height, Line}
use Rattle.cutting.proofs.Tree.{line_far}
use Rattle.board.specs.Inner.{Rows}
use Rattle.nodes.specs.Encoding.{encode}
use Rattle.tracer.specs.declared.Wanted.{Wanted}
use Rattle.tracer.specs.declared.Step.{Step}
use Rattle.tracer.specs.declared.table.Table.{Table}
use Rattle.tracer.specs.Inner.{WantedPart, part_of, beyond, near_wanted, far_wanted, sides_of, step_in, traced, measured, node_of, length_most, Among, Traceable, rows_in, cell_in}
use Rattle.laws.specs.Inner.{Room, Wrote}
use Rattle.tracer.proofs.Parts.{part_table}
use Rattle.tracer.proofs.Wrote.{near_room, far_room, wrote_line}
use Rattle.tracer.proofs.Traced.{MeasuredLine, step_inside, step_among, near_less, far_less, measured_line, measured_most, nodes_line}

scrap-line : {tall : Bool} {c : ℕ} {wanted : Wanted} → Step.Scrap ≡ Step.Line c wanted tall → ⊥
scrap-line e = cc

beyond_among : (rows : Rows) (wanted : Wanted) → Among rows (beyond wanted)
beyond_among rows Wanted.Free = tt
beyond_among rows (Wanted.Piece k) = tt
beyond_among rows Wanted.Waste = tt

-- The code's step s is a line where it is there, or where scrap would stand for it.
pub some_line : {s found : Option Step} {t u : Step} → s ≡ found → s ≡ Some t → t ≡ u → found ≡ Some u
some_line e f g = sym e ∙ (f ∙ ap Some g)

pub line_or_scrap : {s found : Option Step} {t : Step} {tall : Bool} {c : ℕ} {wanted : Wanted} → s ≡ found → t ≡ unwrap_or s Step.Scrap
    → t ≡ Step.Line c wanted tall → found ≡ Some (Step.Line c wanted tall)
line_or_scrap {s = None} e f g = absurd (scrap-line (sym f ∙ g))
line_or_scrap {s = Some u} e f g = some_line e (ap Some (sym f)) g

-- No part measures more than the whole table may.
pub part_short : {table : Table} {p : WantedPart} {k : Option ℕ} {n : ℕ} → Traceable table p
    → k ≡ measured (rows_in table) (cell_in table) p → k ≡ Some n → n ≤ length_most
part_short {table} {p} r e f =
    let a = r.on_table in
    measured_most (rows_in table) (cell_in table) p (omega (arith, a)) (omega (arith, a)) (omega (arith, a)) (omega (arith, a)) (sym e ∙ f)

-- The two parts of a line at c as the code made them: k stands for c, r for what it leaves of the side, and the sides are w by h.
pub record NearPart (p : WantedPart) (tall : Bool) (c k w h : ℕ) : Type 0 where
  pub place : k ≡ c
  pub width : w ≡ part_width tall p.width k
  pub height : h ≡ part_height tall p.height k

pub record FarPart (p : WantedPart) (tall : Bool) (c : ℕ) (wanted : Wanted) (k side r w h : ℕ) (b : Wanted) : Type 0 where
  pub place : k ≡ c
  pub across : side ≡ crossed tall p.width p.height
  pub leaves : r ≡ rest side k
  pub width : w ≡ part_width tall p.width r
  pub height : h ≡ part_height tall p.height r
  pub is : b ≡ beyond wanted

-- The code found a line.
module _ {table : Table} {p : WantedPart} (ready : Traceable table p) {tall : Bool} {c : ℕ} {wanted : Wanted}
    (step : step_in (rows_in table) (cell_in table) p ≡ Some (Step.Line c wanted tall)) where
  abbrev rows : Rows
  rows = rows_in table

  abbrev cell : ℕ → ℕ → ℕ
  cell = cell_in table

  pub line_inside : Line (crossed tall p.width p.height) c (rest (crossed tall p.width p.height) c)
  line_inside = step_inside rows cell p step

  part_ready : {d : ℕ} {m : Wanted} → 1 ≤ d → d ≤ crossed tall p.width p.height → Among rows m → Traceable table (near_wanted tall d m p)
  part_ready l h w = record { wanted = w; on_table = part_table ready.on_table tall l h refl refl }

  near_ready : Traceable table (near_wanted tall c wanted p)
  near_ready = part_ready line_inside.least (omega (arith, line_inside)) (step_among rows cell p ready.wanted step).0

  far_ready : Traceable table (far_wanted tall c wanted p)
  far_ready = part_ready (line_far line_inside) (omega arith) (beyond_among rows wanted)

  called : {n : ℕ} {q u : WantedPart} → Traceable table u → sides_of u < sides_of p → q ≡ u → sides_of p ≡ n → (sides_of q < n) × Traceable table q
  called {n} a h e g = subst (λ (v : WantedPart). (sides_of v < n) × Traceable table v) (sym e) (omega arith, a)

  near_is : {k w h : ℕ} → NearPart p tall c k w h → part_of w h wanted ≡ near_wanted tall c wanted p
  near_is n = let e = n.place in let f = n.width in let g = n.height in cc

  far_is : {k side r w h : ℕ} {b : Wanted} → FarPart p tall c wanted k side r w h b → part_of w h b ≡ far_wanted tall c wanted p
  far_is n = let e = n.place in let f = n.across in let g = n.leaves in let i = n.width in let j = n.height in let l = n.is in cc

  pub near_call : {k w h : ℕ} → NearPart p tall c k w h → {n : ℕ} → sides_of p ≡ n → (sides_of (part_of w h wanted) < n) × Traceable table (part_of w h wanted)
  near_call near = called near_ready (near_less tall c wanted p line_inside) (near_is near)

  pub far_call : {k side r w h : ℕ} {b : Wanted} → FarPart p tall c wanted k side r w h b → {n : ℕ} → sides_of p ≡ n
      → (sides_of (part_of w h b) < n) × Traceable table (part_of w h b)
  far_call far = called far_ready (far_less tall c wanted p line_inside) (far_is far)

  -- What the line measures by its parts.
  pub near_measures : {k w h : ℕ} → NearPart p tall c k w h
      → MeasuredLine (measured rows cell (part_of w h wanted)) (measured rows cell (far_wanted tall c wanted p))
      (measured rows cell p)
  near_measures near = rw (near_is near) (measured_line rows cell p step)

  pub parts_measure : {k w h : ℕ} → NearPart p tall c k w h → {side r u v : ℕ} {b : Wanted} → FarPart p tall c wanted k side r u v b
      → MeasuredLine (measured rows cell (part_of w h wanted)) (measured rows cell (part_of u v b)) (measured rows cell p)
  parts_measure near far = rw (near_is near, far_is far) (measured_line rows cell p step)

  -- The nodes of its parts q and r, behind that of the step s, which is the line.
  line_nodes : {q r : WantedPart} {s : Step} → s ≡ Step.Line c wanted tall → q ≡ near_wanted tall c wanted p → r ≡ far_wanted tall c wanted p
      → encode (traced rows cell p) ≡ node_of s ++ (encode (traced rows cell q) ++ encode (traced rows cell r))
  line_nodes e near far = rw (e, near, far) (nodes_line rows cell p step)

  -- The line's node is written: there is room for the near part, then for the far part, and with that the line is written.
  module _ {s : Step} (is : s ≡ Step.Line c wanted tall) {k w h : ℕ} (near : NearPart p tall c k w h)
      {o o2 : List ℕ} {at m : ℕ} (room : Room o at (encode (traced rows cell p))) (first : Wrote o at (node_of s) m o2) where
    pub near_write : {n : ℕ} → sides_of p ≡ n
        → (sides_of (part_of w h wanted) < n) × (Traceable table (part_of w h wanted) × Room o2 m (encode (traced rows cell (part_of w h wanted))))
    near_write e =
        let call = near_call near e in
        (call.0, (call.1, near_room _ _ _ (line_nodes is (near_is near) refl) room first))

    module _ {side r u v : ℕ} {b : Wanted} (far : FarPart p tall c wanted k side r u v b)
        {o3 : List ℕ} {j : ℕ} (second : Wrote o2 m (encode (traced rows cell (part_of w h wanted))) j o3) where
      pub far_write : {n : ℕ} → sides_of p ≡ n
          → (sides_of (part_of u v b) < n) × (Traceable table (part_of u v b) × Room o3 j (encode (traced rows cell (part_of u v b))))
      far_write e =
          let call = far_call far e in
          (call.0, (call.1, far_room _ _ _ (line_nodes is (near_is near) (far_is far)) room first second))

      pub line_written : {l : ℕ} {o4 : List ℕ} → Wrote o3 j (encode (traced rows cell (part_of u v b))) l o4
          → Wrote o at (encode (traced rows cell p)) l o4
      line_written third = wrote_line _ _ _ (line_nodes is (near_is near) (far_is far)) room first second third
