-- Trees and dissections earn the same; a valid tree's areas make width times height, and its nodes are few.
use Prim.Native.Nat.{ℕ, ◌+◌, ◌-◌, ◌*◌, ◌≤◌, ◌<◌}
use mathlib.Core.Path.{◌≡◌, refl, sym, ◌∙◌, subst, ap, ap₂}
use mathlib.Core.Bool.{Bool, true, false, cond}
use mathlib.Core.Logic.{◌↔◌}
use mathlib.Core.List.{List}
use native.Mathlib.Omega.{arith}
use native.Mathlib.Nat.{add-mul, mul-le-mul}
use Rattle.laws.specs.Largest.{Largest}
use Rattle.laws.proofs.Largest.{largest_same}
use Rattle.cutting.specs.Piece.{Piece, Lays, Inside}
use Rattle.cutting.specs.Dissection.{crossed, part_width, part_height, Line, Earns, Best}
use Rattle.cutting.specs.Tree.{Tree, Valid, earning, nodes, piece_area_of, scrap_area_of, TreeEarns}

-- A valid tree is a dissection that earns what its leaves say.
pub dissection_of : {pieces : List Piece} {t : Tree} {x y : ℕ} → Valid pieces t x y → Earns (Lays pieces) x y (earning pieces t)
unfolding earning
dissection_of (Valid.line {tall = false} l s t) = Earns.vertical l (dissection_of s) (dissection_of t)
dissection_of (Valid.line {tall = true} l s t) = Earns.horizontal l (dissection_of s) (dissection_of t)
dissection_of {pieces} {x = x} {y = y} (Valid.piece_p {k = k} n) =
    Earns.piece (record { number = k; numbered = record { first = n.first; last = n.last; width = n.width; height = n.height; value = refl } })
dissection_of Valid.scrap_s = Earns.scrap

-- A dissection has a valid tree that earns as much.
pub tree_of : {pieces : List Piece} {x y e : ℕ} → Earns (Lays pieces) x y e → TreeEarns pieces x y e
unfolding earning
tree_of Earns.scrap = record { tree = Tree.scrap_s; valid = Valid.scrap_s; earns = refl }
tree_of (Earns.piece h) =
    record { tree = Tree.piece_p h.number; valid = Valid.piece_p h.numbered; earns = h.numbered.value }
tree_of (Earns.vertical {c = c} l s t) =
    let m = tree_of s in
    let n = tree_of t in
    record { tree = Tree.line false c m.tree n.tree; valid = Valid.line {tall = false} l m.valid n.valid; earns = ap₂ ◌+◌ m.earns n.earns }
tree_of (Earns.horizontal {d = d} l s t) =
    let m = tree_of s in
    let n = tree_of t in
    record { tree = Tree.line true d m.tree n.tree; valid = Valid.line {tall = true} l m.valid n.valid; earns = ap₂ ◌+◌ m.earns n.earns }

-- The best over trees is the best over dissections.
pub best_over_trees : (pieces : List Piece) (x y v : ℕ) → Best (Lays pieces) x y v ↔ Largest (TreeEarns pieces x y) v
best_over_trees pieces x y =
    largest_same (λ e. (tree_of, λ t. subst (Earns (Lays pieces) x y) t.earns (dissection_of t.valid)))

-- The two parts of a line have the area of the whole: it takes no width itself (rules 2.4 and 2.5).
sides_area : (x y c r : ℕ) → Line x c r → c * y + r * y ≡ x * y
sides_area x y c r l =
    let whole : c + r ≡ x = omega arith in
    sym (add-mul c r y) ∙ ap (λ (k : ℕ). k * y) whole

pub parts_area : (tall : Bool) (x y c r : ℕ) → Line (crossed tall x y) c r
    → part_width tall x c * part_height tall y c + part_width tall x r * part_height tall y r ≡ x * y
parts_area false x y c r l = sides_area x y c r l
parts_area true x y c r l = omega (arith, sides_area y x c r l)

-- Pieces and scrap have the area of x by y together (rule 2.7).
pub areas : {pieces : List Piece} {t : Tree} {x y : ℕ} → Valid pieces t x y → piece_area_of pieces t + scrap_area_of t x y ≡ x * y
unfolding piece_area_of scrap_area_of
areas {x = x} {y = y} (Valid.line {tall = tall} {c = c} {r = r} {t = t} l m n) =
    let far = ap (λ (k : ℕ). scrap_area_of t (part_width tall x k) (part_height tall y k)) l.leaves in
    omega (arith, areas m, areas n, far, parts_area tall x y c r l)
areas (Valid.piece_p n) = omega (arith, ap₂ ◌*◌ n.width n.height)
areas Valid.scrap_s = omega arith

-- A leaf has a unit of area at least, and a tree has one line less than leaves.
leaf_few : (x y : ℕ) → 1 ≤ x → 1 ≤ y → 1 + 1 ≤ 2 * (x * y)
leaf_few x y h k = omega (arith, mul-le-mul {n₁ = 1} {m₁ = 1} h k)

-- A part has sides of 1 at least.
pub line_far : {x c r : ℕ} → Line x c r → 1 ≤ r
line_far l = omega arith

pub least : (b : Bool) (m n : ℕ) → 1 ≤ m → 1 ≤ n → 1 ≤ cond b m n
least true m n h k = h
least false m n h k = k

-- A part of a line is shorter around than the whole.
pub part_less : (tall : Bool) (x y c : ℕ) → c < crossed tall x y → part_width tall x c + part_height tall y c < x + y
part_less true x y c h = omega arith
part_less false x y c h = omega arith

-- And lies inside it.
pub part_inside : (tall : Bool) (x y c : ℕ) → 1 ≤ x → 1 ≤ y → 1 ≤ c → c ≤ crossed tall x y → Inside (part_width tall x c) (part_height tall y c) x y
part_inside true x y c h k l m = omega arith
part_inside false x y c h k l m = omega arith

within_area : {pieces : List Piece} {t : Tree} {x y : ℕ} → Valid pieces t x y → 1 ≤ x → 1 ≤ y → nodes t + 1 ≤ 2 * (x * y)
unfolding nodes
within_area {x = x} {y = y} (Valid.line {tall = tall} {c = c} {r = r} l m n) h k =
    let near = within_area m (least tall x c h l.least) (least tall c y l.least k) in
    let far = within_area n (least tall x r h (line_far l)) (least tall r y (line_far l) k) in
    omega (arith, near, far, parts_area tall x y c r l)
within_area {x = x} {y = y} (Valid.piece_p n) h k = leaf_few x y h k
within_area {x = x} {y = y} Valid.scrap_s h k = leaf_few x y h k

-- A tree of x by y, neither side 0, has at most 2·x·y − 1 nodes.
pub nodes_few : {pieces : List Piece} {t : Tree} {x y : ℕ} → Valid pieces t x y → 1 ≤ x → 1 ≤ y → nodes t ≤ 2 * (x * y) - 1
nodes_few v h k = omega (arith, within_area v h k)
