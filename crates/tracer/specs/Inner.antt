-- The tree rules as they compute, and the tracing; nobody has to believe it: `traced_by_rules` and `rules_trace` say that the tree is that of `TreeBy`.
use Rattle.std.specs.Prelude.{ℕ, zero, suc, ◌+◌, ◌-◌, ◌*◌, ◌≤◌, ◌<◌, Bool, true, false, ◌&&◌, cond, ◌≡◌, List, Option, Some, None, leb, ltb, eqb, length}
use Rattle.laws.specs.Inner.{first_number, deep}
use Rattle.cutting.specs.Inner.{half_of}
use Rattle.cutting.specs.Piece.{Piece, Inside}
use Rattle.cutting.specs.Limits.{side_max}
use Rattle.cutting.specs.Dissection.{rest, crossed, part_width, part_height}
use Rattle.cutting.specs.Tree.{Tree, Valid, earning}
use Rattle.fields.specs.Format.{node_length, letter_p, letter_s}
use Rattle.cells.specs.Cells.{cell_of}
use Rattle.cells.specs.Inner.{fits, Holds}
use Rattle.board.specs.Inner.{Rows, rows_on, width_on}
use Rattle.nodes.specs.Encoding.{letter_of, node, encode}
use Rattle.tracer.specs.declared.Wanted.{Wanted}
use Rattle.tracer.specs.declared.Step.{Step}
use Rattle.tracer.specs.declared.table.Table.{Table}

-- A part of the sheet that is traced.
pub record WantedPart : Type 0 where
  pub width : ℕ
  pub height : ℕ
  pub wanted : Wanted

abbrev pub part_of : ℕ → ℕ → Wanted → WantedPart
part_of x y wanted = record { width = x; height = y; wanted = wanted }

-- x by y, traced by the rules.
abbrev pub whole : ℕ → ℕ → WantedPart
whole x y = part_of x y Wanted.Free

-- The two parts of a line, of which this is wanted: a piece is cut out of the near one, and the far one is waste then.
abbrev pub beyond : Wanted → Wanted
beyond Wanted.Free = Wanted.Free
beyond (Wanted.Piece k) = Wanted.Waste
beyond Wanted.Waste = Wanted.Waste

abbrev pub near_wanted : Bool → ℕ → Wanted → WantedPart → WantedPart
near_wanted tall c wanted p = part_of (part_width tall p.width c) (part_height tall p.height c) wanted

abbrev pub far_wanted : Bool → ℕ → Wanted → WantedPart → WantedPart
far_wanted tall c wanted p = near_wanted tall (rest (crossed tall p.width p.height) c) (beyond wanted) p

-- The rules over the rows that the code reads.

-- What the cells of a line's two parts add to.
unfoldable pub two_cells : (ℕ → ℕ → ℕ) → Bool → ℕ → ℕ → ℕ → ℕ
two_cells cell tall x y c =
    let r = rest (crossed tall x y) c in
    cell (part_width tall x c) (part_height tall y c) + cell (part_width tall x r) (part_height tall y r)

-- Is the piece at index k exactly of this size, and does it fit?
abbrev pub is_size : Rows → ℕ → ℕ → ℕ → Bool
is_size rows x y k = eqb (rows.width k) x && eqb (rows.height k) y

abbrev pub fits_in : Rows → ℕ → ℕ → ℕ → Bool
fits_in rows x y k = fits (rows.width k) (rows.height k) x y

-- Has the piece at index k the value V (`number`), and does it pass a test of its size?
unfoldable pub suits : Rows → (ℕ → Bool) → ℕ → ℕ → Bool
suits rows test number k = eqb (rows.value k) number && test k

-- What a test answers for the size of the piece at index k, by its `post`, is `test k`.
abbrev pub Answers : Rows → (ℕ → ℕ → Bool → Type 0) → (ℕ → Bool) → Type 0
Answers rows post test = (k : ℕ) (b : Bool) → k < rows.count → post (rows.width k) (rows.height k) b → b ≡ test k

-- What a search by number found: none where that is 0.
abbrev pub some_number : ℕ → Option ℕ
some_number zero = None
some_number (suc k) = Some (suc k)

-- The first piece of value V that passes the test, by its number (rules 6.2 and 6.5).
unfoldable pub first_piece : Rows → (ℕ → Bool) → ℕ → Option ℕ
first_piece rows test number = some_number (first_number (suits rows test number) rows.count)

-- A mark of P, or of Q where it is `tall`.
abbrev pub marks : Rows → Bool → ℕ → Bool
marks rows tall c = cond tall (rows.in_q c) (rows.in_p c)

-- Is c marked, and do the two cells of a line at c add up to V?
unfoldable pub adds_to : Rows → (ℕ → ℕ → ℕ) → Bool → ℕ → ℕ → ℕ → ℕ → Bool
adds_to rows cell tall number x y c = marks rows tall c && eqb (two_cells cell tall x y c) number

-- The least marked c up to half whose two cells add up to V (rules 6.3 and 6.4).
unfoldable pub least_line : Rows → (ℕ → ℕ → ℕ) → Bool → ℕ → ℕ → ℕ → Option ℕ
least_line rows cell tall number x y = some_number (first_number (λ i. adds_to rows cell tall number x y (suc i)) (half_of (crossed tall x y)))

-- A line at `size` where that is inside the side, else what comes after it.
unfoldable pub trimmed_to : Bool → ℕ → ℕ → Wanted → Step → Step
trimmed_to tall size side wanted after = cond (leb 1 size && ltb size side) (Step.Line size wanted tall) after

-- The next step to piece k: a vertical line to its width, else a horizontal one to its height, else the piece (rule 6.5).
unfoldable pub cut_out : Rows → ℕ → ℕ → ℕ → Step
cut_out rows x y k =
    let piece = Wanted.Piece k in
    trimmed_to false (rows.width (k - 1)) x piece (trimmed_to true (rows.height (k - 1)) y piece (Step.Piece k))

-- A rule strikes where it found a number, or else the rules after it do.
unfoldable pub strikes : Option ℕ → (ℕ → Step) → Option Step → Option Step
strikes None step after = after
strikes (Some k) step after = Some (step k)

-- The order of the rules is this function; of what computes nothing else knows it. The cell holds `number`, which is V.
unfoldable pub ruled : Rows → (ℕ → ℕ → ℕ) → ℕ → ℕ → ℕ → Option Step
ruled rows cell x y number =
    -- Rule 6.1: scrap.
    cond (eqb number 0)
    (Some Step.Scrap)
    -- Rule 6.2: the first piece of exactly this size.
    (strikes (first_piece rows (is_size rows x y) number) Step.Piece
    -- Rule 6.3: the least vertical line, and both parts free.
    (strikes (least_line rows cell false number x y) (λ c. Step.Line c Wanted.Free false)
    -- Rule 6.4: the least horizontal line, and both parts free.
    (strikes (least_line rows cell true number x y) (λ d. Step.Line d Wanted.Free true)
    -- Rule 6.5: the first piece that fits, cut out.
    (strikes (first_piece rows (fits_in rows x y) number) (cut_out rows x y)
    -- Rule 6.6: none of these.
    None))))

-- The next step in a part.
unfoldable pub step_in : Rows → (ℕ → ℕ → ℕ) → WantedPart → Option Step
step_in rows cell p =
    elim p.wanted [
      | Wanted.Free ↦ ruled rows cell p.width p.height (cell p.width p.height)
      | Wanted.Piece k ↦ Some (cut_out rows p.width p.height k)
      | Wanted.Waste ↦ Some Step.Scrap
    ]

-- The tree for x by y as it computes, and its length in the file.

-- The tree for a step, where `part` is the tree of a part. It is scrap where rule 6.6 strikes.
unfoldable pub tree_by : (WantedPart → Tree) → WantedPart → Option Step → Tree
tree_by part p None = Tree.scrap_s
tree_by part p (Some Step.Scrap) = Tree.scrap_s
tree_by part p (Some (Step.Piece k)) = Tree.piece_p k
tree_by part p (Some (Step.Line c wanted tall)) = Tree.line tall c (part (near_wanted tall c wanted p)) (part (far_wanted tall c wanted p))

-- Does rule 6.6 strike nowhere, where `part` says it of a part?
unfoldable pub traces_by : (WantedPart → Bool) → WantedPart → Option Step → Bool
traces_by part p None = false
traces_by part p (Some Step.Scrap) = true
traces_by part p (Some (Step.Piece k)) = true
traces_by part p (Some (Step.Line c wanted tall)) = part (near_wanted tall c wanted p) && part (far_wanted tall c wanted p)

-- Each line shortens a side.
abbrev pub sides_of : WantedPart → ℕ
sides_of p = p.width + p.height

-- The tree by the rules, and whether rule 6.6 strikes nowhere in it. `traced_own` and `traces_own` are their equations.
unfoldable pub traced : Rows → (ℕ → ℕ → ℕ) → WantedPart → Tree
traced rows cell = deep sides_of Tree.scrap_s (λ part p. tree_by part p (step_in rows cell p))

unfoldable pub traces : Rows → (ℕ → ℕ → ℕ) → WantedPart → Bool
traces rows cell = deep sides_of false (λ part p. traces_by part p (step_in rows cell p))

-- The number of bytes of the tree's nodes; none where rule 6.6 strikes.
unfoldable pub measured : Rows → (ℕ → ℕ → ℕ) → WantedPart → Option ℕ
measured rows cell p = cond (traces rows cell p) (Some (length (encode (traced rows cell p)))) None

-- The node of a step.
unfoldable pub node_of : Step → List ℕ
node_of Step.Scrap = node letter_s 0
node_of (Step.Piece k) = node letter_p k
node_of (Step.Line c _ tall) = node (letter_of tall) c

-- No tree on a sheet is longer than this: two nodes for each unit of area.
abbrev pub length_most : ℕ
length_most = 2 * node_length * (side_max * side_max)

-- What is wanted is free, one of the pieces, or waste.
abbrev pub Among : Rows → Wanted → Type 0
Among rows Wanted.Free = Unit {0}
Among rows (Wanted.Piece k) = (1 ≤ k) × (k ≤ rows.count)
Among rows Wanted.Waste = Unit {0}

-- Every piece is at least 1 by 1, or nothing would shrink: what a table's field `sized` says.
abbrev pub Sized : Rows → Type 0
Sized rows = (k : ℕ) → k < rows.count → (1 ≤ rows.width k) × (1 ≤ rows.height k)

-- The tree dissects x by y and earns this number.
pub record Dissects (pieces : List Piece) (t : Tree) (x y number : ℕ) : Type 0 where
  pub valid : Valid pieces t x y
  pub earns : earning pieces t ≡ number

-- What the code reads a tree from, as its clauses name it.
abbrev pub rows_in : Table → Rows
rows_in t = rows_on t.board.now

abbrev pub cell_in : Table → ℕ → ℕ → ℕ
cell_in t = cell_of (width_on t.board.now) t.cells.now

-- The table holds the rectangle's rows, and the rectangle lies in them.
pub record OnTable (a : ℕ) (t : List ℕ) (x y : ℕ) : Type 0 where
  pub holds : Holds a y t
  pub inside : Inside x y a y

-- That, of the table that the code reads.
abbrev pub OnSheet : Table → ℕ → ℕ → Type 0
OnSheet t x y = OnTable (width_on t.board.now) t.cells.now x y

-- What the tracing of a part may rely on.
pub record Traceable (table : Table) (p : WantedPart) : Type 0 where
  pub wanted : Among (rows_in table) p.wanted
  pub on_table : OnSheet table p.width p.height
