-- The tree of a job's table: the board holds the job, so that it is the tree by the rules.
use Prim.Native.Nat.{ℕ, ◌+◌, ◌≤◌}
use mathlib.Core.Bool.{true, cond}
use Rattle.std.proofs.Common.{Option, Some, None}
use Rattle.cutting.specs.Limits.{side_max}
use mathlib.Core.List.{List}
use mathlib.Core.Path.{◌≡◌, sym, ap, ◌∙◌, subst}
use native.Mathlib.Omega.{arith}
use lib.ListN.{length}
use Rattle.laws.specs.Inner.{Says, Room, Wrote}
use Rattle.cutting.specs.Tree.{Tree, Valid, earning}
use Rattle.cells.specs.Cells.{cell_of}
use Rattle.board.specs.declared.Board.{Board}
use Rattle.board.specs.Inner.{rows_on, board_of, width_on, Hold}
use Rattle.board.proofs.Holds.{board_holds, board_width}
use Rattle.nodes.specs.Encoding.{encode}
use Rattle.job.specs.declared.Job.{Job}
use Rattle.job.specs.Job.{pieces_of}
use Rattle.tracer.specs.declared.table.Table.{Table}
use Rattle.tracer.specs.Inner.{whole, traced, measured, length_most, Sized, OnTable, Traceable, Dissects}
use Rattle.tracer.proofs.Traced.{measured_most}
use Rattle.laws.proofs.Wrote.{wrote_as}
use Rattle.tracer.proofs.ByRules.{traced_by_rules, rules_trace, rules_only, traces_says}
use Rattle.tracer.proofs.Valid.{rules_dissect}
use Rattle.desk.specs.Inner.{job_rows}
use Rattle.desk.proofs.Exactly.{usable_box}
use Rattle.plan.specs.File.{TreeFor}
use Rattle.plan.specs.Inner.{tree_for, traces_for}
use Rattle.plan.specs.Refusals.{Readable}

module _ (job : Job) (t : List ℕ) (x y : ℕ) (r : Readable job t x y) where
  pub hold : Hold (job_rows job) (pieces_of job) job.width job.height
  unfolding job_rows
  hold = board_holds job r.usable.range

  rows_sized : Sized (job_rows job)
  rows_sized k h =
      let n = hold.lists.piece k h in
      let g = r.usable.range.pieces _ _ _ (record { number = k + 1; numbered = n }) in
      (g.width_least, g.height_least)

  -- The table has the cells of x by y, with the code's width.
  pub on_table : {a : ℕ} → a ≡ job.width → OnTable a t x y
  on_table e =
      let box = usable_box job t x y r.usable r.inside e in
      record { holds = box.0; inside = omega (arith, r.inside, box) }

  -- With the board of the job there is a table, and it can be traced from x by y.
  pub sized : {board : Board} → board ≡ board_of job → Sized (rows_on board)
  unfolding job_rows
  sized is = subst (λ (b : Board). Sized (rows_on b)) (sym is) rows_sized

  pub traceable : {table : Table} → table.board.now ≡ board_of job → table.cells.now ≡ t → Traceable table (whole x y)
  traceable {table} is has = record { wanted = tt; on_table = rw has (on_table (ap width_on is ∙ board_width job r.usable.range.count_most)) }

  -- The tree that is traced is the tree by the rules, there is no other, and where rule 6.6 strikes there is none.
  pub tree_by_rules : traces_for job t x y ≡ true → TreeFor job t x y (tree_for job t x y)
  tree_by_rules = traced_by_rules hold r.usable.range.pieces (cell_of job.width t) x y r.inside

  pub rules_tree : {tree : Tree} → TreeFor job t x y tree → (traces_for job t x y ≡ true) × (tree ≡ tree_for job t x y)
  rules_tree k =
      let is = rules_trace hold r.usable.range.pieces (cell_of job.width t) r.inside k in
      (is.0, sym is.1)

  pub tree_only : {tree other : Tree} → TreeFor job t x y tree → TreeFor job t x y other → tree ≡ other
  tree_only = rules_only hold r.usable.range.pieces (cell_of job.width t) r.inside

  pub tree_says : Says (traces_for job t x y) ((tree : Tree) × TreeFor job t x y tree)
  tree_says = traces_says hold r.usable.range.pieces (cell_of job.width t) x y r.inside

  -- It dissects x by y and earns the number in cell (x, y), on any table (rules 6.1 to 6.5).
  pub tree_dissects : {tree : Tree} → TreeFor job t x y tree → Dissects (pieces_of job) tree x y (cell_of job.width t x y)
  tree_dissects = rules_dissect r.usable.range.pieces

  pub tree_earns : {tree : Tree} → TreeFor job t x y tree → Valid (pieces_of job) tree x y × (earning (pieces_of job) tree ≡ cell_of job.width t x y)
  tree_earns b = let d = tree_dissects b in (d.valid, d.earns)

  -- What is measured and what is written with the board of the job.
  module _ {board : Board} (is : board ≡ board_of job) where
    pub measured_as : {n : Option ℕ} → n ≡ measured (rows_on board) (cell_of (width_on board) t) (whole x y)
        → n ≡ cond (traces_for job t x y) (Some (length (encode (tree_for job t x y)))) None
    unfolding measured job_rows
    measured_as e =
        e ∙ (ap (λ (b : Board). measured (rows_on b) (cell_of (width_on b) t) (whole x y)) is
        ∙ ap (λ (a : ℕ). measured (rows_on (board_of job)) (cell_of a t) (whole x y)) (board_width job r.usable.range.count_most))

    pub measured_short : {k : Option ℕ} {n : ℕ} → k ≡ measured (rows_on board) (cell_of (width_on board) t) (whole x y) → k ≡ Some n → n ≤ length_most
    measured_short e f =
        let i = r.inside in
        let u = r.usable.range in
        let width : x ≤ side_max = omega (arith, i.width_most, u.width_most) in
        let height : y ≤ side_max = omega (arith, i.height_most, u.height_most) in
        measured_most (rows_on board) (cell_of (width_on board) t) (whole x y) i.width_least width i.height_least height (sym e ∙ f)

    nodes_as : encode (traced (rows_on board) (cell_of (width_on board) t) (whole x y)) ≡ encode (tree_for job t x y)
    unfolding job_rows
    nodes_as =
        ap (λ (b : Board). encode (traced (rows_on b) (cell_of (width_on b) t) (whole x y))) is
        ∙ ap (λ (a : ℕ). encode (traced (rows_on (board_of job)) (cell_of a t) (whole x y))) (board_width job r.usable.range.count_most)

    pub nodes_room : {o : List ℕ} {at : ℕ} → Room o at (encode (tree_for job t x y))
        → Room o at (encode (traced (rows_on board) (cell_of (width_on board) t) (whole x y)))
    nodes_room {o} {at} = subst (Room o at) (sym nodes_as)

    pub nodes_wrote : {o p : List ℕ} {at n : ℕ} → Wrote o at (encode (traced (rows_on board) (cell_of (width_on board) t) (whole x y))) n p
        → Wrote o at (encode (tree_for job t x y)) n p
    nodes_wrote = wrote_as (sym nodes_as)
