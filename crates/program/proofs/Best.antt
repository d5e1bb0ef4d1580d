-- The program prints the best value and a plan that earns it, or exactly the refusal that the rules say (rules 9.2 to 9.5).
use Prim.Native.Nat.{ℕ, suc, ◌*◌, ◌≤◌, ◌<◌}
use Rattle.std.proofs.Common.{Some}
use mathlib.Core.List.{List}
use mathlib.Core.Logic.{◌⊎◌, inl, inr, ⊎_elim}
use mathlib.Core.Path.{◌≡◌, refl, sym, ap, ◌∙◌, subst}
use native.Mathlib.Omega.{arith}
use lib.ListN.{length, length-replicate}
use Rattle.laws.specs.ByIndex.{by_index}
use Rattle.laws.specs.Refusal.{Gives}
use Rattle.laws.proofs.ByIndex.{by_index-length}
use Rattle.laws.proofs.Order.{le_or_lt}
use Rattle.cutting.specs.Limits.{side_max, pieces_max}
use Rattle.cutting.specs.Piece.{Inside, InRange}
use Rattle.cutting.specs.Dissection.{Best}
use Rattle.cutting.specs.Tree.{Tree, Valid, earning}
use Rattle.cutting.proofs.Rule.{table_best}
use Rattle.cutting.proofs.Bound.{best_bound, most_mono}
use Rattle.cells.specs.Cells.{empty, cell_of}
use Rattle.cells.specs.Box.{count_in_box, is_empty}
use Rattle.cells.proofs.Box.{is_empty_says, count_in_box_all}
use Rattle.job.specs.declared.Job.{Job}
use Rattle.job.specs.Job.{pieces_of, lay_of}
use Rattle.job.specs.Range.{JobInRange}
use Rattle.job.specs.Block.{BlockShape, job_in, count_in, piece_in}
use Rattle.job.specs.Inner.{from_block}
use Rattle.job.proofs.Pieces.{job_of_tidy}
use Rattle.job.proofs.Blocks.{from_block_no, from_block_yes}
use Rattle.refusals.specs.Refusals.{bad_job, short_table, bad_piece, short_buffer}
use Rattle.desk.specs.Refusals.{cells_of, Usable, open_refusals, OpenRefusal, ask_refusals, AskRefusal}
use Rattle.desk.specs.Inner.{opened, filled_for}
use Rattle.desk.proofs.Exactly.{open_number, ask_number}
use Rattle.desk.proofs.Words.{filled_for_lem}
use Rattle.plan.specs.File.{TreeFor}
use Rattle.plan.specs.Refusals.{Readable, HasRoom, plan_refusals}
use Rattle.plan.specs.Enough.{plan_enough}
use Rattle.plan.specs.Inner.{tree_for, plan_refused}
use Rattle.plan.proofs.Tracing.{rules_tree, tree_earns}
use Rattle.plan.proofs.Exactly.{plan_number, plan_accepted}
use Rattle.plan.proofs.Enough.{plan_enough_lem}
use Rattle.plan.proofs.Best.{best_readable, best_tree}
use Rattle.listing.specs.Line.{refused_text}
use Rattle.program.specs.Sizes.{table_cells, plan_room}
use Rattle.program.specs.Entry.{Stand, added_all, entered}
use Rattle.program.specs.Program.{text_or, tree_lines, plan_text, planned_text, asked_text, entered_text, new_table, job_text, program_text}
pub use Rattle.program.specs.Best.{BestTree, file_length, PrintsBest, PlanTooLong}
use Rattle.program.proofs.Texts.{or_refused, or_text, block_none, block_some, block_few}
use Rattle.program.proofs.Entered.{entered_still}
use Rattle.program.proofs.Begun.{NoneFilled, Begun, BadPiece, enters}

-- Bytes that are no job block get 1 (rule 9.3).
pub program_shapeless : (block : List ℕ) → (BlockShape block → ⊥) → program_text block ≡ refused_text bad_job
program_shapeless block h = block_none block (sym (from_block_no block h))

table-length : length new_table ≡ table_cells
unfolding new_table
table-length = length-replicate {A = ℕ} table_cells 0

module _ (block : List ℕ) where
  abbrev own : Job
  own = job_in block

  abbrev a : ℕ
  a = own.width

  abbrev b : ℕ
  b = own.height

  -- The whole sheet is asked where none of its cells is filled, and planned.
  module _ (t : List ℕ) (usable : Usable own t) (none : NoneFilled own t) (asks : program_text block ≡ asked_text own t) where
    abbrev filled : List ℕ
    filled = filled_for own t a b

    abbrev value : ℕ
    value = cell_of a filled a b

    abbrev tree : Tree
    tree = tree_for own filled a b

    whole : Inside a b a b
    whole = omega (arith, usable.range.width_least, usable.range.height_least)

    granted : AskRefusal own t a b 0
    unfolding Gives ask_refusals
    granted = inr (usable.range, inr (usable.room, inr (whole, inr ((λ u w i f. absurd (f (none u w i))), refl))))

    -- Every cell then holds its best value.
    cells_best : (u w : ℕ) → Inside u w a b → Best (lay_of own) u w (cell_of a filled u w)
    cells_best =
        table_best (lay_of own) usable.range.pieces a b (cell_of a filled) a b (omega arith) (omega arith)
        (λ u w i. inl (((filled_for_lem own t a b granted filled).0 refl).worked u w i (none u w i)))

    full : (u w : ℕ) → Inside u w a b → cell_of a filled u w ≡ empty → ⊥
    full u w i e =
        let r = usable.range in
        let most = most_mono u w side_max side_max (omega (arith, i, r.width_most)) (omega (arith, i, r.height_most)) in
        omega (arith, best_bound r.pieces (cells_best u w i), most, e)

    usable_after : Usable own filled
    usable_after = record { range = usable.range; room = omega (arith, usable.room, ((filled_for_lem own t a b granted filled).0 refl).long) }

    readable : Readable own filled a b
    readable = best_readable own filled usable_after (λ u w i f. cells_best u w i) a b whole full

    by_rules_lem : TreeFor own filled a b tree
    by_rules_lem = best_tree own filled usable_after (λ u w i f. cells_best u w i) a b whole full

    traced : BestTree own tree
    traced = record { table = filled; cells = cells_best; by_rules = by_rules_lem }

    worked : count_in_box a b (is_empty a t) ≡ a * b
    worked = count_in_box_all a b (is_empty a t) (λ u w i. (is_empty_says a t u w).found (none u w i))

    -- So ask is accepted, and plan's number decides what is printed: 0 or 8, by the length of the file.
    plan_prints : program_text block ≡ text_or (plan_refused own filled a b plan_room) (plan_text own filled value (a * b))
    unfolding asked_text planned_text
    plan_prints =
        asks
        ∙ sym (ap (planned_text own filled value) (sym worked)
        ∙ or_text (planned_text own filled value (count_in_box a b (is_empty a t))) (sym ((ask_number own t a b).0 granted)))

    with_room : file_length own tree ≤ plan_room → plan_refused own filled a b plan_room ≡ 0
    with_room h = sym ((plan_number own filled a b plan_room).0 (plan_accepted own filled a b plan_room readable by_rules_lem h))

    without : plan_room < file_length own tree → plan_refused own filled a b plan_room ≡ short_buffer
    unfolding Gives plan_refusals
    without h =
        let over : HasRoom own filled a b plan_room → ⊥ =
        λ k. omega (arith, k.2, h, ap (file_length own) (rules_tree own filled a b readable k.1).1) in
        sym ((plan_number own filled a b plan_room).0
        (inr (usable.range, inr (usable_after.room, inr (whole, inr (full, inr (readable.bounded, inr ((tree, by_rules_lem), inl (over, refl)))))))))

    earned : Valid (pieces_of own) tree a b × (earning (pieces_of own) tree ≡ value)
    earned = tree_earns own filled a b readable by_rules_lem

    answered : PrintsBest block ⊎ PlanTooLong block
    unfolding plan_text tree_lines text_or
    answered = ⊎_elim (λ h. inl (best h)) (λ h. inr (long h)) (le_or_lt (file_length own tree) plan_room)
      where
        best : file_length own tree ≤ plan_room → PrintsBest block
        best h =
            record {
              value = value;
              tree = tree;
              valid = earned.0;
              earns = earned.1;
              best = cells_best a b whole;
              prints = plan_prints ∙ ap (λ (n : ℕ). text_or n (plan_text own filled value (a * b))) (with_room h);
              traced = traced;
              room = h;
            }

        long : plan_room < file_length own tree → PlanTooLong block
        long h =
            record {
              tree = tree;
              valid = earned.0;
              traced = traced;
              long = h;
              prints = plan_prints ∙ ap (λ (n : ℕ). text_or n (plan_text own filled value (a * b))) (without h);
            }

  -- A block is read and entered.
  module _ (shape : BlockShape block) where
    abbrev stand : Stand
    stand = entered own new_table

    is_read : Some own ≡ from_block block
    is_read = from_block_yes block shape refl

    entered_prints : entered_text stand.answer stand.cells ≡ program_text block
    unfolding job_text
    entered_prints = block_some block (sym is_read)

    few : length (by_index (piece_in block) (count_in block)) ≤ pieces_max
    few = omega (arith, shape.most, by_index-length (piece_in block) (count_in block))

    -- What is refused before anything is asked.
    refused_prints : (n : ℕ) → stand.answer.refusal ≡ suc n → program_text block ≡ refused_text (suc n)
    unfolding entered_text
    refused_prints n e =
        let text = asked_text stand.answer.job stand.cells in
        sym entered_prints ∙ (ap (λ (k : ℕ). text_or k text) e ∙ sym (or_refused (suc n) text (λ z. omega arith)))

    open_prints : (n : ℕ) → OpenRefusal a b new_table (suc n) → program_text block ≡ refused_text (suc n)
    unfolding added_all opened
    open_prints n q =
        let e = (open_number a b new_table).0 q in
        let same = entered_still own new_table 0 (omega arith) (λ z. omega (arith, e, z)) in
        refused_prints n (ap (λ (s : Stand). s.answer.refusal) same ∙ sym e)

    -- A side out of its range gets 1 (rule 9.3) ..
    pub program_bad_side : (Inside a b side_max side_max → ⊥) → program_text block ≡ refused_text bad_job
    unfolding Gives open_refusals
    program_bad_side h = open_prints 0 (inl (h, refl))

    module _ (sides : Inside a b side_max side_max) where
      -- .. a sheet with more cells than the table 2 (rule 9.2) ..
      pub program_large : table_cells < cells_of own → program_text block ≡ refused_text short_table
      unfolding Gives open_refusals
      program_large h = open_prints 1 (inr (sides, inl ((λ k. omega (arith, k, h, table-length)), refl)))

      module _ (cells : cells_of own ≤ table_cells) where
        goes : Begun own own.count stand ⊎ BadPiece own stand
        unfolding entered
        goes = enters own new_table sides (omega (arith, cells, table-length)) (block_few block is_read) own.count (omega arith)

        -- Entered, it is the block's own job again.
        same_job : Begun own own.count stand → stand.answer.job ≡ own
        unfolding job_in pieces_of
        same_job g = g.is ∙ sym (job_of_tidy _ _ (by_index (piece_in block) (count_in block)) few).zeros

        -- .. and a piece out of its range 4 (rule 9.3).
        pub program_bad_piece : (InRange (lay_of own) → ⊥) → program_text block ≡ refused_text bad_piece
        program_bad_piece h =
            ⊎_elim (λ g. absurd (h (subst (λ (j : Job). InRange (lay_of j)) (same_job g) g.usable.range.pieces)))
            (λ b. refused_prints 3 b.four) goes

        begun : Begun own own.count stand → PrintsBest block ⊎ PlanTooLong block
        unfolding entered_text text_or
        begun g =
            let t = stand.cells in
            answered t (subst (λ (j : Job). Usable j t) (same_job g) g.usable) (subst (λ (j : Job). NoneFilled j t) (same_job g) g.cells)
            (sym entered_prints ∙ (ap (λ (k : ℕ). text_or k (asked_text stand.answer.job t)) g.none ∙ ap (λ (j : Job). asked_text j t) (same_job g)))

    -- A job in range whose sheet the table holds is answered with the best value and a plan that earns it (rule 9.5), or refused
    -- with 8, and only where the file of the plan by the rules is longer than the plan buffer (rule 9.2).
    pub program_best : JobInRange own → cells_of own ≤ table_cells → PrintsBest block ⊎ PlanTooLong block
    program_best range cells =
        let sides : Inside a b side_max side_max = omega (arith, range.width_least, range.width_most, range.height_least, range.height_most) in
        ⊎_elim (begun sides cells) (λ f. absurd (f.why range.pieces)) (goes sides cells)

    -- Where the buffer holds every plan of such a sheet (rule 8.13) it is always answered.
    pub program_answers : JobInRange own → cells_of own ≤ table_cells → plan_enough own.count a b ≤ plan_room → PrintsBest block
    program_answers range cells enough =
        ⊎_elim (λ p. p) (λ l. absurd (omega (arith, enough, l.long, plan_enough_lem own l.valid range.width_least range.height_least)))
        (program_best range cells)
