-- The file of a job's rectangle, part by part: there is room for each, and together they are the file.
use Prim.Native.Nat.{ℕ, ◌+◌, ◌-◌, ◌≤◌}
use mathlib.Core.List.{List, ◌++◌}
use mathlib.Core.Path.{◌≡◌, sym, ap, ◌∙◌}
use native.Mathlib.Omega.{arith}
use lib.ListN.{length, take}
use Rattle.laws.specs.Put.{put}
use Rattle.cutting.specs.Limits.{pieces_max}
use Rattle.cutting.specs.Tree.{Tree, earning}
use Rattle.fields.specs.Number.{bytes4}
use Rattle.fields.specs.Sum.{sum_of}
use Rattle.fields.proofs.Number.{bytes4-length}
use Rattle.cells.specs.Cells.{cell_of}
use Rattle.job.specs.declared.Job.{Job}
use Rattle.job.specs.Job.{pieces_of}
use Rattle.job.specs.Block.{block, block_of, block_length}
use Rattle.job.proofs.Pieces.{pieces-length}
use Rattle.job.proofs.Blocks.{block-length}
use Rattle.nodes.specs.Encoding.{encode}
use Rattle.laws.specs.Inner.{Room, Wrote}
use Rattle.fields.specs.Format.{file_most}
use Rattle.checker.specs.PlanFile.{body, pointers, summed}
use Rattle.plan.specs.File.{sheet_of}
use Rattle.plan.specs.Inner.{tree_for, plan_file, Ready}
use Rattle.plan.proofs.Writing.{sheet_pieces, body-length, pointers-length, file-length, nodes_room, body_wrote, pointers_room, sum_room, file_written}
use Rattle.plan.proofs.Answers.{cell_earned, file_short}

module _ (job : Job) (t : List ℕ) (x y : ℕ) (o : List ℕ) (ready : Ready job t x y o) where
  abbrev sheet : Job
  sheet = sheet_of job x y

  abbrev tree : Tree
  tree = tree_for job t x y

  pub block_fits : (job.count ≤ pieces_max) × (block_length job.count ≤ length o)
  block_fits = (ready.readable.usable.range.count_most, omega (arith, file-length sheet tree, ready.room))

  module _ {p : List ℕ} {n start : ℕ} (block-put : p ≡ put o 0 (block x y (pieces_of job))) (counted : n ≡ job.count) (begin : start ≡ block_length n) where
    first : Wrote o 0 (block_of sheet) start p
    first =
        record {
          place = omega (arith, begin, counted, block-length x y (pieces_of sheet), pieces-length sheet);
          bytes = block-put ∙ ap (λ ps. put o 0 (block x y ps)) (sym (sheet_pieces job x y));
        }

    pub nodes_fit : Room p start (encode tree)
    nodes_fit = nodes_room sheet tree o ready.room first

    module _ {q : List ℕ} {at : ℕ} (second : Wrote p start (encode tree) at q) where
      at_end : at ≡ length (body sheet tree)
      at_end = omega (arith, (body_wrote sheet tree o ready.room first second).place)

      pub pointers_fit : (at + 12 ≤ length q) × (at ≤ file_most) × (at - start ≤ at)
      pointers_fit =
          omega (
            arith,
            (pointers_room sheet tree o ready.room first second).room,
            pointers-length sheet tree,
            at_end,
            body-length sheet tree,
            file-length sheet tree,
            file_short job t x y ready.readable ready.traces,
          )

      module _ {r : List ℕ} {value : ℕ}
          (pointers-put : r ≡ put q at (bytes4 at ++ (bytes4 (at - start) ++ bytes4 value)))
          (cell : value ≡ cell_of job.width t x y) where
        earned : value ≡ earning (pieces_of sheet) tree
        earned = cell_earned job t x y ready.readable ready.traces cell

        third : Wrote q at (pointers sheet tree) (at + 12) r
        unfolding pointers
        third =
            let near : at - start ≡ length (encode tree) = omega (arith, second.place) in
            record {
              place = ap (λ (k : ℕ). at + k) (sym (pointers-length sheet tree));
              bytes = pointers-put ∙ (λ i. put q at (bytes4 (at_end i) ++ (bytes4 (near i) ++ bytes4 (earned i))));
            }

        pub sum_fits : at + 12 + 4 ≤ length r
        sum_fits = omega (arith, (sum_room sheet tree o ready.room first second third).room, bytes4-length (sum_of (summed sheet tree)))

        pub filed : {s : List ℕ} {n : ℕ} → Wrote r (at + 12) (bytes4 (sum_of (take (at + 12) r))) n s → Wrote o 0 (plan_file job t x y) n s
        filed w = file_written sheet tree o ready.room first second third w
