-- The listing of the whole sheet, read off its plan file.
use Prim.Native.Nat.{ℕ, ◌+◌}
use mathlib.Core.Path.{◌≡◌, refl, sym, ap, subst, ◌∙◌}
use mathlib.Core.List.{List, ◌++◌}
use native.Mathlib.Omega.{arith}
use lib.ListN.{length, drop}
use lib.Seq.{drop-append_seam}
use Rattle.cutting.specs.Piece.{Piece}
use Rattle.cutting.specs.Tree.{Tree}
use Rattle.fields.specs.Number.{bytes4}
use Rattle.fields.specs.Sum.{sum_of}
use Rattle.job.specs.declared.Job.{Job}
use Rattle.job.specs.Job.{pieces_of}
use Rattle.job.specs.Block.{block_of, block_length}
use Rattle.job.specs.Range.{JobInRange}
use Rattle.job.proofs.Blocks.{block-length}
use Rattle.job.proofs.Pieces.{pieces-length}
use Rattle.board.specs.declared.Board.{Board}
use Rattle.board.specs.Inner.{pieces_on, pieces_board}
use Rattle.board.proofs.Holds.{pieces_read}
use Rattle.nodes.specs.Encoding.{encode}
use Rattle.nodes.specs.Reads.{Found}
use Rattle.nodes.proofs.Encoding.{found_first, found_second}
use Rattle.checker.specs.PlanFile.{body, pointers, summed, plan_bytes}
use Rattle.plan.specs.File.{sheet_of}
use Rattle.printing.specs.declared.Text.{Text}
use Rattle.std.proofs.Common.{Option}
use Rattle.listing.specs.declared.Section.{Section}
use Rattle.listing.specs.Inner.{section, MayList, ListsThere}
use Rattle.program.specs.Inner.{HoldsPlan, ListsPlan}

-- What stands at the start of a row.
found_front : (e behind : List ℕ) → Found (e ++ behind) 0 e (length e)
found_front e behind = record { place = omega arith; bytes = ap (λ (l : List ℕ). e ++ l) (sym (drop-append_seam e behind)) }

-- The nodes of a plan file stand behind its block.
module _ (job : Job) where
  abbrev sheet : Job
  sheet = sheet_of job job.width job.height

  nodes_found : {buffer : List ℕ} {tree : Tree} → HoldsPlan job buffer tree
      → Found buffer (block_length job.count) (encode tree) (block_length job.count + length (encode tree))
  unfolding plan_bytes summed body
  nodes_found {buffer} {tree} h =
      let file = summed sheet tree ++ bytes4 (sum_of (summed sheet tree)) in
      let whole = subst (λ (s : List ℕ). Found s 0 file (length file)) (sym h.bytes) (found_front file h.behind) in
      let front = found_first (body sheet tree) (pointers sheet tree) (found_first (summed sheet tree) (bytes4 (sum_of (summed sheet tree))) whole) in
      let at : 0 + length (block_of sheet) ≡ block_length job.count =
      omega (arith, block-length job.width job.height (pieces_of sheet), pieces-length sheet) in
      let there = subst (λ (k : ℕ). Found buffer k (encode tree) (0 + length (body sheet tree))) at (found_second (block_of sheet) (encode tree) front) in
      record { place = refl; bytes = there.bytes ∙ ap (λ (k : ℕ). encode tree ++ drop k buffer) there.place }

  -- The part that the code lists is the whole sheet, with the pieces of the job's board.
  module _ {board : Board} {n at x y : ℕ} (set : board ≡ pieces_board job) (count : n ≡ job.count) (start : at ≡ block_length n)
      (wide : x ≡ job.width) (high : y ≡ job.height) where
    abbrev whole : Section
    whole = section (block_length job.count) 1 job.width job.height

    is_whole : section at 1 x y ≡ whole
    is_whole = λ i. section ((start ∙ ap block_length count) i) 1 (wide i) (high i)

    read : JobInRange job → pieces_on board ≡ pieces_of job
    read r = ap pieces_on set ∙ pieces_read job r.count_most

    pub may_list : JobInRange job → MayList (pieces_on board) (section at 1 x y)
    may_list r =
        subst (λ (q : Section). MayList (pieces_on board) q) (sym is_whole)
        (subst (λ (pieces : List Piece). MayList pieces whole) (sym (read r))
        (record {
          few = omega (arith, pieces-length job, r.count_most);
          range = r.pieces;
          inside = record { width_least = r.width_least; width_most = r.width_most; height_least = r.height_least; height_most = r.height_most };
          low = omega (arith, r.width_most, r.height_most);
        }))

    pub lists_plan : {file : List ℕ} {t u : Text} {next : Option ℕ} → JobInRange job → ListsThere (pieces_on board) file (section at 1 x y) t next u
        → ListsPlan job file t u
    lists_plan {file} {t} {u} {next} r h tree held =
        let here = subst (λ (q : Section). ListsThere (pieces_on board) file q t next u) is_whole h in
        let listed = subst (λ (pieces : List Piece). ListsThere pieces file whole t next u) (read r) here in
        (listed tree _ (record { valid = held.valid; found = nodes_found held })).text
