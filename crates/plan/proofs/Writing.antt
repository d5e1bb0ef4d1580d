-- The parts of a plan file, written one behind the other, are the file.
use Prim.Native.Nat.{ℕ, ◌+◌, ◌≤◌}
use mathlib.Core.List.{List, [], ◌++◌}
use mathlib.Core.Path.{◌≡◌, refl, sym, ap, ap₂, ◌∙◌}
use native.Mathlib.Omega.{arith}
use lib.ListN.{length, take, length-append}
use Rattle.laws.specs.Put.{put}
use Rattle.laws.proofs.Put.{put_front}
use Rattle.cutting.specs.Tree.{Tree, earning}
use Rattle.fields.specs.Number.{bytes4}
use Rattle.fields.specs.Sum.{sum_of}
use Rattle.fields.proofs.Number.{bytes4-length}
use Rattle.job.specs.declared.Job.{Job}
use Rattle.job.specs.Job.{pieces_of}
use Rattle.job.specs.Block.{block_of, block_length}
use Rattle.job.proofs.Pieces.{pieces-length}
use Rattle.job.proofs.Blocks.{block-length}
use Rattle.nodes.specs.Encoding.{encode}
use Rattle.laws.specs.Inner.{Room, Wrote}
use Rattle.laws.proofs.Wrote.{room_first, room_second, wrote_both, wrote_as}
use Rattle.fields.specs.Format.{trailer_length}
use Rattle.checker.specs.PlanFile.{body, pointers, summed, plan_bytes}
use Rattle.plan.specs.File.{sheet_of}

-- The planned rectangle has the job's pieces.
pub sheet_pieces : (job : Job) (x y : ℕ) → pieces_of (sheet_of job x y) ≡ pieces_of job
unfolding pieces_of
sheet_pieces job x y = refl

-- The sum of what stands before it.
pub sum-put : (o : List ℕ) (at : ℕ) {s : ℕ} {p : List ℕ} → s ≡ sum_of (take at o) → p ≡ put o at (bytes4 s) → Wrote o at (bytes4 (sum_of (take at o))) (at + 4) p
sum-put o at e f = record { place = omega (arith, bytes4-length (sum_of (take at o))); bytes = f ∙ ap (λ (n : ℕ). put o at (bytes4 n)) e }

module _ (sheet : Job) (tree : Tree) where
  pub body-length : length (body sheet tree) ≡ block_length sheet.count + length (encode tree)
  unfolding body
  body-length =
      omega (arith, length-append (block_of sheet) (encode tree), block-length sheet.width sheet.height (pieces_of sheet), pieces-length sheet)

  pub pointers-length : length (pointers sheet tree) ≡ 12
  unfolding pointers
  pointers-length =
      let d1 = bytes4 (length (body sheet tree)) in
      let d2 = bytes4 (length (encode tree)) in
      let value = bytes4 (earning (pieces_of sheet) tree) in
      omega (
        arith,
        length-append d1 (d2 ++ value),
        length-append d2 value,
        bytes4-length (length (body sheet tree)),
        bytes4-length (length (encode tree)),
        bytes4-length (earning (pieces_of sheet) tree),
      )

  abbrev pub sum : List ℕ
  sum = bytes4 (sum_of (summed sheet tree))

  -- The length of the file: its block, its nodes, its trailer.
  pub file-length : length (plan_bytes [] sheet tree) ≡ block_length sheet.count + length (encode tree) + trailer_length
  unfolding plan_bytes summed
  file-length =
      omega (
        arith,
        length-append (body sheet tree ++ pointers sheet tree) sum,
        bytes4-length (sum_of (summed sheet tree)),
        length-append (body sheet tree) (pointers sheet tree),
        pointers-length,
        body-length,
      )

  -- There is room for the whole, and so for each part in turn.
  module _ (o : List ℕ) (room : length (plan_bytes [] sheet tree) ≤ length o) where
    whole_room : Room o 0 (summed sheet tree ++ sum)
    unfolding plan_bytes
    whole_room = record { room = omega (arith, room) }

    summed_room : Room o 0 (body sheet tree ++ pointers sheet tree)
    unfolding summed
    summed_room = room_first (summed sheet tree) sum whole_room

    body_room : Room o 0 (block_of sheet ++ encode tree)
    unfolding body
    body_room = room_first (body sheet tree) (pointers sheet tree) summed_room

    module _ {p : List ℕ} {start : ℕ} (first : Wrote o 0 (block_of sheet) start p) where
      pub nodes_room : Room p start (encode tree)
      nodes_room = room_second (block_of sheet) (encode tree) body_room first

      module _ {q : List ℕ} {at : ℕ} (second : Wrote p start (encode tree) at q) where
        pub body_wrote : Wrote o 0 (body sheet tree) at q
        unfolding body
        body_wrote = wrote_both (block_of sheet) (encode tree) body_room first second

        pub pointers_room : Room q at (pointers sheet tree)
        pointers_room = room_second (body sheet tree) (pointers sheet tree) summed_room body_wrote

        module _ {r : List ℕ} {end : ℕ} (third : Wrote q at (pointers sheet tree) end r) where
          summed_wrote : Wrote o 0 (summed sheet tree) end r
          unfolding summed
          summed_wrote = wrote_both (body sheet tree) (pointers sheet tree) summed_room body_wrote third

          pub sum_room : Room r end sum
          sum_room = room_second (summed sheet tree) sum whole_room summed_wrote

          before_sum : take end r ≡ summed sheet tree
          before_sum = ap₂ take summed_wrote.place summed_wrote.bytes ∙ put_front o 0 (summed sheet tree) (omega arith)

          pub file_written : {s : List ℕ} {n : ℕ} → Wrote r end (bytes4 (sum_of (take end r))) n s → Wrote o 0 (plan_bytes [] sheet tree) n s
          unfolding plan_bytes
          file_written w =
              wrote_both (summed sheet tree) sum whole_room summed_wrote (wrote_as (ap (λ (l : List ℕ). bytes4 (sum_of l)) (sym before_sum)) w)
