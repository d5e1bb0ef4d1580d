-- Why a best plan names its sheet, its pieces and its tree: check accepts files that are no plan of what was asked.
use Prim.Native.Nat.{ℕ}
use mathlib.Core.List.{List, [], ◌∷◌, ◌++◌}
use mathlib.Core.Path.{◌≡◌, refl, ap}
use native.Mathlib.Omega.{arith}
use lib.ListN.{get_or}
use Rattle.laws.specs.Inner.{all_below}
use Rattle.laws.specs.ByIndex.{by_index}
use Rattle.cutting.specs.Piece.{sized, piece_at}
use Rattle.cutting.specs.Tree.{Tree, Valid, earning, piece_area_of, scrap_area_of}
use Rattle.fields.specs.Number.{bytes2, bytes4}
use Rattle.job.specs.declared.Job.{Job}
use Rattle.job.specs.Job.{pieces_of, job_of}
use Rattle.job.specs.Range.{JobInRange}
use Rattle.job.specs.Inner.{piece_in_range, pieces_in_range, job_in_range}
use Rattle.job.specs.Block.{bytes_of_head, bytes_of_piece, bytes_of_pieces, block}
use Rattle.job.proofs.Range.{job_says}
use Rattle.nodes.specs.Encoding.{node, encode}
use Rattle.checker.specs.PlanFile.{body, pointers, summed, plan_bytes, PlanFile}
use Rattle.plan.specs.Best.{PlansBest}
use Rattle.plan.specs.Planning.{Planned}

-- The job of K8, and a job with the turned sheet and the turned piece.
abbrev asked : Job
asked = job_of 2 3 (sized 2 3 6 ∷ [])

abbrev turned : Job
turned = job_of 3 2 (sized 3 2 6 ∷ [])

-- A file of the turned sheet.
abbrev forged : List ℕ
forged = plan_bytes [] turned (Tree.piece_p 1)

in_range : JobInRange turned
unfolding job_in_range pieces_in_range piece_in_range all_below job_of by_index
in_range = (job_says turned).means refl

-- It is a plan file, with K8's value and with areas that make K8's sheet, so that check accepts it (`accepts_exactly`) ..
pub forged_accepted : PlanFile forged (record { number = 0; value = 6; note = 0; piece_area_of = 6; scrap_area_of = 0 })
unfolding plan_bytes summed body pointers block bytes_of_head bytes_of_piece bytes_of_pieces bytes2 bytes4 encode node job_of pieces_of by_index earning piece_area_of scrap_area_of piece_at
forged_accepted =
    record {
      note = [];
      job = turned;
      tree = Tree.piece_p 1;
      most = omega arith;
      range = in_range;
      valid = Valid.piece_p {k = 1} {v = 6} (record { first = omega arith; last = omega arith; width = refl; height = refl; value = refl });
      bytes = refl;
      answers = refl;
    }

-- .. but it is no best plan of K8, whatever is answered and whatever follows it: its block states another width.
pub forged_refused : {r : Planned} (rest : List ℕ) → PlansBest asked 2 3 r (forged ++ rest) → ⊥
unfolding plan_bytes summed body block bytes_of_head bytes2 job_of
forged_refused rest f =
    let other : ◌≡◌ {A = ℕ} 3 2 = ap (λ (l : List ℕ). get_or l 0 0) f.file in
    omega arith
