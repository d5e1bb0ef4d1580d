-- What a plan file is, whoever wrote it: a note, a job block, the nodes of a tree, and a trailer.
use Rattle.std.specs.Prelude.{ℕ, ◌≤◌, ◌≡◌, List, ◌++◌, length}
use Rattle.cutting.specs.Tree.{Tree, Valid, earning, piece_area_of, scrap_area_of}
use Rattle.fields.specs.Number.{bytes4}
use Rattle.fields.specs.Sum.{sum_of}
use Rattle.job.specs.declared.Job.{Job}
use Rattle.job.specs.Job.{pieces_of}
use Rattle.job.specs.Range.{JobInRange}
use Rattle.job.specs.Block.{block_of}
use Rattle.nodes.specs.Encoding.{encode}
use Rattle.fields.specs.Format.{file_most}
use Rattle.checker.specs.Checked.{Answer}

-- The job block and the nodes.
unfoldable pub body : Job → Tree → List ℕ
body job tree = block_of job ++ encode tree

-- The trailer up to its sum: D1, D2 and the value (rule 8.7).
unfoldable pub pointers : Job → Tree → List ℕ
pointers job tree = bytes4 (length (body job tree)) ++ (bytes4 (length (encode tree)) ++ bytes4 (earning (pieces_of job) tree))

-- What the sum covers (rule 8.9).
unfoldable pub summed : Job → Tree → List ℕ
summed job tree = body job tree ++ pointers job tree

-- The whole file: a note (rule 8.3), what the sum covers, and the sum (rule 8.9).
unfoldable pub plan_bytes : List ℕ → Job → Tree → List ℕ
plan_bytes note job tree = note ++ (summed job tree ++ bytes4 (sum_of (summed job tree)))

-- The file is that of this tree, which dissects the block's rectangle, and the answer has number 0 and its value and areas.
pub record PlanFile (file : List ℕ) (a : Answer) : Type 0 where
  pub note : List ℕ
  pub job : Job
  pub tree : Tree
  pub most : length file ≤ file_most
  pub range : JobInRange job
  pub valid : Valid (pieces_of job) tree job.width job.height
  pub bytes : file ≡ plan_bytes note job tree
  pub answers : a
      ≡ record {
        number = 0;
        value = earning (pieces_of job) tree;
        note = length note;
        piece_area_of = piece_area_of (pieces_of job) tree;
        scrap_area_of = scrap_area_of tree job.width job.height;
      }
