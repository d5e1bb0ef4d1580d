-- Which answer a file is given, and exactly when: rules 7.9 to 7.13 in their order, or what check says of a plan file.
use Rattle.std.specs.Prelude.{ℕ, ◌+◌, ◌≡◌, List}
use Rattle.fields.specs.Sum.{sum_of}
use Rattle.job.specs.Job.{pieces_of}
use Rattle.job.specs.Range.{JobInRange}
use Rattle.job.specs.Block.{block_length}
use Rattle.nodes.specs.declared.Tally.{Tally}
use Rattle.nodes.specs.Reads.{ReadAs}
use Rattle.refusals.specs.Refusals.{not_framed, sum_differs, job_out_of_range, nodes_broken, value_differs}
use Rattle.checker.specs.Fields.{trailer_at, block_distance, nodes_distance, stated_value, stated_sum, note_length, nodes_at, summed_bytes, before_trailer, job_at, count_at}
use Rattle.checker.specs.Checked.{Checked, Framed, whole_sheet}

-- The sum in the trailer is that of the bytes that it covers (rule 8.9).
abbrev pub SumTrue : List ℕ → Type 0
SumTrue file = sum_of (summed_bytes file) ≡ stated_sum file

-- The job block is in range, and D1 is 6 + 6n + D2.
pub record JobFits (file : List ℕ) : Type 0 where
  pub range : JobInRange (job_at file)
  pub distances : block_distance file ≡ block_length (count_at file) + nodes_distance file

-- The nodes break no rule: from the first node up to the trailer stand those of a tree that dissects the block's rectangle.
abbrev pub NodesObey : List ℕ → Tally → Type 0
NodesObey file tally = ReadAs (pieces_of (job_at file)) (before_trailer file) (whole_sheet (job_at file) (nodes_at file)) (trailer_at file) tally

-- The first number that applies, or the answer (rule 4.16).
pub data Given (file : List ℕ) : Checked → Type 0 where
  -- Rule 7.9: the file isn't framed.
  nine : (Framed file → ⊥) → Given file (Checked.Refused not_framed)
  -- Rule 7.10: the sum isn't true.
  ten : Framed file → (SumTrue file → ⊥) → Given file (Checked.Refused sum_differs)
  -- Rule 7.11: the job doesn't fit.
  eleven : Framed file → SumTrue file → (JobFits file → ⊥) → Given file (Checked.Refused job_out_of_range)
  -- Rule 7.12: the nodes don't obey, whatever they are said to add up to.
  twelve : Framed file → SumTrue file → JobFits file → ((t : Tally) → NodesObey file t → ⊥) → Given file (Checked.Refused nodes_broken)
  -- Rule 7.13: the leaves earn another value than the trailer says.
  thirteen : {t : Tally} → Framed file → SumTrue file → JobFits file → NodesObey file t → (t.value ≡ stated_value file → ⊥)
      → Given file (Checked.Refused value_differs)
  -- Rule 4.11: none of these, and what the file is answered with.
  accepted : {t : Tally} → Framed file → SumTrue file → JobFits file → NodesObey file t → t.value ≡ stated_value file
      → Given file (Checked.Accepted t.value (note_length file) t.pieces t.scrap)
