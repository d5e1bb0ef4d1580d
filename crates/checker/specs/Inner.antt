-- The check as it computes; nobody has to believe it: `given_exactly` says that it gives what `Given` says.
use Rattle.std.specs.Prelude.{ℕ, Bool, cond, ◌&&◌, ◌≡◌, List, leb, eqb, length, Option, Some, None}
use Rattle.fields.specs.Sum.{sum_of}
use Rattle.job.specs.declared.Job.{Job}
use Rattle.job.specs.Job.{pieces_of}
use Rattle.job.specs.Inner.{job_in_range, from_block}
use Rattle.nodes.specs.declared.Tally.{Tally}
use Rattle.nodes.specs.Inner.{Part, part_at}
use Rattle.refusals.specs.Refusals.{not_framed, sum_differs, job_out_of_range, nodes_broken, value_differs}
use Rattle.fields.specs.Format.{file_least, file_most, distance_least}
use Rattle.checker.specs.Fields.{trailer_at, block_distance, stated_value, stated_sum, note_length, nodes_at, summed_bytes, block_bytes, before_trailer}
use Rattle.checker.specs.Checked.{Checked, whole_sheet}

-- The check: refusals 9 to 13 in the order of their numbers, and the answer.

-- Rule 7.9: the length is in its range, and D1 is 9 at least and points into the file.
unfoldable pub framed : List ℕ → Bool
framed file =
    leb file_least (length file) && (leb (length file) file_most && (leb distance_least (block_distance file) && leb (block_distance file) (trailer_at file)))

-- Rule 7.10: the sum in the trailer is the one that is added up.
unfoldable pub sum_agrees : List ℕ → Bool
sum_agrees file = eqb (sum_of (summed_bytes file)) (stated_sum file)

-- Rule 7.11: the bytes from D1 to D2 are a job block, and its job is in range.
unfoldable pub agreed : Option Job → Option Job
agreed (Some job) = cond (job_in_range job) (Some job) None
agreed None = None

unfoldable pub nodes_read : List ℕ → Job → Part
nodes_read file job = part_at (pieces_of job) (before_trailer file) (whole_sheet job (nodes_at file))

-- Rule 7.12: the tree was read, up to the trailer.
unfoldable pub leaves_of : List ℕ → Part → Option Tally
leaves_of file (Part.Read next tally) = cond (eqb next (trailer_at file)) (Some tally) None
leaves_of file Part.Broken = None

-- Rule 7.13: its leaves earn the value in the trailer.
unfoldable pub valued : List ℕ → Option Tally → Checked
valued file (Some tally) =
    cond (eqb tally.value (stated_value file)) (Checked.Accepted tally.value (note_length file) tally.pieces tally.scrap) (Checked.Refused value_differs)
valued file None = Checked.Refused nodes_broken

abbrev pub judged : List ℕ → Part → Checked
judged file part = valued file (leaves_of file part)

-- Rules 7.11 to 7.13, by the job of the block.
unfoldable pub judged_job : List ℕ → Option Job → Checked
judged_job file (Some job) = judged file (nodes_read file job)
judged_job file None = Checked.Refused job_out_of_range

-- The first number that applies, or the answer (rule 4.16).
unfoldable pub checked : List ℕ → Checked
checked file =
    cond (framed file)
    (cond (sum_agrees file) (judged_job file (agreed (from_block (block_bytes file)))) (Checked.Refused sum_differs))
    (Checked.Refused not_framed)

-- The promise of check, for all input: r is its answer. It has no premise.
abbrev pub CheckPromise : List ℕ → Checked → Type 0
CheckPromise file r = r ≡ checked file
