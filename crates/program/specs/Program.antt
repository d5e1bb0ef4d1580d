-- The text that the program prints for its input (rule 9.1).
use Rattle.std.specs.Prelude.{ℕ, zero, suc, List, ◌++◌, replicate, Option, Some, None}
use Rattle.cells.specs.Cells.{cell_of}
use Rattle.cells.specs.Box.{is_empty, count_in_box}
use Rattle.job.specs.declared.Job.{Job}
use Rattle.job.specs.Job.{pieces_of}
use Rattle.job.specs.Inner.{from_block}
use Rattle.desk.specs.Changing.{Changed}
use Rattle.refusals.specs.Refusals.{bad_job}
use Rattle.desk.specs.Inner.{ask_refused, filled_for}
use Rattle.plan.specs.Inner.{tree_for, plan_refused}
use Rattle.listing.specs.Line.{head_text, refused_text}
use Rattle.listing.specs.Listing.{listing}
use Rattle.program.specs.Sizes.{table_cells, plan_room}
use Rattle.program.specs.Entry.{entered}

-- A refusal's line and nothing else (rule 9.4), or the text.
unfoldable pub text_or : ℕ → List ℕ → List ℕ
text_or zero text = text
text_or (suc k) text = refused_text (suc k)

-- The lines of the tree that plan writes (rule 9.5).
unfoldable pub tree_lines : Job → List ℕ → List ℕ
tree_lines job t = listing (pieces_of job) 1 (tree_for job t job.width job.height) job.width job.height

-- The first line, and those of the tree (rule 9.5).
unfoldable pub plan_text : Job → List ℕ → ℕ → ℕ → List ℕ
plan_text job t value worked = head_text value worked ++ tree_lines job t

-- The whole sheet is planned, into the plan buffer (rule 9.2).
unfoldable pub planned_text : Job → List ℕ → ℕ → ℕ → List ℕ
planned_text job t value worked = text_or (plan_refused job t job.width job.height plan_room) (plan_text job t value worked)

-- The whole sheet is asked (rule 9.1).
unfoldable pub asked_text : Job → List ℕ → List ℕ
asked_text job t =
    let a = job.width in
    let b = job.height in
    let after = filled_for job t a b in
    text_or (ask_refused job t a b) (planned_text job after (cell_of a after a b) (count_in_box a b (is_empty a t)))

-- The job as it was entered, or the refusal of open or add (rules 9.2 and 9.3).
unfoldable pub entered_text : Changed → List ℕ → List ℕ
entered_text answer t = text_or answer.refusal (asked_text answer.job t)

-- The table before the opening.
unfoldable pub new_table : List ℕ
new_table = replicate table_cells 0

unfoldable pub job_text : Job → List ℕ
job_text from = entered_text (entered from new_table).answer (entered from new_table).cells

-- Bytes that are no job block (rule 4.14) get 1 (rule 9.3).
unfoldable pub block_text : Option Job → List ℕ
block_text (Some job) = job_text job
block_text None = refused_text bad_job

unfoldable pub program_text : List ℕ → List ℕ
program_text block = block_text (from_block block)
