-- The calls as they compute; nobody has to believe it: `open_exactly` to `ask_exactly` (proofs/Words) say that they are the words.
use Rattle.std.specs.Prelude.{ℕ, zero, suc, ◌*◌, ◌≤◌, Bool, not, ◌&&◌, ◌||◌, List, [], ◌∷◌, ◌≡◌, leb, eqb, length, Result, Ok, Err}
use Rattle.laws.specs.Refusal.{Row}
use Rattle.laws.specs.Inner.{number_given}
use Rattle.cutting.specs.Limits.{side_max, pieces_max}
use Rattle.cells.specs.Cells.{cell_of}
use Rattle.cells.specs.Inner.{exceeds, any_in_box, fits, emptied, emptied_where}
use Rattle.job.specs.declared.Piece.{Piece as Record}
use Rattle.job.specs.declared.Job.{Job}
use Rattle.job.specs.Inner.{within, piece_in_range, job_in_range}
use Rattle.job.specs.Job.{job_of, zero_job}
use Rattle.job.specs.Range.{JobInRange}
use Rattle.job.specs.Change.{with_added, with_corrected, with_removed}
use Rattle.cells.specs.Box.{is_empty, count_in_box}
use Rattle.board.specs.Inner.{Rows, rows_on, board_of}
use Rattle.fill.specs.Inner.{filled}
use Rattle.refusals.specs.declared.Refusal.{Refusal}
use Rattle.refusals.specs.Refusals.{bad_job, short_table, number}
use Rattle.desk.specs.declared.question.Answer.{Answer}
use Rattle.desk.specs.Changing.{Changed, record_of_piece}
use Rattle.desk.specs.Asking.{Asked, Answered, Refused}
use Rattle.desk.specs.Refusals.{cells_of, open_refusals, add_refusals, correct_refusals, remove_refusals, ask_refusals}

-- What an accepted call (number 0) gives, or else what a refused one leaves.
unfoldable pub accepted {ℓ} : {A : Type ℓ} → ℕ → A → A → A
accepted zero given left = given
accepted (suc k) given left = left

-- The refusals (rule 4.16): the lists with a test for each row, and the number that they compute.

-- The first rows of every call on a job: 1 and 2.
unfoldable pub job_refusals : Job → List ℕ → List Row
job_refusals job t = Row.unless bad_job (JobInRange job) ∷ Row.unless short_table (cells_of job ≤ length t) ∷ []

unfoldable pub job_tests : Job → List ℕ → List Bool
job_tests job t = job_in_range job ∷ leb (cells_of job) (length t) ∷ []

unfoldable pub job_refused : Job → List ℕ → ℕ
job_refused job t = number_given (job_refusals job t) (job_tests job t)

unfoldable pub open_tests : ℕ → ℕ → List ℕ → List Bool
open_tests a b t = (within a side_max && within b side_max) ∷ leb (a * b) (length t) ∷ []

unfoldable pub open_refused : ℕ → ℕ → List ℕ → ℕ
open_refused a b t = number_given (open_refusals a b t) (open_tests a b t)

unfoldable pub add_tests : Job → List ℕ → Record → List Bool
add_tests job t piece = job_in_range job ∷ leb (cells_of job) (length t) ∷ piece_in_range piece ∷ eqb job.count pieces_max ∷ []

unfoldable pub add_refused : Job → List ℕ → Record → ℕ
add_refused job t piece = number_given (add_refusals job t piece) (add_tests job t piece)

unfoldable pub correct_tests : Job → List ℕ → ℕ → Record → List Bool
correct_tests job t k piece = job_in_range job ∷ leb (cells_of job) (length t) ∷ within k job.count ∷ piece_in_range piece ∷ []

unfoldable pub correct_refused : Job → List ℕ → ℕ → Record → ℕ
correct_refused job t k piece = number_given (correct_refusals job t k piece) (correct_tests job t k piece)

unfoldable pub remove_tests : Job → List ℕ → ℕ → List Bool
remove_tests job t k = job_in_range job ∷ leb (cells_of job) (length t) ∷ within k job.count ∷ []

unfoldable pub remove_refused : Job → List ℕ → ℕ → ℕ
remove_refused job t k = number_given (remove_refusals job t k) (remove_tests job t k)

unfoldable pub ask_tests : Job → List ℕ → ℕ → ℕ → List Bool
ask_tests job t x y =
    job_in_range job
    ∷ leb (cells_of job) (length t)
    ∷ (within x job.width && within y job.height)
    ∷ not (any_in_box x y (exceeds job.width t))
    ∷ []

unfoldable pub ask_refused : Job → List ℕ → ℕ → ℕ → ℕ
ask_refused job t x y = number_given (ask_refusals job t x y) (ask_tests job t x y)

-- Open, add, correct and remove (rules 4.4 to 4.7): answer, job and all cells.

-- The answer of a change: its number, and the job after it, or, where it is refused, the job that is left.
abbrev pub changed : ℕ → Job → Job → Changed
changed refusal after left = record { refusal = refusal; job = accepted refusal after left }

-- The code's answer as such: with the job that is left where it is refused.
abbrev pub changed_from : Job → Result Job Refusal → Changed
changed_from left (Ok job) = record { refusal = 0; job = job }
changed_from left (Err refusal) = record { refusal = number refusal; job = left }

unfoldable pub opened : ℕ → ℕ → List ℕ → Changed
opened a b t = changed (open_refused a b t) (job_of a b []) zero_job

unfoldable pub opened_cells : ℕ → ℕ → List ℕ → List ℕ
opened_cells a b t = accepted (open_refused a b t) (emptied a b 1 1 t) t

-- The cells of a job's sheet where a size fits, emptied.
unfoldable pub emptied_size : Job → Record → List ℕ → List ℕ
emptied_size job size t = emptied job.width job.height size.width size.height t

unfoldable pub added_job : Job → List ℕ → Record → Changed
added_job job t piece = changed (add_refused job t piece) (with_added job piece) job

unfoldable pub added_cells : Job → List ℕ → Record → List ℕ
added_cells job t piece = accepted (add_refused job t piece) (emptied_size job piece t) t

unfoldable pub corrected_job : Job → List ℕ → ℕ → Record → Changed
corrected_job job t k piece = changed (correct_refused job t k piece) (with_corrected job k piece) job

unfoldable pub corrected_cells : Job → List ℕ → ℕ → Record → List ℕ
corrected_cells job t k piece =
    let old = record_of_piece job k in
    accepted (correct_refused job t k piece)
    (emptied_where job.width job.height (λ x y. fits old.width old.height x y || fits piece.width piece.height x y) t)
    t

unfoldable pub removed_job : Job → List ℕ → ℕ → Changed
removed_job job t k = changed (remove_refused job t k) (with_removed job k) job

unfoldable pub removed_cells : Job → List ℕ → ℕ → List ℕ
removed_cells job t k = accepted (remove_refused job t k) (emptied_size job (record_of_piece job k) t) t

-- Ask (rules 4.8 and 4.9): the answer and all cells.

-- The answer with these numbers.
abbrev pub asked_with : ℕ → ℕ → ℕ → Asked
asked_with zero value worked = Answered value worked
asked_with (suc k) value worked = Refused (suc k)

-- The code's answer as such.
abbrev pub asked_from : Result Answer Refusal → Asked
asked_from (Ok answer) = Answered answer.value answer.worked
asked_from (Err refusal) = Refused (number refusal)

-- What the filling reads of a job: its pieces as rows, and the marks of P and Q.
unfoldable pub job_rows : Job → Rows
job_rows job = rows_on (board_of job)

-- The table after the question.
unfoldable pub filled_for : Job → List ℕ → ℕ → ℕ → List ℕ
filled_for job t x y = filled (job_rows job) job.width job.height x y t

unfoldable pub asked : Job → List ℕ → ℕ → ℕ → Asked
asked job t x y =
    asked_with (ask_refused job t x y) (cell_of job.width (filled_for job t x y) x y) (count_in_box x y (is_empty job.width t))

unfoldable pub asked_cells : Job → List ℕ → ℕ → ℕ → List ℕ
asked_cells job t x y = accepted (ask_refused job t x y) (filled_for job t x y) t

-- The promise of each call, for all input: r is its answer, and t' is what the table t holds then. As equations here, for the
-- contracts; in the words of the rules `Opens`, `Adds`, `Corrects`, `Removes` and `Asks`. proofs/Words says that both are the same.

abbrev pub OpenPromise : ℕ → ℕ → List ℕ → Changed → List ℕ → Type 0
OpenPromise a b t r t' = (r ≡ opened a b t) × (t' ≡ opened_cells a b t)

abbrev pub AddPromise : Job → List ℕ → Record → Changed → List ℕ → Type 0
AddPromise job t piece r t' = (r ≡ added_job job t piece) × (t' ≡ added_cells job t piece)

abbrev pub CorrectPromise : Job → List ℕ → ℕ → Record → Changed → List ℕ → Type 0
CorrectPromise job t k piece r t' = (r ≡ corrected_job job t k piece) × (t' ≡ corrected_cells job t k piece)

abbrev pub RemovePromise : Job → List ℕ → ℕ → Changed → List ℕ → Type 0
RemovePromise job t k r t' = (r ≡ removed_job job t k) × (t' ≡ removed_cells job t k)

abbrev pub AskPromise : Job → List ℕ → ℕ → ℕ → Asked → List ℕ → Type 0
AskPromise job t x y r t' = (r ≡ asked job t x y) × (t' ≡ asked_cells job t x y)
