-- What only contracts inside and proofs need.
use Rattle.std.specs.Prelude.{ℕ, List, [], ◌++◌, ◌≡◌, Result, Ok, Err}
use Rattle.refusals.specs.declared.Refusal.{Refusal}
use Rattle.refusals.specs.Refusals.{number}
use Rattle.cutting.specs.Tree.{Tree, Valid}
use Rattle.job.specs.declared.Job.{Job}
use Rattle.job.specs.Job.{pieces_of}
use Rattle.plan.specs.File.{file_of}
use Rattle.desk.specs.Changing.{Changed}
use Rattle.printing.specs.declared.Text.{Text}
use Rattle.printing.specs.Inner.{Writes}
use Rattle.listing.specs.Line.{head_text, refused_text}
use Rattle.listing.specs.Listing.{listing}

-- The file of a tree that dissects the job's sheet stands at the start of a buffer.
pub record HoldsPlan (job : Job) (buffer : List ℕ) (tree : Tree) : Type 0 where
  pub behind : List ℕ
  pub valid : Valid (pieces_of job) tree job.width job.height
  pub bytes : buffer ≡ file_of job job.width job.height tree ++ behind

-- What is printed for the tree whose file stands there: its lines, and the first line before them.
abbrev pub ListsPlan : Job → List ℕ → Text → Text → Type 0
ListsPlan job buffer t u = (tree : Tree) → HoldsPlan job buffer tree → Writes t (listing (pieces_of job) 1 tree job.width job.height) u

abbrev pub PrintsPlan : Job → List ℕ → ℕ → ℕ → Text → Text → Type 0
PrintsPlan job buffer value worked t u =
    (tree : Tree) → HoldsPlan job buffer tree → Writes t (head_text value worked ++ listing (pieces_of job) 1 tree job.width job.height) u

-- The code's answer to an entry is this one; where it is refused, nobody asks for its job.
abbrev pub AnswersAs : Result Job Refusal → Changed → Type 0
AnswersAs (Ok job) answer = record { refusal = 0; job = job } ≡ answer
AnswersAs (Err refusal) answer = number refusal ≡ answer.refusal

-- The text was printed; or it is a refusal's line, and nothing was printed.
abbrev pub PrintsText : List ℕ → Text → Result (Unit {0}) Refusal → Text → Type 0
PrintsText text t (Ok _) u = Writes t text u
PrintsText text t (Err refusal) u = (text ≡ refused_text (number refusal)) × Writes t [] u
