-- The answer, with its number and values; when a file is framed; the rectangle that its nodes dissect.
use Rattle.std.specs.Prelude.{ℕ, ◌≤◌, List, length, Result, Ok, Err}
use Rattle.refusals.specs.declared.Refusal.{Refusal}
use Rattle.refusals.specs.Refusals.{number}
use Rattle.job.specs.declared.Job.{Job}
use Rattle.nodes.specs.Reads.{Frame, frame}
use Rattle.fields.specs.Format.{file_least, file_most, distance_least}
use Rattle.checker.specs.Fields.{trailer_at, block_distance}
use Rattle.checker.specs.declared.Accepted.{Accepted as Values}

-- What check says of a file: accepted, with its value, the length of its note, and the areas of its pieces and of its scrap; or refused with a number.
pub data Checked : Type 0 where
  Accepted : ℕ → ℕ → ℕ → ℕ → Checked
  Refused : ℕ → Checked

-- The code's answer as that.
abbrev pub checked_from : Result Values Refusal → Checked
checked_from (Ok a) = Checked.Accepted a.value a.note a.piece_area a.scrap_area
checked_from (Err refusal) = Checked.Refused (number refusal)

-- The number and the values of each case of the answer (rule 4.15).
pub record Answer : Type 0 where
  pub number : ℕ
  pub value : ℕ
  pub note : ℕ
  pub piece_area_of : ℕ
  pub scrap_area_of : ℕ

-- An accepted file has number 0, a refused one zeros (rule 4.15).
abbrev pub answer : Checked → Answer
answer (Checked.Accepted value note pieces scrap) = record { number = 0; value = value; note = note; piece_area_of = pieces; scrap_area_of = scrap }
answer (Checked.Refused number) = record { number = number; value = 0; note = 0; piece_area_of = 0; scrap_area_of = 0 }

-- The file's length is in range, and D1 is 9 at least and length − 16 at most: refusal 9 doesn't come.
pub record Framed (file : List ℕ) : Type 0 where
  pub least : file_least ≤ length file
  pub most : length file ≤ file_most
  pub distance : distance_least ≤ block_distance file
  pub inside : block_distance file ≤ trailer_at file

-- The whole rectangle of a job, whose nodes start at a place.
abbrev pub whole_sheet : Job → ℕ → Frame
whole_sheet job at = frame at job.width job.height
