-- A block's sheet is opened and its pieces added (rule 9.1), each with the answer and the cells that the one before left.
use Rattle.std.specs.Prelude.{ℕ, zero, suc, List, get_or}
use Rattle.job.specs.declared.Piece.{Piece as Record}
use Rattle.job.specs.declared.Job.{Job}
use Rattle.job.specs.Job.{no_record}
use Rattle.desk.specs.Changing.{Changed}
use Rattle.desk.specs.Inner.{accepted, opened, opened_cells, added_job, added_cells}

-- What stands after a call: its answer and the cells.
pub record Stand : Type 0 where
  pub answer : Changed
  pub cells : List ℕ

-- A piece added, unless something was refused before.
unfoldable pub added_to : Changed → List ℕ → Record → Changed
added_to before t piece = accepted before.refusal (added_job before.job t piece) before

unfoldable pub added_to_cells : Changed → List ℕ → Record → List ℕ
added_to_cells before t piece = accepted before.refusal (added_cells before.job t piece) t

-- The first k of these pieces, added one by one.
unfoldable pub added_all : Changed → List ℕ → List Record → ℕ → Stand
added_all start t pieces zero = record { answer = start; cells = t }
added_all start t pieces (suc k) =
    let before = added_all start t pieces k in
    let piece = get_or pieces k no_record in
    record { answer = added_to before.answer before.cells piece; cells = added_to_cells before.answer before.cells piece }

-- A job opened with the sides of another, and its first k pieces added ..
abbrev pub begun : Job → List ℕ → ℕ → Stand
begun from t = added_all (opened from.width from.height t) (opened_cells from.width from.height t) from.pieces

-- .. and all of them.
unfoldable pub entered : Job → List ℕ → Stand
entered from t = begun from t from.count
