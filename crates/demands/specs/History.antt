-- What makes a kept table (rule 4.13): an accepted open, then the calls in any order under the header's names, each given the job
-- last returned, or its block. An answer in a history is any answer that keeps the call's promise, whoever's library gave it.
use Rattle.std.specs.Prelude.{ℕ, ◌≤◌, List, ◌⊎◌, ◌≡◌, length}
use Rattle.cutting.specs.Piece.{Fits, Inside}
use Rattle.cutting.specs.Dissection.{Best}
use Rattle.cells.specs.Cells.{empty, cell_of}
use Rattle.job.specs.declared.Piece.{Piece as Record}
use Rattle.job.specs.declared.Job.{Job}
use Rattle.job.specs.Job.{lay_of}
use Rattle.job.specs.Block.{block_of}
use Rattle.desk.specs.Refusals.{cells_of}
use Rattle.desk.specs.Changing.{record_of_piece, SizeFits}
use Rattle.khonvertseg.specs.declared.KhonChanged.{KhonChanged}
use Rattle.khonvertseg.specs.declared.KhonAsked.{KhonAsked}
use Rattle.khonvertseg.specs.Calls.{KhonOpens, KhonAdds, KhonCorrects, KhonRemoves, KhonAsks}

-- The number in cell (u, w) of the job's sheet.
abbrev pub cell : Job → List ℕ → ℕ → ℕ → ℕ
cell job t u w = cell_of job.width t u w

-- The cell holds a number.
abbrev pub Filled : Job → List ℕ → ℕ → ℕ → Type 0
Filled job t u w = cell job t u w ≡ empty → ⊥

-- (u, w) is a cell of the job's sheet.
abbrev pub OnSheet : Job → ℕ → ℕ → Type 0
OnSheet job u w = Inside u w job.width job.height

-- v is the best value (rule 2.6) of u by w for the job's pieces.
abbrev pub BestFor : Job → ℕ → ℕ → ℕ → Type 0
BestFor job u w v = Best (lay_of job) u w v

-- The row t' has the cells of t, and behind them whatever the caller keeps there (rule 4.3).
pub record SameSheet (job : Job) (t t' : List ℕ) : Type 0 where
  pub room : cells_of job ≤ length t'
  pub cells : (u w : ℕ) → OnSheet job u w → cell job t' u w ≡ cell job t u w

-- A history that ends with this job and this table.
pub data History : Job → List ℕ → Type 0 where
  opening : (a b : ℕ) (t : List ℕ) {t' : List ℕ} {r : KhonChanged} → KhonOpens a b t r t' → r.refusal ≡ 0 → History r.job t'
  adding : {job : Job} {t t' : List ℕ} {r : KhonChanged} → History job t → (piece : Record) → KhonAdds job t piece r t' → History r.job t'
  correcting : {job : Job} {t t' : List ℕ} {r : KhonChanged} → History job t → (k : ℕ) (piece : Record) → KhonCorrects job t k piece r t' → History r.job t'
  removing : {job : Job} {t t' : List ℕ} {r : KhonChanged} → History job t → (k : ℕ) → KhonRemoves job t k r t' → History r.job t'
  asking : {job : Job} {t t' : List ℕ} {r : KhonAsked} → History job t → (x y : ℕ) → KhonAsks (block_of job) t x y r t' → History job t'
  -- between two calls, the caller's own data beyond the sheet
  elsewhere : {job : Job} {t t' : List ℕ} → History job t → SameSheet job t t' → History job t'

-- Rule 10.6: an answered question covered the cell (u, w), and no change that was accepted later emptied it.
unfoldable pub Covered : {job : Job} {t : List ℕ} → History job t → ℕ → ℕ → Type 0
Covered (opening a b t p e) u w = ⊥
Covered (adding {r = r} h piece p) u w = Covered h u w × (r.refusal ≡ 0 → SizeFits piece u w → ⊥)
Covered (correcting {job = job} {r = r} h k piece p) u w =
    Covered h u w × (r.refusal ≡ 0 → SizeFits (record_of_piece job k) u w ⊎ SizeFits piece u w → ⊥)
Covered (removing {job = job} {r = r} h k p) u w = Covered h u w × (r.refusal ≡ 0 → SizeFits (record_of_piece job k) u w → ⊥)
Covered (asking {r = r} h x y p) u w = Covered h u w ⊎ ((r.refusal ≡ 0) × Fits u w x y)
Covered (elsewhere h s) u w = Covered h u w

-- Rule 10.3: an answered question covered x by y, and no change was accepted after it.
unfoldable pub AskedSince : {job : Job} {t : List ℕ} → History job t → ℕ → ℕ → Type 0
AskedSince (opening a b t p e) x y = ⊥
AskedSince (adding {r = r} h piece p) x y = AskedSince h x y × (r.refusal ≡ 0 → ⊥)
AskedSince (correcting {r = r} h k piece p) x y = AskedSince h x y × (r.refusal ≡ 0 → ⊥)
AskedSince (removing {r = r} h k p) x y = AskedSince h x y × (r.refusal ≡ 0 → ⊥)
AskedSince (asking {r = r} h u w p) x y = AskedSince h x y ⊎ ((r.refusal ≡ 0) × Fits x y u w)
AskedSince (elsewhere h s) x y = AskedSince h x y
