-- K1 to K10, as scripts of calls on an opened sheet, with what each call is to say, and the best value as the definition has it.
use Rattle.std.specs.Prelude.{ℕ, true, false, List, [], ◌∷◌, ◌++◌, ◌≡◌, length, take, set}
use Rattle.cutting.specs.Piece.{Piece, sized, Lays}
use Rattle.cutting.specs.Dissection.{Best}
use Rattle.cutting.specs.Change.{added, corrected, removed}
use Rattle.cutting.specs.Tree.{Tree}
use Rattle.fields.specs.Number.{Bytes}
use Rattle.cells.specs.Box.{is_empty, count_in_box}
use Rattle.job.specs.declared.Job.{Job}
use Rattle.job.specs.Job.{record_of, job_of}
use Rattle.job.specs.Block.{block_of}
use Rattle.plan.specs.File.{file_of}
use Rattle.khonvertseg.specs.declared.KhonChanged.{KhonChanged}
use Rattle.khonvertseg.specs.declared.KhonAsked.{KhonAsked}
use Rattle.khonvertseg.specs.declared.KhonPlanned.{KhonPlanned}
use Rattle.khonvertseg.specs.declared.KhonChecked.{KhonChecked}
use Rattle.khonvertseg.specs.Calls.{KhonOpens, KhonAdds, KhonCorrects, KhonRemoves, KhonAsks, KhonPlans, KhonChecks}

-- A call of a script.
pub data ScriptStep : Type 0 where
  add : Piece → ScriptStep
  correct : ℕ → Piece → ScriptStep
  remove : ℕ → ScriptStep
  ask : ℕ → ℕ → ScriptStep
  -- into a buffer of so many bytes
  plan : ℕ → ℕ → ℕ → ScriptStep
  check : List ℕ → ScriptStep

-- What a call says, how many cells of the sheet are empty after it, and the file that it wrote.
pub record Said : Type 0 where
  pub refusal : ℕ
  pub value : ℕ
  pub worked : ℕ
  pub empties : ℕ
  pub file : List ℕ

-- What is said of a call that writes no file.
abbrev pub said : ℕ → ℕ → ℕ → ℕ → Said
said refusal value worked empties = record { refusal = refusal; value = value; worked = worked; empties = empties; file = [] }

-- A plan that was written: its value, and the file.
abbrev pub wrote : ℕ → List ℕ → Said
wrote value file = record { refusal = 0; value = value; worked = 0; empties = 0; file = file }

-- The empty cells of the sheet.
abbrev pub empty_cells : Job → List ℕ → ℕ
empty_cells job t = count_in_box job.width job.height (is_empty job.width t)

-- What is said of a change and of an answer.
abbrev pub said_of_change : KhonChanged → List ℕ → Said
said_of_change r t = said r.refusal 0 0 (empty_cells r.job t)

-- Of an answer to a question.
abbrev pub said_of_answer : Job → KhonAsked → List ℕ → Said
said_of_answer job r t = said r.refusal r.value r.worked (empty_cells job t)

-- Of a plan.
abbrev pub said_of_plan : Job → List ℕ → KhonPlanned → List ℕ → Said
said_of_plan job t r o = record { refusal = r.refusal; value = r.value; worked = 0; empties = empty_cells job t; file = take r.length o }

-- Of a check.
abbrev pub said_of_check : Job → List ℕ → KhonChecked → Said
said_of_check job t r = said r.refusal r.value 0 (empty_cells job t)

-- The steps, called one after the other by a library that keeps the promises, said this.
pub data Runs : Job → List ℕ → List ScriptStep → List Said → Type 0 where
  done : {job : Job} {t : List ℕ} → Runs job t [] []
  add : {job : Job} {t t' : List ℕ} {r : KhonChanged} {steps : List ScriptStep} {sayings : List Said} (piece : Piece) → KhonAdds job t (record_of piece) r t'
      → Runs r.job t' steps sayings → Runs job t (ScriptStep.add piece ∷ steps) (said_of_change r t' ∷ sayings)
  correct : {job : Job} {t t' : List ℕ} {r : KhonChanged} {steps : List ScriptStep} {sayings : List Said} (k : ℕ) (piece : Piece)
      → KhonCorrects job t k (record_of piece) r t' → Runs r.job t' steps sayings
      → Runs job t (ScriptStep.correct k piece ∷ steps) (said_of_change r t' ∷ sayings)
  remove : {job : Job} {t t' : List ℕ} {r : KhonChanged} {steps : List ScriptStep} {sayings : List Said} (k : ℕ) → KhonRemoves job t k r t'
      → Runs r.job t' steps sayings → Runs job t (ScriptStep.remove k ∷ steps) (said_of_change r t' ∷ sayings)
  ask : {job : Job} {t t' : List ℕ} {r : KhonAsked} {steps : List ScriptStep} {sayings : List Said} (x y : ℕ) → KhonAsks (block_of job) t x y r t'
      → Runs job t' steps sayings → Runs job t (ScriptStep.ask x y ∷ steps) (said_of_answer job r t' ∷ sayings)
  plan : {job : Job} {t o' : List ℕ} {r : KhonPlanned} {steps : List ScriptStep} {sayings : List Said} (x y room : ℕ) (o : List ℕ) → length o ≡ room
      → KhonPlans (block_of job) t x y o r o' → Runs job t steps sayings → Runs job t (ScriptStep.plan x y room ∷ steps) (said_of_plan job t r o' ∷ sayings)
  check : {job : Job} {t : List ℕ} {r : KhonChecked} {steps : List ScriptStep} {sayings : List Said} (file : List ℕ) → Bytes file → KhonChecks file r
      → Runs job t steps sayings → Runs job t (ScriptStep.check file ∷ steps) (said_of_check job t r ∷ sayings)

-- A sheet, what is called on it once it is opened, what is to be said, and the best value of x by y with the pieces that it has at the end.
pub record Sheet : Type 0 where
  pub width : ℕ
  pub height : ℕ
  pub steps : List ScriptStep
  pub sayings : List Said
  pub x : ℕ
  pub y : ℕ
  pub best : ℕ

-- A row of the table: the sheet's sides, the steps, what is said; the question at the end and its best value.
abbrev pub sheet : ℕ → ℕ → List ScriptStep → List Said → ℕ → ℕ → ℕ → Sheet
sheet width height steps sayings x y best = record { width = width; height = height; steps = steps; sayings = sayings; x = x; y = y; best = best }

-- The plan file of a tree on a whole sheet with these pieces.
abbrev pub sheet_file : ℕ → ℕ → List Piece → Tree → List ℕ
sheet_file a b pieces tree = file_of (job_of a b pieces) a b tree

-- K1: two kinds of piece on 3 by 3, asked and planned: 8, and the file of its tree.
abbrev pub k1_asked : List ScriptStep
k1_asked = ScriptStep.add (sized 1 2 2) ∷ ScriptStep.add (sized 2 3 6) ∷ ScriptStep.ask 3 3 ∷ []

-- What is said of K1's calls.
abbrev pub k1_said : List Said
k1_said = said 0 0 0 9 ∷ said 0 0 0 9 ∷ said 0 8 9 0 ∷ []

-- The sheet K1.
abbrev pub K1 : Sheet
K1 =
    sheet 3 3
    (k1_asked ++ (ScriptStep.plan 3 3 100 ∷ []))
    (k1_said
    ++ (wrote 8 (sheet_file 3 3 (sized 1 2 2 ∷ sized 2 3 6 ∷ []) (Tree.line false 1 (Tree.line true 2 (Tree.piece_p 1) Tree.scrap_s) (Tree.piece_p 2))) ∷ []))
    3 3 8

-- K2: after K1's question a smaller and cheaper piece 2 empties four cells; the second question works out these, and gets 6.
abbrev pub K2 : Sheet
K2 =
    sheet 3 3
    (k1_asked ++ (ScriptStep.correct 2 (sized 2 2 4) ∷ ScriptStep.ask 3 3 ∷ []))
    (k1_said ++ (said 0 0 0 4 ∷ said 0 6 4 0 ∷ []))
    3 3 6

-- K3: the same correction leaves 1 by 3 filled, so that its question gets 2 without any work.
abbrev pub K3 : Sheet
K3 =
    sheet 3 3
    (k1_asked ++ (ScriptStep.correct 2 (sized 2 2 4) ∷ ScriptStep.ask 1 3 ∷ []))
    (k1_said ++ (said 0 0 0 4 ∷ said 0 2 0 4 ∷ []))
    1 3 2

-- The file of K4, as docs/FORMAT.md has it.
abbrev pub k4 : List ℕ
k4 =
    0x01 ∷ 0x00 ∷ 0x01 ∷ 0x00 ∷ 0x00 ∷ 0x00 ∷ 0x53 ∷ 0x00 ∷ 0x00 ∷ 0x09 ∷ 0x00 ∷ 0x00 ∷ 0x00
    ∷ 0x03 ∷ 0x00 ∷ 0x00 ∷ 0x00 ∷ 0x00 ∷ 0x00 ∷ 0x00 ∷ 0x00 ∷ 0x3C ∷ 0xF5 ∷ 0x29 ∷ 0x6E ∷ []

-- K4: 0 for the sheet without a piece, and its file, which check accepts; K9 and K10: not when it is cut short or changed.
abbrev pub K4K9K10 : Sheet
K4K9K10 =
    sheet 1 1
    (ScriptStep.ask 1 1 ∷ ScriptStep.plan 1 1 25 ∷ ScriptStep.check k4 ∷ ScriptStep.check (take 24 k4) ∷ ScriptStep.check (set k4 0 2) ∷ [])
    (said 0 0 1 0 ∷ wrote 0 k4 ∷ said 0 0 0 0 ∷ said 9 0 0 0 ∷ said 10 0 0 0 ∷ [])
    1 1 0

-- K5: one small piece on 3 by 3, cut out by a vertical line and then a horizontal one.
abbrev pub K5 : Sheet
K5 =
    sheet 3 3
    (ScriptStep.add (sized 2 2 5) ∷ ScriptStep.ask 3 3 ∷ ScriptStep.plan 3 3 100 ∷ [])
    (said 0 0 0 9 ∷ said 0 5 9 0
    ∷ wrote 5 (sheet_file 3 3 (sized 2 2 5 ∷ []) (Tree.line false 2 (Tree.line true 2 (Tree.piece_p 1) Tree.scrap_s) Tree.scrap_s)) ∷ [])
    3 3 5

-- K6: the piece of K5 on 5 by 4, where it is cut four times.
abbrev pub K6 : Sheet
K6 =
    sheet 5 4
    (ScriptStep.add (sized 2 2 5) ∷ ScriptStep.ask 5 4 ∷ [])
    (said 0 0 0 20 ∷ said 0 20 20 0 ∷ [])
    5 4 20

-- K7: a piece that would fit only if it were turned (rule 2.3) earns nothing.
abbrev pub K7 : Sheet
K7 =
    sheet 1 2
    (ScriptStep.add (sized 2 1 1) ∷ ScriptStep.ask 1 2 ∷ [])
    (said 0 0 0 2 ∷ said 0 0 2 0 ∷ [])
    1 2 0

-- K8: a piece that is the whole sheet, one node.
abbrev pub K8 : Sheet
K8 =
    sheet 2 3
    (ScriptStep.add (sized 2 3 6) ∷ ScriptStep.ask 2 3 ∷ ScriptStep.plan 2 3 100 ∷ [])
    (said 0 0 0 6 ∷ said 0 6 6 0 ∷ wrote 6 (sheet_file 2 3 (sized 2 3 6 ∷ []) (Tree.piece_p 1)) ∷ [])
    2 3 6

-- All of them.
abbrev pub sheets : List Sheet
sheets = K1 ∷ K2 ∷ K3 ∷ K4K9K10 ∷ K5 ∷ K6 ∷ K7 ∷ K8 ∷ []

-- The pieces after these steps.
unfoldable pub pieces_after : List Piece → List ScriptStep → List Piece
pieces_after pieces [] = pieces
pieces_after pieces (ScriptStep.add piece ∷ steps) = pieces_after (added pieces piece) steps
pieces_after pieces (ScriptStep.correct k piece ∷ steps) = pieces_after (corrected pieces k piece) steps
pieces_after pieces (ScriptStep.remove k ∷ steps) = pieces_after (removed pieces k) steps
pieces_after pieces (ScriptStep.ask x y ∷ steps) = pieces_after pieces steps
pieces_after pieces (ScriptStep.plan x y room ∷ steps) = pieces_after pieces steps
pieces_after pieces (ScriptStep.check file ∷ steps) = pieces_after pieces steps

-- Any library that keeps the promises says of the sheet what is stated, whatever the table held before; and the best value that is
-- stated is the best value.
pub record SheetKept (s : Sheet) : Type 0 where
  pub said : (t t' : List ℕ) (r : KhonChanged) (sayings : List Said) → KhonOpens s.width s.height t r t' → r.refusal ≡ 0
      → Runs r.job t' s.steps sayings → sayings ≡ s.sayings
  pub best : Best (Lays (pieces_after [] s.steps)) s.x s.y s.best

-- Each sheet of a list.
abbrev pub Each : (Sheet → Type 0) → List Sheet → Type 0
Each P [] = Unit {0}
Each P (s ∷ rest) = P s × Each P rest
