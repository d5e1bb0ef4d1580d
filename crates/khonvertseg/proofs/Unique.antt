-- Two answers that keep one promise are equal (rule 11.2): answer, job, all cells and all bytes, for every exported call.
use Prim.Native.Nat.{ℕ}
use mathlib.Core.List.{List}
use mathlib.Core.Path.{◌≡◌, refl, sym, ap, ◌∙◌}
use Rattle.fields.specs.Number.{Bytes}
use Rattle.job.specs.declared.Piece.{Piece as Record}
use Rattle.job.specs.declared.Job.{Job}
use Rattle.job.specs.Block.{job_in}
use Rattle.desk.proofs.Unique.{open_unique, add_unique, correct_unique, remove_unique, ask_unique}
use Rattle.desk.proofs.Words.{open_exactly, add_exactly, correct_exactly, remove_exactly, ask_exactly}
use Rattle.plan.proofs.Promise.{plan_unique}
use Rattle.plan.proofs.Plans.{plan_exactly}
use Rattle.checker.proofs.Given.{only}
use Rattle.khonvertseg.specs.declared.KhonChanged.{KhonChanged}
use Rattle.khonvertseg.specs.declared.KhonAsked.{KhonAsked}
use Rattle.khonvertseg.specs.declared.KhonPlanned.{KhonPlanned}
use Rattle.khonvertseg.specs.declared.KhonChecked.{KhonChecked}
use Rattle.khonvertseg.specs.Flat.{flat_checked}
use Rattle.khonvertseg.specs.Calls.{Laid, KhonOpens, KhonAdds, KhonCorrects, KhonRemoves, WithBlock, KhonAsks, KhonPlans, KhonChecks}

-- Of an answer and what is left there is one only.
abbrev One : {A : Type 0} → (A → List ℕ → Type 0) → Type 0
One {A} call = (r s : A) (left other : List ℕ) → call r left → call s other → (r ≡ s) × (left ≡ other)

laid_one : {A B : Type 0} {flat : A → B} {call : A → List ℕ → Type 0} {r s : B} {left other : List ℕ} → One call → Laid flat (λ c. call c left) r
    → Laid flat (λ c. call c other) s → (r ≡ s) × (left ≡ other)
laid_one {flat = flat} {left = left} {other = other} one l m =
    let e = one l.answer m.answer left other l.keeps m.keeps in
    (l.laid ∙ (ap flat e.0 ∙ sym m.laid), e.1)

block_one : {A : Type 0} (block : List ℕ) {call : Job → A → List ℕ → Type 0} {no : A} {lent : List ℕ} → One (call (job_in block))
    → One (WithBlock block call no lent)
block_one block one r q left other (WithBlock.shaped s c) (WithBlock.shaped s' d) = one r q left other c d
block_one block one r q left other (WithBlock.shaped s c) (WithBlock.shapeless h) = absurd (h s)
block_one block one r q left other (WithBlock.shapeless h) (WithBlock.shaped s c) = absurd (h s)
block_one block one r q left other (WithBlock.shapeless h) (WithBlock.shapeless g) = (refl, refl)

pub khon_open_unique : (width height : ℕ) (t : List ℕ) {r s : KhonChanged} {left other : List ℕ} → KhonOpens width height t r left
    → KhonOpens width height t s other → (r ≡ s) × (left ≡ other)
khon_open_unique a b t = laid_one (λ r s left other p q. open_unique a b t ((open_exactly a b t).1 p) ((open_exactly a b t).1 q))

pub khon_add_unique : (job : Job) (t : List ℕ) (piece : Record) {r s : KhonChanged} {left other : List ℕ} → KhonAdds job t piece r left
    → KhonAdds job t piece s other → (r ≡ s) × (left ≡ other)
khon_add_unique job t piece = laid_one (λ r s left other p q. add_unique job t piece ((add_exactly job t piece).1 p) ((add_exactly job t piece).1 q))

pub khon_correct_unique : (job : Job) (t : List ℕ) (k : ℕ) (piece : Record) {r s : KhonChanged} {left other : List ℕ} → KhonCorrects job t k piece r left
    → KhonCorrects job t k piece s other → (r ≡ s) × (left ≡ other)
khon_correct_unique job t k piece =
    laid_one (λ r s left other p q. correct_unique job t k piece ((correct_exactly job t k piece).1 p) ((correct_exactly job t k piece).1 q))

pub khon_remove_unique : (job : Job) (t : List ℕ) (k : ℕ) {r s : KhonChanged} {left other : List ℕ} → KhonRemoves job t k r left → KhonRemoves job t k s other
    → (r ≡ s) × (left ≡ other)
khon_remove_unique job t k = laid_one (λ r s left other p q. remove_unique job t k ((remove_exactly job t k).1 p) ((remove_exactly job t k).1 q))

pub khon_ask_unique : (block t : List ℕ) (x y : ℕ) {r s : KhonAsked} {left other : List ℕ} → KhonAsks block t x y r left → KhonAsks block t x y s other
    → (r ≡ s) × (left ≡ other)
khon_ask_unique block t x y =
    let job = job_in block in
    laid_one (block_one block (λ r s left other p q. ask_unique job t x y ((ask_exactly job t x y).1 p) ((ask_exactly job t x y).1 q)))

pub khon_plan_unique : (block t : List ℕ) (x y : ℕ) (o : List ℕ) {r s : KhonPlanned} {left other : List ℕ} → KhonPlans block t x y o r left
    → KhonPlans block t x y o s other → (r ≡ s) × (left ≡ other)
khon_plan_unique block t x y o =
    let job = job_in block in
    laid_one (block_one block (λ r s left other p q. plan_unique job t x y o ((plan_exactly job t x y o).1 p) ((plan_exactly job t x y o).1 q)))

pub khon_check_unique : (file : List ℕ) → Bytes file → {r s : KhonChecked} → KhonChecks file r → KhonChecks file s → r ≡ s
khon_check_unique file bytes l m = l.laid ∙ (ap flat_checked (only file bytes l.keeps ∙ sym (only file bytes m.keeps)) ∙ sym m.laid)
