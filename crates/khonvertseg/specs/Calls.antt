-- What each exported call answers and leaves, for all input, in the header's order: the contracts of src/lib.rt.
-- r is the answer as the header lays it out; t' is what the lent cells t hold then, o' what the lent buffer o holds.
use Rattle.std.specs.Prelude.{ℕ, List, ◌≡◌}
use Rattle.job.specs.declared.Piece.{Piece as Record}
use Rattle.job.specs.declared.Job.{Job}
use Rattle.job.specs.Block.{job_in, BlockShape}
use Rattle.refusals.specs.Refusals.{bad_job}
use Rattle.desk.specs.Changing.{Opens, Adds, Corrects, Removes}
use Rattle.desk.specs.Asking.{Asked, Asks}
use Rattle.plan.specs.Planning.{Planned, Plans}
use Rattle.checker.specs.Given.{Given}
use Rattle.khonvertseg.specs.Flat.{flat_changed, flat_asked, flat_planned, flat_checked}
use Rattle.khonvertseg.specs.declared.KhonChanged.{KhonChanged}
use Rattle.khonvertseg.specs.declared.KhonAsked.{KhonAsked}
use Rattle.khonvertseg.specs.declared.KhonPlanned.{KhonPlanned}
use Rattle.khonvertseg.specs.declared.KhonChecked.{KhonChecked}

-- r is an answer that keeps a promise, laid out as the header has it.
pub record Laid {A B : Type 0} (flat : A → B) (Promise : A → Type 0) (r : B) : Type 0 where
  pub answer : A
  pub keeps : Promise answer
  pub laid : r ≡ flat answer

-- khon_open (rule 4.4).
abbrev pub KhonOpens : ℕ → ℕ → List ℕ → KhonChanged → List ℕ → Type 0
KhonOpens width height t r t' = Laid flat_changed (λ c. Opens width height t c t') r

-- khon_add (rule 4.5).
abbrev pub KhonAdds : Job → List ℕ → Record → KhonChanged → List ℕ → Type 0
KhonAdds job t piece r t' = Laid flat_changed (λ c. Adds job t piece c t') r

-- khon_correct (rule 4.6).
abbrev pub KhonCorrects : Job → List ℕ → ℕ → Record → KhonChanged → List ℕ → Type 0
KhonCorrects job t k piece r t' = Laid flat_changed (λ c. Corrects job t k piece c t') r

-- khon_remove (rule 4.7).
abbrev pub KhonRemoves : Job → List ℕ → ℕ → KhonChanged → List ℕ → Type 0
KhonRemoves job t k r t' = Laid flat_changed (λ c. Removes job t k c t') r

-- Rule 4.14: a call with the job of a block, which answers `no` and leaves what was lent where the bytes are none.
pub data WithBlock {A : Type 0} (block : List ℕ) (call : Job → A → List ℕ → Type 0) (no : A) (lent : List ℕ) : A → List ℕ → Type 0 where
  shaped : {r : A} {left : List ℕ} → BlockShape block → call (job_in block) r left → WithBlock block call no lent r left
  shapeless : (BlockShape block → ⊥) → WithBlock block call no lent no lent

-- Ask, with a block.
abbrev pub AsksBlock : List ℕ → List ℕ → ℕ → ℕ → Asked → List ℕ → Type 0
AsksBlock block t x y = WithBlock block (λ job. Asks job t x y) (Asked.Refused bad_job) t

-- khon_ask (rules 4.8 and 4.9).
abbrev pub KhonAsks : List ℕ → List ℕ → ℕ → ℕ → KhonAsked → List ℕ → Type 0
KhonAsks block t x y r t' = Laid flat_asked (λ c. AsksBlock block t x y c t') r

-- Plan, with a block.
abbrev pub PlansBlock : List ℕ → List ℕ → ℕ → ℕ → List ℕ → Planned → List ℕ → Type 0
PlansBlock block t x y o = WithBlock block (λ job. Plans job t x y o) (Planned.Refused bad_job) o

-- khon_plan (rule 4.10).
abbrev pub KhonPlans : List ℕ → List ℕ → ℕ → ℕ → List ℕ → KhonPlanned → List ℕ → Type 0
KhonPlans block t x y o r o' = Laid flat_planned (λ c. PlansBlock block t x y o c o') r

-- khon_check (rule 4.11).
abbrev pub KhonChecks : List ℕ → KhonChecked → Type 0
KhonChecks file r = Laid flat_checked (λ c. Given file c) r
