-- Rule 10.1: a call has the number that its list gives, and a refused one leaves what was lent and answers zeros.
use Rattle.std.specs.Prelude.{ℕ, List, ◌≡◌}
use Rattle.job.specs.declared.Job.{Job}
use Rattle.job.specs.Block.{job_in, BlockShape}
use Rattle.refusals.specs.Refusals.{bad_job}
use Rattle.checker.specs.Checked.{Checked, answer}
use Rattle.checker.specs.Given.{Given}

-- `list k` says when the list gives number k. The call has this number: the list gives it, and gives no other; where it is not 0,
-- nothing lent is touched and the answer is zeros.
pub record Refuses (list : ℕ → Type 0) (number : ℕ) (untouched : Type 0) : Type 0 where
  pub given : list number
  pub only : (k : ℕ) → list k → k ≡ number
  pub leaves : (number ≡ 0 → ⊥) → untouched

-- The list for a call with the job of a block.
pub data BlockRefusal (block : List ℕ) (list : Job → ℕ → Type 0) : ℕ → Type 0 where
  shapeless : (BlockShape block → ⊥) → BlockRefusal block list bad_job
  shaped : {k : ℕ} → BlockShape block → list (job_in block) k → BlockRefusal block list k

-- The list for check.
pub record CheckRefusal (file : List ℕ) (k : ℕ) : Type 0 where
  pub verdict : Checked
  pub given : Given file verdict
  pub number : (answer verdict).number ≡ k
