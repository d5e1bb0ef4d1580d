use Rattle.std.proofs.Common.{rules, ◌&&◌, ap₂, sym, ◌∙◌}
use Rattle.job.specs.Inner.{job_in_range}
use Rattle.job.proofs.Job.in_range.Goals.{then-in_limits, else-in_limits, then-in_limits-2, else-in_limits-2}
use Rattle.job.proofs.Job.in_range.Goals as goal

-- `Job::in_range` meets its contract: where three tests held, the fourth is left. In steps, so that a refused check shows both numbers.
pub returns-then-self-le-PIECES_MAX : goal.returns-then-self-le-PIECES_MAX
unfolding job_in_range
returns-then-self-le-PIECES_MAX c =
    elim c.if-in_limits-2.branch [
      | then-in_limits-2 w ↦ elim c.if-in_limits.branch [
        | then-in_limits v ↦
            ap₂ ◌&&◌ (sym v.if-in_limits.true ∙ c.in_limits.ensures)
            (ap₂ ◌&&◌ (sym w.if-in_limits-2.true ∙ v.value-is ∙ v.in_limits-then-in_limits.ensures)
            (ap₂ ◌&&◌ (sym c.if-self-le-PIECES_MAX.true ∙ w.value-is) c.pieces_in_range.ensures))
        | else-in_limits v ↦ search rules
      ]
      | else-in_limits-2 w ↦ search rules
    ]
