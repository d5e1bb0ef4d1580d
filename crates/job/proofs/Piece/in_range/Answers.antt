use Rattle.std.proofs.Common.{rules, ◌&&◌, ap₂, sym, ◌∙◌}
use Rattle.job.specs.Inner.{piece_in_range}
use Rattle.job.proofs.Piece.in_range.Goals.{then-in_limits, else-in_limits}
use Rattle.job.proofs.Piece.in_range.Goals as goal

-- `Piece::in_range` meets its contract: where two tests held, the third is left. In steps, so that a refused check shows both numbers.
pub returns-then-in_limits-2 : goal.returns-then-in_limits-2
unfolding piece_in_range
returns-then-in_limits-2 c =
    elim c.if-in_limits.branch [
      | then-in_limits v ↦
          ap₂ ◌&&◌ (sym v.if-in_limits.true ∙ c.in_limits.ensures)
          (ap₂ ◌&&◌ (sym c.if-in_limits-2.true ∙ v.value-is ∙ v.in_limits-then-in_limits.ensures) c.in_limits-then-in_limits-2.ensures)
      | else-in_limits v ↦ search rules
    ]
