-- Width plus height falls at each line.
use Rattle.std.proofs.Common.{◌+◌}
use Rattle.tracer.proofs.walk.+measure.Given as goal

abbrev pub decreases-measure : goal.decreases-measure
decreases-measure l = l.width + l.height
