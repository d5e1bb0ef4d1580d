-- Width plus height falls at each line.
use Rattle.std.proofs.Common.{◌+◌}
use Rattle.tracer.proofs.walk.+write.Given as goal

abbrev pub decreases-write : goal.decreases-write
decreases-write l = l.width + l.height
