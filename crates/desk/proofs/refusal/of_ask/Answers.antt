use mathlib.Core.Path.{refl}
use Rattle.desk.proofs.Exactly.{box_holds}
use Rattle.desk.proofs.refusal.of_ask.Goals as goal

-- `of_ask` looks at cells that are there.
pub has_exceeding-requires-clause-holds : goal.has_exceeding-requires-clause-holds
has_exceeding-requires-clause-holds c = (box_holds _ _ _ _ c.in_ok-of_job.ensures refl c.inside.ensures c.if-not-inside.false c.from.ensures).0
