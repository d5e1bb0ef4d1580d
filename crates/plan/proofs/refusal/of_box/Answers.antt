use Rattle.std.proofs.Common.{refl}
use Rattle.desk.proofs.Exactly.{box_holds}
use Rattle.plan.proofs.refusal.of_box.Goals as goal

-- `of_box` looks at cells that are there.
pub has_empty-requires-clause-holds : goal.has_empty-requires-clause-holds
has_empty-requires-clause-holds c = (box_holds _ _ _ _ c.in_ok-of_job.ensures refl c.inside.ensures c.if-not-inside.false c.from.ensures).0

pub has_exceeding-requires-clause-holds : goal.has_exceeding-requires-clause-holds
has_exceeding-requires-clause-holds c = (box_holds _ _ _ _ c.in_ok-of_job.ensures refl c.inside.ensures c.if-not-inside.false c.from-2.ensures).0
