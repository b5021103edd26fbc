use Rattle.legacy_mapping.proofs.Plans.{IsPlannedBelow}
use Rattle.legacy_mapping.proofs.planning.plan.Given as goal

abbrev pub invariant-loop-k : goal.invariant-loop-k
invariant-loop-k l = IsPlannedBelow l.table l.old l.new l.k l.sources.items
