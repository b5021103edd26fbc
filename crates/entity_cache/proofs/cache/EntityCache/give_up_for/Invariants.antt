use Rattle.std.proofs.Common.{length}
use Rattle.entity_cache.specs.Cached.{HaveLeft}
use Rattle.entity_cache.proofs.cache.EntityCache.give_up_for.Given as goal

abbrev pub invariant-ids : goal.invariant-ids
invariant-ids l = HaveLeft l.initial.region l.initial.self l.region l.self

abbrev pub decreases-ids : goal.decreases-ids
decreases-ids l = length l.self
