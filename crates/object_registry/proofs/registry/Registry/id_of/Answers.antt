use Rattle.object_registry.proofs.registry.Registry.id_of.Goals as goal
use Rattle.object_registry.proofs.NameLemmas.{are_distinct-sorted}

pub returns-clause-once : goal.returns-clause-once
returns-clause-once c = rw (← c.self.view_is) (are_distinct-sorted c.self.inside.names.entries c.self.invariant.0)
