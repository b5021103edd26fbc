use Rattle.object_registry.proofs.EntryLemmas.{instance_ids-rise}
use Rattle.object_registry.proofs.registry.Registry.copy.Goals as goal

pub returns-clause-order : goal.returns-clause-order
returns-clause-order c = rw (← c.self.view_is) (instance_ids-rise c.self.inside.instances.entries c.self.invariant.1)
