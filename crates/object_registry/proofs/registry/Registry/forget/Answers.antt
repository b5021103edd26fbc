use Rattle.object_registry.specs.Entries.{held_in}
use Rattle.object_registry.proofs.EntryLemmas.{instance_ids-rise}
use Rattle.object_registry.proofs.ReleasedLemmas.{released-exact, some_rise}
use Rattle.object_registry.proofs.registry.Registry.forget.Goals as goal
use Rattle.object_registry.proofs.NameLemmas.{are_distinct-sorted}

pub returns-in_err-kept-clause-once : goal.returns-in_err-kept-clause-once
returns-in_err-kept-clause-once c = rw (← c.self.view_is) (are_distinct-sorted c.self.inside.names.entries c.self.invariant.0)

pub returns-in_err-released-clause-once : goal.returns-in_err-released-clause-once
returns-in_err-released-clause-once c = rw (← c.self.view_is) (are_distinct-sorted c.self.inside.names.entries c.self.invariant.0)

pub returns-clause-once : goal.returns-clause-once
returns-clause-once c = rw (← c.self.view_is) (are_distinct-sorted c.self.inside.names.entries c.self.invariant.0)

pub returns-clause-released : goal.returns-clause-released
returns-clause-released c = λ x.
    let es = c.self.inside.instances.entries in
    rw (c.in_ok-released.ensures, c.keep.ensures.kept, ← c.self.view_is) (released-exact (held_in es) c.in_ok-kept.kept.keys (instance_ids-rise es c.self.invariant.1) x)

pub returns-clause-order : goal.returns-clause-order
returns-clause-order c =
    let es = c.self.inside.instances.entries in
    rw c.in_ok-released.ensures (some_rise _ (held_in es) (instance_ids-rise es c.self.invariant.1))
