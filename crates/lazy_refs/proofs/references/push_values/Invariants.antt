use Rattle.std.proofs.Common.{◌≡◌, ◌++◌, take}
use Rattle.std.specs.List.{flat_map}
use Rattle.session_model.specs.Instances.{eager_refs_of}
use Rattle.lazy_refs.specs.Walks.{wanted}
use Rattle.lazy_refs.proofs.references.push_values.Given as goal

abbrev pub invariant-loop-value : goal.invariant-loop-value
invariant-loop-value l = l.ids.items ≡ l.initial.ids.items ++ wanted l.registry.instances (flat_map eager_refs_of (take l.value-index l.values))
