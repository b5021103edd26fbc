use Rattle.std.proofs.Common.{◌≡◌, ◌++◌, take}
use Rattle.std.specs.List.{flat_map}
use Rattle.entity_form.specs.Values.{refs_of}
use Rattle.object_registry.specs.References.{without_none}
use Rattle.storer.specs.Gathered.{taken}
use Rattle.storer.proofs.edges.push_values.Given as goal

abbrev pub invariant-loop-value : goal.invariant-loop-value
invariant-loop-value l = l.ids.items ≡ l.initial.ids.items ++ without_none (taken l.gathering l.registry.instances (flat_map refs_of (take l.value-index l.values)))
