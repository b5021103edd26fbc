use Rattle.std.proofs.Common.{◌≡◌, ◌++◌, take}
use Rattle.object_registry.specs.References.{without_none}
use Rattle.storer.specs.Gathered.{taken}
use Rattle.storer.proofs.edges.push_ids.Given as goal

abbrev pub invariant-loop-id : goal.invariant-loop-id
invariant-loop-id l = l.ids.items ≡ l.initial.ids.items ++ without_none (taken l.gathering l.registry.instances (take l.id-index l.named))
