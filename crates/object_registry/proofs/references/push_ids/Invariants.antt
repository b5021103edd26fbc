use Rattle.std.proofs.Common.{◌≡◌, ◌++◌, take}
use Rattle.object_registry.specs.References.{without_none}
use Rattle.object_registry.proofs.references.push_ids.Given as goal

abbrev pub invariant-loop-id : goal.invariant-loop-id
invariant-loop-id l = l.ids.items ≡ l.initial.ids.items ++ without_none (take l.id-index l.more)
