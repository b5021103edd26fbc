use Rattle.std.proofs.Common.{◌≡◌, ◌++◌, take}
use Rattle.lazy_refs.specs.Walks.{wanted}
use Rattle.lazy_refs.proofs.references.push_ids.Given as goal

abbrev pub invariant-loop-id : goal.invariant-loop-id
invariant-loop-id l = l.ids.items ≡ l.initial.ids.items ++ wanted l.registry.instances (take l.id-index l.more)
