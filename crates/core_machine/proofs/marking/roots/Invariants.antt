use Rattle.std.proofs.Common.{◌≡◌, take}
use Rattle.std.specs.List.{filter}
use Rattle.graph_model.specs.Graph.{lists}
use Rattle.core_machine.proofs.marking.roots.Given as goal

abbrev pub invariant-loop-id : goal.invariant-loop-id
invariant-loop-id l = l.found.items ≡ filter (lists l.channel.table) (take l.id-index l.id-items)
