use Rattle.std.proofs.Common.{◌≡◌, take}
use Rattle.graph_model.specs.Graph.{ids}
use Rattle.core_machine.proofs.sets.ids_of.Given as goal

abbrev pub invariant-loop-record : goal.invariant-loop-record
invariant-loop-record l = l.found.items ≡ ids (take l.record-index l.record-items)
