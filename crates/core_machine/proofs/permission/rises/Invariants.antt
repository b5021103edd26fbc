use Rattle.std.proofs.Common.{◌≡◌, drop}
use Rattle.graph_model.specs.Ids.{rises_from}
use Rattle.core_machine.proofs.permission.rises.Given as goal

abbrev pub invariant-loop-id : goal.invariant-loop-id
invariant-loop-id l = rises_from l.last (drop l.id-index l.rest) ≡ rises_from l.initial.last l.rest
