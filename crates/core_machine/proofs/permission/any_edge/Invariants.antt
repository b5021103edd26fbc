use Rattle.std.proofs.Common.{◌≡◌, drop}
use Rattle.graph_model.specs.Stores.{any_edge}
use Rattle.core_machine.proofs.permission.any_edge.Given as goal

abbrev pub invariant-loop-from : goal.invariant-loop-from
invariant-loop-from l = any_edge l.graph (drop l.from-index l.ids) l.to ≡ any_edge l.graph l.ids l.to
