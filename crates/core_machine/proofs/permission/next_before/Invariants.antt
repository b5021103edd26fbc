use Rattle.std.proofs.Common.{◌≡◌, drop}
use Rattle.graph_model.specs.Stores.{next_after}
use Rattle.core_machine.proofs.permission.next_before.Given as goal

abbrev pub invariant-loop-op : goal.invariant-loop-op
invariant-loop-op l = next_after l.next (drop l.op-index l.op-items) ≡ next_after l.initial.next l.op-items
