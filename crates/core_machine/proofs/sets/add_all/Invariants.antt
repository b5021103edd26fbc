use Rattle.std.proofs.Common.{◌≡◌, ◌≤◌, take, length}
use Rattle.graph_model.specs.Ids.{add_all}
use Rattle.core_machine.proofs.sets.add_all.Given as goal

abbrev pub invariant-loop-left : goal.invariant-loop-left
invariant-loop-left l = (l.left ≤ length l.ids) × (add_all (take l.left l.ids) l.set ≡ add_all l.ids l.initial.set)

abbrev pub decreases-loop-left : goal.decreases-loop-left
decreases-loop-left l = l.left
