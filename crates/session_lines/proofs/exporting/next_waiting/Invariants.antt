use Rattle.std.proofs.Common.{ℕ, List, length}
use Rattle.graph_model.specs.Graph.{Graph}
use Rattle.session_lines.specs.Exports.{IsWalking}
use Rattle.session_lines.proofs.exporting.next_waiting.Given as goal

abbrev pub invariant-loop-id : goal.invariant-loop-id
invariant-loop-id l = (g : Graph) (starts : List ℕ) → IsWalking g starts l.seen.keys l.initial.waiting.items → IsWalking g starts l.seen.keys l.waiting.items

abbrev pub decreases-loop-id : goal.decreases-loop-id
decreases-loop-id l = length l.waiting.items
