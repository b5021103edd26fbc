use Rattle.std.proofs.Common.{◌+◌, length}
use Rattle.graph_model.proofs.Walks.{IsSearch, references_left}
use Rattle.graph_model.proofs.graph.reach.Given as goal

abbrev pub invariant-loop-id : goal.invariant-loop-id
invariant-loop-id l = IsSearch l.graph l.starts l.reached l.open_ids.items

abbrev pub decreases-loop-id : goal.decreases-loop-id
decreases-loop-id l = references_left l.graph l.reached + length l.open_ids.items
