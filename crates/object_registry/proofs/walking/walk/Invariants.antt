use Rattle.std.proofs.Common.{◌+◌, length}
use Rattle.graph_model.proofs.Walks.{IsSearch, references_left}
use Rattle.object_registry.proofs.walking.walk.Given as goal

abbrev pub invariant-loop-id : goal.invariant-loop-id
invariant-loop-id g l = IsSearch (g.E.Edges.graph l.edges) l.starts l.found.keys l.open_ids.items

abbrev pub decreases-loop-id : goal.decreases-loop-id
decreases-loop-id g l = references_left (g.E.Edges.graph l.edges) l.found.keys + length l.open_ids.items
