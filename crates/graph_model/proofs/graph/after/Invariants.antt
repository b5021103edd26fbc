use Rattle.std.proofs.Common.{◌≡◌, drop}
use Rattle.graph_model.specs.Graph.{after}
use Rattle.graph_model.proofs.graph.after.Given as goal

abbrev pub invariant-loop-store : goal.invariant-loop-store
invariant-loop-store l = after l.records (drop l.store-index l.store-items) ≡ after l.graph l.store-items
