use Rattle.std.proofs.Common.{◌≡◌, ℕ, ◌||◌, length}
use Rattle.graph_model.specs.Graph.{ids, put_all}
use Rattle.graph_model.specs.Ids.{has}
use Rattle.plain_storage.proofs.holding.take_all.Given as goal

abbrev pub invariant-loop-record : goal.invariant-loop-record
invariant-loop-record l = record {
  graph : put_all l.records.items l.graph ≡ put_all l.fn.records l.fn.graph;
  held : (x : ℕ) → (has x (ids l.records.items) || has x l.held.keys) ≡ (has x (ids l.fn.records) || has x l.fn.held.keys);
}

abbrev pub decreases-loop-record : goal.decreases-loop-record
decreases-loop-record l = length l.records.items
