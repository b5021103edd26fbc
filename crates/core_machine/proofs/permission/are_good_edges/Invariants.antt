use Rattle.std.proofs.Common.{◌≡◌, drop}
use Rattle.std.specs.List.{list_all}
use Rattle.graph_model.specs.Stores.{is_good_edge}
use Rattle.core_machine.proofs.permission.are_good_edges.Given as goal

abbrev pub invariant-loop-to : goal.invariant-loop-to
invariant-loop-to l = list_all (is_good_edge l.graph l.held l.op l.from) (drop l.to-index l.edges) ≡ list_all (is_good_edge l.graph l.held l.op l.from) l.edges
