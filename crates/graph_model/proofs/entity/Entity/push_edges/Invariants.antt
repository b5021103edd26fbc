use Rattle.std.proofs.Common.{◌≡◌, ◌++◌, take, not}
use Rattle.std.specs.Prelude.{nat_eq}
use Rattle.std.specs.List.{filter}
use Rattle.graph_model.proofs.entity.Entity.push_edges.Given as goal

abbrev pub invariant-loop-id : goal.invariant-loop-id
invariant-loop-id l = l.ids.items ≡ l.initial.ids.items ++ filter (λ x. not (nat_eq x 0)) (take l.id-index l.id-items)
