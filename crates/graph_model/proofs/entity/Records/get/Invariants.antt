use Rattle.std.proofs.Common.{◌≡◌, drop}
use Rattle.graph_model.specs.Graph.{entity_of}
use Rattle.graph_model.proofs.entity.Records.get.Given as goal

abbrev pub invariant-loop-record : goal.invariant-loop-record
invariant-loop-record l = entity_of (drop l.record-index l.record-items) l.id ≡ entity_of l.self l.id
