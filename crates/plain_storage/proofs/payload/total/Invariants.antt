use Rattle.std.proofs.Common.{◌≡◌, ◌+◌, take, drop}
use Rattle.std.specs.List.{AllByRecursion}
use Rattle.graph_model.specs.Stores.{total_size}
use Rattle.plain_storage.specs.Serving.{HasSpelling}
use Rattle.plain_storage.proofs.payload.total.Given as goal

abbrev pub invariant-loop-record : goal.invariant-loop-record
invariant-loop-record l = record {
  size : l.total + total_size (drop l.record-index l.records) ≡ total_size l.records;
  spelling : AllByRecursion HasSpelling (take l.record-index l.records);
}
