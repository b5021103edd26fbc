use Rattle.std.proofs.Common.{◌≡◌, ◌+◌, take}
use Rattle.std.specs.List.{flat_map}
use Rattle.field_bytes.specs.Fields.{with_bytes}
use Rattle.graph_model.specs.Stores.{total_size}
use Rattle.plain_storage.specs.Stores.{record_bytes}
use Rattle.plain_storage.proofs.payload.put_records.Given as goal

abbrev pub invariant-loop-record : goal.invariant-loop-record
invariant-loop-record l = record {
  place : l.place ≡ l.at + total_size (take l.record-index l.records);
  written : l.out ≡ with_bytes l.fn.out l.at (flat_map record_bytes (take l.record-index l.records));
}
