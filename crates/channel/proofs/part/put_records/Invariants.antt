use Rattle.std.proofs.Common.{◌≡◌, take}
use Rattle.field_bytes.specs.Fields.{with_bytes}
use Rattle.graph_model.specs.Stores.{total_size}
use Rattle.channel.specs.Entities.{chunk_for}
use Rattle.channel.proofs.part.put_records.Given as goal

abbrev pub invariant-loop-record : goal.invariant-loop-record
invariant-loop-record l = record {
  place : l.place ≡ total_size (take l.record-index l.records);
  written : l.out ≡ with_bytes l.fn.out 0 (chunk_for (take l.record-index l.records));
}
