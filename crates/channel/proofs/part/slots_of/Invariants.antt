use Rattle.std.proofs.Common.{◌≡◌, map, take}
use Rattle.std.specs.List.{AllByRecursion}
use Rattle.channel.specs.Entities.{header_for}
use Rattle.channel.specs.Parts.{IsRightRecord, headers_in}
use Rattle.channel.proofs.part.slots_of.Given as goal

abbrev pub invariant-loop-record : goal.invariant-loop-record
invariant-loop-record l = record {
  headers : headers_in l.slots.items ≡ map header_for (take l.record-index l.records);
  right : AllByRecursion IsRightRecord (take l.record-index l.records);
}
