use Rattle.std.proofs.Common.{◌≡◌, ◌+◌, ◌*◌, ◌∷◌, take}
use Rattle.std.specs.List.{flat_map}
use Rattle.field_bytes.specs.Fields.{bytes_of}
use Rattle.tx_entry.specs.Kinds.{byte_of}
use Rattle.tx_entry.proofs.write.put.Given as goal

abbrev pub invariant-loop-number : goal.invariant-loop-number
invariant-loop-number l = record {
  place : l.at ≡ 1 + 8 * l.number-index;
  spelled : take l.at l.out ≡ byte_of l.fn.kind ∷ flat_map (bytes_of 8) (take l.number-index l.fn.fields);
}
