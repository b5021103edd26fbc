use Rattle.std.proofs.Common.{◌≡◌, ◌+◌, ◌*◌, take}
use Rattle.field_bytes.specs.Fields.{with_bytes}
use Rattle.entity_form.specs.Spelling.{numbers_bytes}
use Rattle.entity_form.proofs.spelling.put_numbers.Given as goal

abbrev pub invariant-loop-number : goal.invariant-loop-number
invariant-loop-number l = record {
  place : l.place ≡ l.at + 8 * l.number-index;
  written : l.out ≡ with_bytes l.initial.out l.at (numbers_bytes (take l.number-index l.numbers));
}
