use Rattle.std.proofs.Common.{◌≡◌, take}
use Rattle.std.specs.List.{flat_map, AllByRecursion}
use Rattle.entity_form.specs.Values.{refs_of, plain_of, IsHeld}
use Rattle.entity_form.proofs.writing.encode.Given as goal

abbrev pub invariant-loop-value : goal.invariant-loop-value
invariant-loop-value l = record {
  refs : l.refs.items ≡ flat_map refs_of (take l.value-index l.values);
  plain : l.plain.items ≡ flat_map plain_of (take l.value-index l.values);
  held : AllByRecursion IsHeld (take l.value-index l.values);
}
