use Rattle.std.proofs.Common.{◌≡◌, ◌+◌, ◌-◌, ◌^◌, min, take}
use Rattle.std.specs.Prelude.{sum_by}
use Rattle.entity_form.specs.Values.{value_size}
use Rattle.entity_form.proofs.writing.size_of.Given as goal

abbrev pub invariant-loop-value : goal.invariant-loop-value
invariant-loop-value l = l.size ≡ min (32 + sum_by value_size (take l.value-index l.values)) (2 ^ 64 - 1)
