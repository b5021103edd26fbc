-- As many slots as there were turns, all empty.
use Rattle.std.proofs.Common.{◌≡◌, replicate}
use Rattle.oid_table.specs.declared.slot.Slot.TheVariants.{Empty}
use Rattle.oid_table.proofs.table.empty_slots.Given as goal

abbrev pub invariant-loop-place : goal.invariant-loop-place
invariant-loop-place g l = l.slots.items ≡ replicate l._place Empty
