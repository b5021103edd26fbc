use Rattle.std.proofs.Common.{◌≡◌, ◌+◌, map, length, ◌++◌, vec_capacity, Some, List}
use Rattle.std.specs.Prelude.{reverse as reversed}
use Rattle.shards.proofs.making.refill.Given as goal

abbrev pub invariant-loop-slot : goal.invariant-loop-slot
invariant-loop-slot g l = (l.fn.slots.items ≡ l.slots.items ++ map Some (reversed l.units.items)) × (vec_capacity l.units ≡ vec_capacity l.fn.units)
    × (length l.slots.items + length l.units.items ≡ length l.fn.slots.items) × ((us : List g.row.C.Denot) × (l.slots.items ≡ map Some us))

abbrev pub decreases-loop-slot : goal.decreases-loop-slot
decreases-loop-slot g l = goal.left-loop-slot g l
