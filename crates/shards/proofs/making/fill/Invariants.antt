use Rattle.std.proofs.Common.{◌≡◌, ◌+◌, map, length, ◌++◌, vec_capacity, Some}
use Rattle.std.specs.Prelude.{reverse as reversed}
use Rattle.shards.proofs.making.fill.Given as goal

abbrev pub invariant-loop-unit : goal.invariant-loop-unit
invariant-loop-unit g l = (map Some l.fn.units.items ≡ map Some l.units.items ++ reversed l.slots.items) × (vec_capacity l.units ≡ vec_capacity l.fn.units) × (vec_capacity l.slots ≡ vec_capacity l.fn.slots)
    × (length l.units.items + length l.slots.items ≡ length l.fn.units.items)

abbrev pub decreases-loop-unit : goal.decreases-loop-unit
decreases-loop-unit g l = goal.left-loop-unit g l
