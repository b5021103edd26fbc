use Rattle.std.proofs.Common.{◌≡◌, ℕ, ◌<◌, false, get_or, take, map, vec_capacity, Some}
use Rattle.std.specs.Mem.Slots.{slots_filled, slots_items, slots_len}
use Rattle.std.specs.Mem.Slots.Ownership.{Filled}
use Rattle.shards.proofs.closing.take_units.Given as goal

abbrev pub invariant-loop-place : goal.invariant-loop-place
invariant-loop-place g l = (slots_len l.closed.slots ≡ slots_len l.initial.closed.slots) × (slots_items l.closed.slots ≡ slots_items l.initial.closed.slots)
    × Filled (slots_filled l.closed.slots) l.place (slots_len l.closed.slots) × ((k : ℕ) → k < l.place → get_or (slots_filled l.closed.slots) k false ≡ false)
    × (map Some l.units.items ≡ take l.place (slots_items l.initial.closed.slots)) × (vec_capacity l.units ≡ vec_capacity l.initial.units)
