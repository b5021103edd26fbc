use Rattle.std.proofs.Common.{◌≤◌, take}
use Rattle.entity_region.specs.Packing.{IsListedTo}
use Rattle.entity_region.proofs.packing.note_blocks.Given as goal

abbrev pub invariant-numbers : goal.invariant-numbers
invariant-numbers l = record { few : l.noted ≤ l.number; listed : IsListedTo l.places l.number (take l.noted l.order) }
