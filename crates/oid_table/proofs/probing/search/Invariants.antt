-- The search has passed the places before this one, which hold other keys.
use Rattle.std.proofs.Common.{ℕ, ◌-◌, ◌<◌, length}
use Rattle.oid_table.specs.Distances.{distance, home_of}
use Rattle.oid_table.specs.Slots.{IsPassed}
use Rattle.oid_table.specs.Sound.{ComesBefore}
use Rattle.oid_table.proofs.probing.search.Given as goal

abbrev pub invariant-probe : goal.invariant-probe
invariant-probe g l = record {
  inside : l.place < l.places;
  passed : (x : ℕ) → x < length l.slots → ComesBefore l.slots l.key x l.place → IsPassed l.slots x l.key;
}

abbrev pub decreases-probe : goal.decreases-probe
decreases-probe g l = l.places - distance l.places (home_of l.places l.key) l.place
