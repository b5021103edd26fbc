-- The scan goes up from the first gap, and ends at an empty place before it is round.
use Rattle.std.proofs.Common.{◌≡◌, ◌-◌, length, count_by}
use Rattle.oid_table.specs.Distances.{distance}
use Rattle.oid_table.specs.Slots.{contents_of, is_full}
use Rattle.oid_table.proofs.GapLemmas.{IsScanned}
use Rattle.oid_table.proofs.probing.close_gap.Given as goal

abbrev pub invariant-scan : goal.invariant-scan
invariant-scan g l = record {
  scanned : IsScanned l.fn.gap l.gap l.place l.slots;
  places : l.places ≡ length l.slots;
  contents : contents_of l.slots ≡ contents_of l.fn.slots;
  count : count_by is_full l.slots ≡ count_by is_full l.fn.slots;
}

abbrev pub decreases-scan : goal.decreases-scan
decreases-scan g l = l.places - distance l.places l.fn.gap l.place
