use Rattle.std.proofs.Common.{◌≡◌, replicate, None}
use Rattle.entity_region.proofs.region.no_places.Given as goal

abbrev pub invariant-loop-number : goal.invariant-loop-number
invariant-loop-number l = l.places.items ≡ replicate l._number None
