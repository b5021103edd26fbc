use Rattle.entity_region.specs.Sound.{AreAll}
use Rattle.entity_region.proofs.region.all_numbers.Given as goal

abbrev pub invariant-loop-number : goal.invariant-loop-number
invariant-loop-number l = AreAll l.number l.numbers.items
