use Rattle.std.proofs.Common.{◌-◌, length}
use Rattle.entity_form.proofs.Spellings.{IsReadTo}
use Rattle.entity_form.proofs.spelling.numbers_in.Given as goal

abbrev pub invariant-loop-number : goal.invariant-loop-number
invariant-loop-number l = IsReadTo l.bytes l.numbers.items l.place

abbrev pub decreases-loop-number : goal.decreases-loop-number
decreases-loop-number l = length l.bytes - l.place
