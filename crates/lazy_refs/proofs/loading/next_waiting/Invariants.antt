use Rattle.std.proofs.Common.{length}
use Rattle.lazy_refs.proofs.Waiting.{IsLeft}
use Rattle.lazy_refs.proofs.loading.next_waiting.Given as goal

abbrev pub invariant-loop-id : goal.invariant-loop-id
invariant-loop-id l = IsLeft l.done.keys l.initial.waiting.items l.waiting.items

abbrev pub decreases-loop-id : goal.decreases-loop-id
decreases-loop-id l = length l.waiting.items
