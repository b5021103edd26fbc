use Rattle.std.proofs.Common.{◌≡◌, replicate}
use Rattle.core_steps.specs.Core.{new_hand}
use Rattle.core_machine.proofs.starting.start_hands.Given as goal

abbrev pub invariant-loop-actor : goal.invariant-loop-actor
invariant-loop-actor l = l.hands.items ≡ replicate l._actor new_hand
