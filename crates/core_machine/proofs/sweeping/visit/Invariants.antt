use Rattle.std.proofs.Common.{◌≡◌, drop}
use Rattle.core_steps.specs.Rows.{visit}
use Rattle.core_machine.proofs.sweeping.visit.Given as goal

abbrev pub invariant-loop-id : goal.invariant-loop-id
invariant-loop-id l = visit (drop l.id-index l.id-items) (l.channel, l.left) ≡ visit l.id-items (l.initial.channel, l.initial.left)
