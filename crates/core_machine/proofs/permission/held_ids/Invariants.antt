use Rattle.std.proofs.Common.{◌≡◌, ◌++◌, drop}
use Rattle.core_steps.specs.Core.{held}
use Rattle.core_machine.proofs.permission.held_ids.Given as goal

abbrev pub invariant-loop-channel : goal.invariant-loop-channel
invariant-loop-channel l = l.ids.items ++ held (drop l.channel-index l.channel-items) ≡ held l.channel-items
