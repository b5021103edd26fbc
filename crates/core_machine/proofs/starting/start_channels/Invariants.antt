use Rattle.std.proofs.Common.{◌≡◌, map}
use Rattle.std.specs.List.{range_with_len}
use Rattle.core_steps.specs.Steps.{start_channel}
use Rattle.core_machine.proofs.starting.start_channels.Given as goal

abbrev pub invariant-loop-number : goal.invariant-loop-number
invariant-loop-number l = l.made.items ≡ map (start_channel l.graph l.stores l.channels) (range_with_len 0 l.number)
