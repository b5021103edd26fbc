use Rattle.std.proofs.Common.{◌≡◌, ℕ, nat_eq, ◌||◌}
use Rattle.std.specs.List.{filter, range_with_len}
use Rattle.core_steps.specs.Rows.{has_part}
use Rattle.core_machine.proofs.storing.store_channels.Given as goal

abbrev pub invariant-loop-channel : goal.invariant-loop-channel
invariant-loop-channel l = l.found.items ≡ filter (λ (j : ℕ). nat_eq l.format 1 || has_part l.channels l.records j) (range_with_len 0 l.channel)
