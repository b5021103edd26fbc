use Rattle.std.proofs.Common.{◌≤◌, length, arith}
use Rattle.core_hands.proofs.Sets.{remove_flag, remove_past}
use Rattle.core_hands.proofs.channel_set.ChannelSet.remove.Goals as goal

pub returns-then-place-lt-CHANNEL_LIMIT : goal.returns-then-place-lt-CHANNEL_LIMIT
returns-then-place-lt-CHANNEL_LIMIT c = rw (← c.self.view_is) (remove_flag c.args.channel c.self.inside.flags)

pub returns-else-place-lt-CHANNEL_LIMIT : goal.returns-else-place-lt-CHANNEL_LIMIT
returns-else-place-lt-CHANNEL_LIMIT c =
    let past : length c.self.inside.flags ≤ c.args.channel = omega arith in
    rw (← c.self.view_is) (remove_past c.args.channel c.self.inside.flags past)
