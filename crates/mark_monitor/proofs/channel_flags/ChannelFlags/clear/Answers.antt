use Rattle.std.proofs.Common.{◌≤◌, length, arith}
use Rattle.mark_monitor.proofs.Flags.{front_clear}
use Rattle.mark_monitor.proofs.channel_flags.ChannelFlags.clear.Goals as goal

pub returns : goal.returns
returns c =
    let within : c.self.inside.count ≤ length c.self.inside.flags = omega arith in
    rw (← c.self.view_is) (front_clear c.self.inside.count c.self.inside.flags within c.self.invariant)
