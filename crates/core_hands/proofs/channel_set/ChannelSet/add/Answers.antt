use Rattle.std.proofs.Common.{◌<◌, length, arith}
use Rattle.core_hands.proofs.Sets.{add_flag}
use Rattle.core_hands.proofs.channel_set.ChannelSet.add.Goals as goal

pub returns : goal.returns
returns c =
    let within : c.args.channel < length c.self.inside.flags = omega arith in
    rw (← c.self.view_is) (add_flag c.args.channel c.self.inside.flags within)
