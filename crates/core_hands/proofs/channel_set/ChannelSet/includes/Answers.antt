use Rattle.std.proofs.Common.{◌∙◌, ◌≤◌, length, arith}
use Rattle.core_hands.proofs.Sets.{includes_flags}
use Rattle.core_hands.proofs.channel_set.ChannelSet.includes.Goals as goal

pub returns : goal.returns
returns c =
    let within : length c.other.inside.flags ≤ length c.self.inside.flags = omega arith in
    rw (← c.self.view_is, ← c.other.view_is) (c.are_set.ensures ∙ includes_flags c.self.inside.flags c.other.inside.flags within)
