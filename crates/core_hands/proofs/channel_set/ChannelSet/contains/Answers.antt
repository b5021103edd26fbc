use Rattle.std.proofs.Common.{◌≤◌, ◌∙◌, length, sym, arith}
use Rattle.std.proofs.lemmas.Bool.{le-ltb}
use Rattle.core_hands.proofs.Sets.{has_flag, has_past}
use Rattle.core_hands.proofs.channel_set.ChannelSet.contains.Goals as goal

pub returns-then-place-lt-CHANNEL_LIMIT : goal.returns-then-place-lt-CHANNEL_LIMIT
returns-then-place-lt-CHANNEL_LIMIT c = rw (← c.self.view_is) (sym (has_flag c.args.channel c.self.inside.flags))

pub returns-else-place-lt-CHANNEL_LIMIT : goal.returns-else-place-lt-CHANNEL_LIMIT
returns-else-place-lt-CHANNEL_LIMIT c =
    let past : length c.self.inside.flags ≤ c.args.channel = omega arith in
    rw (← c.self.view_is) (le-ltb c.args.channel 64 c.if-place-lt-CHANNEL_LIMIT.false ∙ sym (has_past c.args.channel c.self.inside.flags past))
