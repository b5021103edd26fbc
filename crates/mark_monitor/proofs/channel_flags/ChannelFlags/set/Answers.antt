use Rattle.std.proofs.Common.{true}
use Rattle.std.proofs.Math.Seq.{take-set-lt}
use Rattle.mark_monitor.proofs.channel_flags.ChannelFlags.set.Goals as goal

pub returns-then-place-self : goal.returns-then-place-self
returns-then-place-self c = rw (← c.self.view_is) (take-set-lt c.self.inside.count c.self.inside.flags c.args.channel true c.if-place-self.true)
