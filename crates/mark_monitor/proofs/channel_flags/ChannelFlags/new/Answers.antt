use Rattle.std.proofs.Common.{true}
use Rattle.std.proofs.lemmas.List.{take-replicate}
use Rattle.mark_monitor.proofs.channel_flags.ChannelFlags.new.Goals as goal

pub returns : goal.returns
returns c = take-replicate c.args.count 64 true c.requires
