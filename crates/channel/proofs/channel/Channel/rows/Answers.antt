use Rattle.std.proofs.Common.{sym, ap, ◌∙◌}
use Rattle.std.specs.FinMap as finite
use Rattle.channel.specs.State.{ChannelState}
use Rattle.channel.proofs.Tables.{table_length}
use Rattle.channel.proofs.channel.Channel.rows.Goals as goal

pub returns-clause-rows : goal.returns-clause-rows
returns-clause-rows g c = c.len.ensures ∙ ap (λ (s : ChannelState _). finite.len s.rows) c.self.view_is

pub returns-clause-table : goal.returns-clause-table
returns-clause-table g c = returns-clause-rows g c ∙ sym (table_length (g.D.Disk.reads c.args.self.now.files.disk) c.args.self.now.rows)
