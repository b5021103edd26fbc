-- The table has an id where it has a row.
use Rattle.std.proofs.Common.{◌≡◌, is_some, sym, ◌∙◌, rules}
use Rattle.std.specs.FinMap.{get}
use Rattle.channel.proofs.Lookups.{lists_row}
use Rattle.channel.proofs.channel.Channel.has.Goals as goal

pub returns : goal.returns
returns g c =
    let same : c.is_some.result ≡ is_some (get c.self.inside.index.contents c.args.id) = search rules in
    rw (← c.self.view_is) (same ∙ sym (lists_row (g.D.Disk.reads c.self.inside.files.disk) c.self.inside.index.contents c.args.id))
