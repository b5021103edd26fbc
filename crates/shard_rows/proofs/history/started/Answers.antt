use Rattle.std.proofs.Common.{◌≡◌, ◌∙◌}
use Rattle.shard_rows.proofs.Starting.{good_started}
use Rattle.shard_rows.proofs.history.started.Goals as goal

pub returns-clause-good : goal.returns-clause-good
returns-clause-good c = good_started c.new-2.result c.args.actors c.start.result (c.new-2.ensures ∙ c.new.ensures.items) c.start.ensures
