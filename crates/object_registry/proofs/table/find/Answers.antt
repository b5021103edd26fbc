use Rattle.std.proofs.Common.{sym, ◌∙◌}
use Rattle.object_registry.proofs.EntryLemmas.{instance_at-held}
use Rattle.object_registry.proofs.table.find.Goals as goal

pub returns : goal.returns
returns c = c.get.ensures.value ∙ sym (instance_at-held c.args.table.now.entries c.args.id)
