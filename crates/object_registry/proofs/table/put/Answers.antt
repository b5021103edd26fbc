use Rattle.std.proofs.Common.{ap, sym, ◌∙◌}
use Rattle.object_registry.specs.Entries.{held_in}
use Rattle.object_registry.proofs.EntryLemmas.{put_instance-held}
use Rattle.object_registry.proofs.table.put.Goals as goal

pub returns-clause-ok : goal.returns-clause-ok
returns-clause-ok c = ap held_in c.in_ok-insert.ensures.entries ∙ sym (put_instance-held c.args.table.now.entries c.args.id c.args.instance)
