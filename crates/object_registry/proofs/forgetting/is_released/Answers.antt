use Rattle.std.proofs.Common.{sym, ◌∙◌}
use Rattle.object_registry.proofs.ReleasedLemmas.{released_by}
use Rattle.object_registry.proofs.forgetting.is_released.Goals as goal

pub returns-then-is_saved : goal.returns-then-is_saved
returns-then-is_saved c =
    released_by c.args.instance.now.saved c.contains.result c.args.id c.args.kept.now.keys (sym c.is_saved.ensures ∙ c.if-is_saved.true) c.contains.ensures
