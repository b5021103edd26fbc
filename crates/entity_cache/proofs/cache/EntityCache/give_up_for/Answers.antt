use Rattle.entity_cache.proofs.HeldLemmas.{left_again}
use Rattle.entity_cache.proofs.cache.EntityCache.give_up_for.Goals as goal

pub ids-preserved : goal.ids-preserved
ids-preserved c = left_again c.args.region.now c.ids.region c.give_up.new.region c.args.self.now c.ids.self c.give_up.new.self c.ids.invariant c.give_up.ensures.left
