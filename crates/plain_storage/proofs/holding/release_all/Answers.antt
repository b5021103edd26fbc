use Rattle.plain_storage.proofs.HeldIds.{released_more}
use Rattle.plain_storage.proofs.holding.release_all.Goals as goal

pub loop-id-preserved : goal.loop-id-preserved
loop-id-preserved c = released_more c.args.ids.now c.loop-id.id-index c.args.held.now c.loop-id.held c.remove.new.self c.loop-id-test.true c.loop-id.invariant c.remove.ensures.updates
