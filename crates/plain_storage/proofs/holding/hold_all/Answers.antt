use Rattle.plain_storage.proofs.HeldIds.{held_more}
use Rattle.plain_storage.proofs.holding.hold_all.Goals as goal

pub loop-id-preserved : goal.loop-id-preserved
loop-id-preserved c = held_more c.args.ids.now c.loop-id.id-index c.args.held.now c.loop-id.held c.insert.new.self c.loop-id-test.true c.loop-id.invariant c.in_ok-insert.ensures.updates
