use Rattle.std.proofs.Common.{◌≡◌}
use Rattle.core_steps.specs.Core.{in_any}
use Rattle.core_steps.specs.declared.event.Event.TheVariants.{StoreBegin}
use Rattle.shard_rows.proofs.Events.{plain_may}
use Rattle.shard_rows.proofs.Turning.{made_by}
use Rattle.shard_rows.proofs.session.begin_store.Goals as goal

pub leave_store-requires-clause-event : goal.leave_store-requires-clause-event
leave_store-requires-clause-event c = λ said. let v = c.args.turn.known in
    made_by v c.args.turn.shard c.args.turn.was c.args.monitor c.store_begin.new.self c.args.hand c.store_begin.new.hand (StoreBegin c.plain_store-2.result) c.args.log tt c.requires.was c.requires.hand
    (λ n. absurd (n c.requires.actor)) (plain_may v.desk.book (in_any v.desk.pins) v.own.actor c.plain_store-2.result c.requires.actor c.requires.plain c.plain_store-2.ensures)
    (λ n. absurd (n c.requires.actor)) (c.store_begin.ensures.event c.plain_store-2.result)
