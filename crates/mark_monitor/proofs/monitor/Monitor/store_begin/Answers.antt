use Rattle.mark_monitor.specs.contracts.monitor.Monitor.{the_view}
use Rattle.mark_monitor.proofs.Events.{begins_store}
use Rattle.mark_monitor.proofs.monitor.Monitor.store_begin.Goals as goal

pub returns-clause-event : goal.returns-clause-event
returns-clause-event c = λ op.
    let none = rw (← c.self.view_is) at c.requires.none_open in
    let room = rw (← c.self.view_is) at c.requires.room in
    rw (← c.self.view_is, c.see.ensures, c.open_store.ensures, c.below.ensures, c.len.ensures.count)
    (begins_store (the_view c.self.inside) c.args.hand.now op none room)
