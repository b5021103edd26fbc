use Rattle.std.proofs.Common.{◌≡◌, sym}
use Rattle.core_steps.specs.Core.{in_any}
use Rattle.shard_rows.proofs.Events.{free_may}
use Rattle.shard_rows.proofs.Turning.{made_by}
use Rattle.shard_rows.proofs.session.serve_on_monitor.Goals as goal

pub leave_as-requires-clause-event : goal.leave_as-requires-clause-event
leave_as-requires-clause-event c = λ said. let v = c.args.turn.known in let e = c.session_event-event.result in (
  e,
  sym c.kind_of-kind.ensures,
  made_by v c.args.turn.shard c.args.turn.was c.args.monitor c.session_event-event.new.monitor c.args.hand c.session_event-event.new.hand e c.args.log tt c.requires.was c.requires.hand
      (λ n. absurd (n c.requires.actor)) (free_may v.desk.book (in_any v.desk.pins) v.own.actor e c.session_event-event.ensures.free)
      (λ n. absurd (n c.requires.actor)) c.session_event-event.ensures.step,
)
