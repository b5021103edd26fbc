use Rattle.std.proofs.Common.{◌≡◌, sym}
use Rattle.core_steps.specs.Core.{in_any}
use Rattle.shard_rows.proofs.Events.{free_may, free_worker}
use Rattle.shard_rows.proofs.Turning.{made_by}
use Rattle.shard_rows.proofs.working.work_on_monitor.Goals as goal

pub leave_as-requires-clause-event : goal.leave_as-requires-clause-event
leave_as-requires-clause-event c = λ said. let v = c.args.turn.known in let made = c.monitor_event-event in let e = made.result in (
  e,
  sym c.kind_of-kind.ensures,
  made_by v c.args.turn.shard c.args.turn.was c.args.monitor made.new.monitor c.args.hand made.new.hand e c.args.log tt c.requires.was c.requires.hand
      (λ n. made.ensures.worker) (free_may v.desk.book (in_any v.desk.pins) v.own.actor e (free_worker e made.ensures.worker))
      (λ n. made.ensures.early) made.ensures.step,
)
