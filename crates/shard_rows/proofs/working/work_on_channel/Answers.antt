use Rattle.std.proofs.Common.{◌≡◌, sym}
use Rattle.core_steps.specs.Steps.{place_in}
use Rattle.shard_rows.proofs.Events.{free_worker, next_worker}
use Rattle.shard_rows.proofs.Turning.{made_on}
use Rattle.shard_rows.proofs.working.work_on_channel.Goals as goal

pub leave_as-requires-clause-event : goal.leave_as-requires-clause-event
leave_as-requires-clause-event c = λ said. let v = c.args.turn.known in let made = c.channel_event in let e = c.in-Some.event in let worker = c.in-Some.ensures.worker in (
  e,
  sym c.kind_of-kind.ensures,
  made_on v c.args.turn.shard c.args.turn.was c.args.channel made.new.channel c.args.hand made.new.hand e c.args.log tt c.requires.was c.requires.hand
      (λ n. worker) (free_worker e worker) (next_worker v.desk.book e 1024 worker) (c.in-Some.ensures.step (place_in v.channels v.desk.book c.args.turn.shard) (sym c.shard-shard.ensures)),
)
