use Rattle.std.proofs.Common.{◌≡◌, sym}
use Rattle.core_steps.specs.Steps.{place_in}
use Rattle.shard_rows.proofs.Events.{next_plain, place_plain}
use Rattle.shard_rows.proofs.Turning.{made_on}
use Rattle.shard_rows.proofs.session.serve_on_channel.Goals as goal

pub leave_as-requires-clause-event : goal.leave_as-requires-clause-event
leave_as-requires-clause-event c = λ said. let v = c.args.turn.known in let made = c.session_part in let e = c.in-Some.event in (
  e,
  sym c.kind_of-kind.ensures,
  made_on v c.args.turn.shard c.args.turn.was c.args.channel made.new.channel c.args.hand made.new.hand e c.args.log tt c.requires.was c.requires.hand
      (λ n. absurd (n c.requires.actor)) c.in-Some.ensures.free (next_plain v.desk.book e c.requires.plain)
      (c.in-Some.ensures.step (place_in v.channels v.desk.book c.args.turn.shard) (sym c.shard-shard.ensures) (place_plain v.channels c.args.turn.shard v.desk.book c.requires.plain)),
)
