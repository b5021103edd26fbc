use Rattle.shard_rows.proofs.Passes.{one_joined}
use Rattle.shard_rows.proofs.threads.join_and_close.Goals as goal

pub close-requires-clause-joined : goal.close-requires-clause-joined
close-requires-clause-joined c = one_joined c.args.session.known c.args.worker.known c.join-session.result.known c.requires.session.1 c.requires.session.2 c.requires.worker.0 c.join-session.ensures.known
