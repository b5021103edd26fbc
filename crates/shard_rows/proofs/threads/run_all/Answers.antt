use Rattle.shard_rows.proofs.Passes.{all_joined, worker_not_first}
use Rattle.shard_rows.proofs.threads.run_all.Goals as goal

pub join-requires-clause-other : goal.join-requires-clause-other
join-requires-clause-other g c = worker_not_first c.join-session.result.1.known c.join-session.ensures.second.1

pub returns-clause-joined : goal.returns-clause-joined
returns-clause-joined g c = all_joined c.args.session.known c.join-session.result.0.known c.join-session.result.1.known c.join.result.known c.requires.session c.join-session.ensures.first.1 c.join-session.ensures.second.1 c.join.ensures.known
