use Rattle.shard_speed.proofs.Passes.{all_joined}
use Rattle.shard_speed.proofs.turns.turn_both.Goals as goal

pub returns-clause-joined : goal.returns-clause-joined
returns-clause-joined g c = all_joined c.args.session.known c.join-session.result.0.known c.args.worker.known c.join-session.result.1.known c.join.result.known c.requires.session c.join-session.ensures.first.1 c.requires.worker.0 c.join-session.ensures.second.1 c.join.ensures.known
