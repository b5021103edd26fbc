use Rattle.shard_rows.proofs.Passes.{second_not_first, two_workers}
use Rattle.shard_rows.proofs.threads.work_both.Goals as goal

pub join-requires-clause-other : goal.join-requires-clause-other
join-requires-clause-other g c = second_not_first c.args.second.known c.join-first.result.1.known c.requires.second.0 c.join-first.ensures.second.1

pub returns-clause-workers : goal.returns-clause-workers
returns-clause-workers g c = two_workers c.args.first.known c.args.second.known c.join-first.result.0.known c.join-first.result.1.known c.join.result.known c.requires.first.0 c.requires.first.1 c.requires.second.0 c.requires.second.1 c.join-first.ensures.first.1 c.join-first.ensures.second.1 c.join.ensures.known
