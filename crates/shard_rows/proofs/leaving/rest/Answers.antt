use Rattle.std.proofs.Common.{None}
use Rattle.shard_rows.specs.Units.{told_of}
use Rattle.shard_rows.proofs.Turning.{alike, stays}
use Rattle.shard_rows.proofs.leaving.rest.Goals as goal

pub back-requires-clause-returns : goal.back-requires-clause-returns
back-requires-clause-returns c = stays _ c.args.turn.was c.args.unit _

pub back-requires-clause-same : goal.back-requires-clause-same
back-requires-clause-same c = λ said. (c.requires.same said, tt)

pub returns-clause-alike : goal.returns-clause-alike
returns-clause-alike c = alike c.args.turn.known _ c.args.turn.shard (told_of c.args.turn.was) (told_of c.args.unit) c.args.hand None c.back.ensures.known (λ said plain. plain)
