use Rattle.std.proofs.Common.{◌≡◌}
use Rattle.shard_rows.specs.Units.{IsAlike}
use Rattle.shard_rows.proofs.session.serve.Given as goal

abbrev pub invariant-loop-turn : goal.invariant-loop-turn
invariant-loop-turn g l = (l.pass.table ≡ l.fn.shards.table) × IsAlike l.fn.pass.known l.pass.known
