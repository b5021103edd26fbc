use Rattle.std.proofs.Common.{◌≡◌}
use Rattle.shard_speed.specs.Passes.{IsAlike}
use Rattle.shard_speed.proofs.turns.turn_often.Given as goal

abbrev pub invariant-loop : goal.invariant-loop
invariant-loop g l = (l.pass.table ≡ l.fn.shards.table) × IsAlike l.fn.pass.known l.pass.known
