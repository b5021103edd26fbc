use Rattle.std.proofs.Common.{◌≡◌}
use Rattle.shards.specs.Known.{IsLater}
use Rattle.shards.proofs.shards.Shards.enter.Given as goal

abbrev pub invariant-loop : goal.invariant-loop
invariant-loop g l = (goal.iterator-loop g).can_next l.iterator' × (goal.iterator-loop g).is_finite l.iterator' × (l.pass.table ≡ l.fn.pass.table) × IsLater l.fn.pass.known l.pass.known
