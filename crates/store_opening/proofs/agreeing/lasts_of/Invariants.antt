-- The ends of the logs so far.
use Rattle.std.proofs.Common.{◌≡◌, map, take}
use Rattle.store_opening.specs.LogsRead.{last_in}
use Rattle.store_opening.proofs.agreeing.lasts_of.Given as goal

abbrev pub invariant-logs : goal.invariant-logs
invariant-logs l = l.lasts.items ≡ map last_in (take l.log-index l.logs)
