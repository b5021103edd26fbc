-- The number of places doubles up to the end of `usize`.
use Rattle.std.proofs.Common.{◌-◌, ◌^◌, ◌≤◌}
use Rattle.oid_table.proofs.table.places_for.Given as goal

abbrev pub invariant-double : goal.invariant-double
invariant-double l = 8 ≤ l.places

abbrev pub decreases-double : goal.decreases-double
decreases-double l = 2 ^ 64 - l.places
