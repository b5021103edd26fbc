use Rattle.std.proofs.Common.{◌≡◌, length}
use Rattle.std.specs.Ordering.{nat_cmp}
use Rattle.std.specs.BTreeMap.{IsOrdered}
use Rattle.object_registry.specs.Entries.{held_in}
use Rattle.object_registry.specs.Registered.{put_loaded}
use Rattle.object_registry.proofs.table.put_all.Given as goal

abbrev pub invariant-loop-id : goal.invariant-loop-id
invariant-loop-id l = (put_loaded l.left.items (held_in l.table.entries) ≡ put_loaded l.initial.left.items (held_in l.fn.table.entries)) × IsOrdered nat_cmp l.table

abbrev pub decreases-loop-id : goal.decreases-loop-id
decreases-loop-id l = length l.left.items
