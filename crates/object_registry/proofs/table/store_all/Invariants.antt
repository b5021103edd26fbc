use Rattle.std.proofs.Common.{◌≡◌, take}
use Rattle.std.specs.Ordering.{nat_cmp}
use Rattle.std.specs.BTreeMap.{IsOrdered}
use Rattle.session_model.specs.Answer.{saved_instances}
use Rattle.object_registry.specs.Entries.{held_in}
use Rattle.object_registry.proofs.table.store_all.Given as goal

abbrev pub invariant-loop-id : goal.invariant-loop-id
invariant-loop-id l = (held_in l.table.entries ≡ saved_instances (held_in l.fn.table.entries) (take l.id-index l.ids)) × IsOrdered nat_cmp l.table
