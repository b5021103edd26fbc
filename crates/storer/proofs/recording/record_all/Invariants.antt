use Rattle.std.proofs.Common.{◌≡◌, ◌<◌, true, None, length, map}
use Rattle.std.specs.Map.Iter.{deref}
use Rattle.graph_model.specs.Ids.{rises}
use Rattle.object_registry.specs.Registered.{instance_ids}
use Rattle.storer.specs.Faults.{first_big}
use Rattle.storer.specs.Gathered.{records_at}
use Rattle.storer.proofs.recording.record_all.Given as goal

abbrev pub invariant-loop-id : goal.invariant-loop-id
invariant-loop-id l = (l.records.items ≡ records_at l.registry.instances (map deref l.yielded)) × (first_big l.records.items ≡ None) × (0 < length l.yielded → rises (instance_ids l.registry.instances) ≡ true)
