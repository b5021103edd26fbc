-- The objects are read one by one.
use Rattle.std.proofs.Common.{length}
use Rattle.graph_model.specs.Graph.{Graph}
use Rattle.plain_storage.specs.Reading.{AreObjects}
use Rattle.plain_storage.proofs.store_payload.read_objects.Given as goal

abbrev pub invariant-objects : goal.invariant-objects
invariant-objects l = record {
  so_far : (new : Graph) → AreObjects l.last l.next_id l.rest l.graph new → AreObjects 0 l.next_id l.bytes l.initial.graph new;
  left : (new : Graph) → AreObjects 0 l.next_id l.bytes l.initial.graph new → AreObjects l.last l.next_id l.rest l.graph new;
}

abbrev pub decreases-objects : goal.decreases-objects
decreases-objects l = length l.rest
