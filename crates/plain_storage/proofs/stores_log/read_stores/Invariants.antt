-- The payloads of a log are read one by one.
use Rattle.std.proofs.Common.{◌≡◌, ◌≤◌, ◌<◌, ◌-◌, ◌+◌, ℕ, [], IsTrue, length}
use Rattle.graph_model.specs.Graph.{Graph}
use Rattle.gated_log.specs.Reading.{IsReading, rest_of}
use Rattle.plain_storage.specs.Reading.{AreStores, IsRightGraph}
use Rattle.plain_storage.proofs.stores_log.read_stores.Given as goal

abbrev pub invariant-stores : goal.invariant-stores
invariant-stores g l = record {
  window : length l.window ≡ length l.initial.window;
  file : l.opening.file ≡ 0;
  header : l.opening.header ≡ l.initial.opening.header;
  within : IsTrue g.D.Disk.tells → 9 < l.opening.len → l.opening.at < l.opening.len;
  right : IsRightGraph l.next_id l.graph;
  reading : IsTrue g.D.Disk.tells → IsReading l.opening (g.D.Disk.reads l.disk 0);
  so_far : IsTrue g.D.Disk.tells → (last : ℕ) (new : Graph) → AreStores (l.opening.count + 1) l.next_id (rest_of l.opening (g.D.Disk.reads l.disk 0)) last l.graph new
      → AreStores 1 1024 (rest_of l.initial.opening (g.D.Disk.reads l.initial.disk 0)) last [] new;
  left : IsTrue g.D.Disk.tells → (last : ℕ) (new : Graph) → AreStores 1 1024 (rest_of l.initial.opening (g.D.Disk.reads l.initial.disk 0)) last [] new
      → AreStores (l.opening.count + 1) l.next_id (rest_of l.opening (g.D.Disk.reads l.disk 0)) last l.graph new;
  reads : IsTrue g.D.Disk.tells → g.D.Disk.reads l.disk ≡ g.D.Disk.reads l.initial.disk;
  leaves : IsTrue g.D.Disk.tells → g.D.Disk.leaves l.disk ≡ g.D.Disk.leaves l.initial.disk;
  faults : g.D.Disk.faults l.initial.disk ≤ g.D.Disk.faults l.disk;
}

abbrev pub decreases-stores : goal.decreases-stores
decreases-stores g l = l.opening.len - l.opening.at
