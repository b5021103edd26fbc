-- The records of a log are read one by one.
use Rattle.std.proofs.Common.{◌≡◌, ◌≤◌, ◌<◌, ◌-◌, IsTrue, length}
use Rattle.gated_log.specs.Reading.{IsReading, rest_of}
use Rattle.disk_opening.specs.LogReading.{HasPassed}
use Rattle.disk_opening.proofs.logs.read_entries.Given as goal

abbrev pub invariant-entries : goal.invariant-entries
invariant-entries g l = record {
  window : length l.window ≡ length l.initial.window;
  file : l.opening.file ≡ 0;
  header : l.opening.header ≡ l.initial.opening.header;
  within : IsTrue g.D.Disk.tells → 9 < l.opening.len → l.opening.at < l.opening.len;
  reading : IsTrue g.D.Disk.tells → IsReading l.opening (g.D.Disk.reads l.disk 0);
  passed : IsTrue g.D.Disk.tells → HasPassed (rest_of l.initial.opening (g.D.Disk.reads l.initial.disk 0)) (rest_of l.opening (g.D.Disk.reads l.disk 0)) l.opening.count l.inventory.state l.ranges;
  reads : IsTrue g.D.Disk.tells → g.D.Disk.reads l.disk ≡ g.D.Disk.reads l.initial.disk;
  leaves : IsTrue g.D.Disk.tells → g.D.Disk.leaves l.disk ≡ g.D.Disk.leaves l.initial.disk;
  faults : g.D.Disk.faults l.initial.disk ≤ g.D.Disk.faults l.disk;
  calm : g.D.Disk.faults l.disk ≡ g.D.Disk.faults l.initial.disk;
}

abbrev pub decreases-entries : goal.decreases-entries
decreases-entries g l = l.opening.len - l.opening.at
