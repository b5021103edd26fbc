-- The records of a dictionary log are read one by one.
use Rattle.std.proofs.Common.{◌≡◌, ◌≤◌, ◌<◌, ◌-◌, IsTrue, length}
use Rattle.gated_log.specs.Reading.{IsReading, rest_of}
use Rattle.disk_opening.specs.TypesReading.{HasPassedTypes}
use Rattle.disk_opening.proofs.type_log.read_types.Given as goal

abbrev pub invariant-types : goal.invariant-types
invariant-types g l = record {
  window : length l.window ≡ length l.initial.window;
  file : l.opening.file ≡ 1;
  header : l.opening.header ≡ l.initial.opening.header;
  counted : l.opening.count ≡ length l.dictionary;
  within : IsTrue g.D.Disk.tells → 9 < l.opening.len → l.opening.at < l.opening.len;
  reading : IsTrue g.D.Disk.tells → IsReading l.opening (g.D.Disk.reads l.disk 1);
  passed : IsTrue g.D.Disk.tells → HasPassedTypes (rest_of l.initial.opening (g.D.Disk.reads l.initial.disk 1)) (rest_of l.opening (g.D.Disk.reads l.disk 1)) l.dictionary;
  reads : IsTrue g.D.Disk.tells → g.D.Disk.reads l.disk ≡ g.D.Disk.reads l.initial.disk;
  leaves : IsTrue g.D.Disk.tells → g.D.Disk.leaves l.disk ≡ g.D.Disk.leaves l.initial.disk;
  faults : g.D.Disk.faults l.initial.disk ≤ g.D.Disk.faults l.disk;
  calm : g.D.Disk.faults l.disk ≡ g.D.Disk.faults l.initial.disk;
}

abbrev pub decreases-types : goal.decreases-types
decreases-types g l = l.opening.len - l.opening.at
