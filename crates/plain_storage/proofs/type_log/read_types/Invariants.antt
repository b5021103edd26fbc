-- The payloads of a log are read one by one.
use Rattle.std.proofs.Common.{◌≡◌, ◌≤◌, ◌<◌, ◌-◌, List, [], IsTrue, length}
use Rattle.std.specs.List.{AllByRecursion}
use Rattle.gated_log.specs.Reading.{IsReading, rest_of}
use Rattle.type_desc.specs.declared.desc.TypeDesc.{TypeDesc}
use Rattle.type_dictionary.specs.Records.{IsRecorded}
use Rattle.plain_storage.specs.Types.{AreRecords}
use Rattle.plain_storage.proofs.type_log.read_types.Given as goal

abbrev pub invariant-types : goal.invariant-types
invariant-types g l = record {
  window : length l.window ≡ length l.initial.window;
  file : l.opening.file ≡ 1;
  header : l.opening.header ≡ l.initial.opening.header;
  within : IsTrue g.D.Disk.tells → 9 < l.opening.len → l.opening.at < l.opening.len;
  recorded : AllByRecursion IsRecorded l.types;
  few : length l.types ≤ 65536;
  reading : IsTrue g.D.Disk.tells → IsReading l.opening (g.D.Disk.reads l.disk 1);
  so_far : IsTrue g.D.Disk.tells → (all : List TypeDesc) → AreRecords l.types (rest_of l.opening (g.D.Disk.reads l.disk 1)) all
      → AreRecords [] (rest_of l.initial.opening (g.D.Disk.reads l.initial.disk 1)) all;
  left : IsTrue g.D.Disk.tells → (all : List TypeDesc) → AreRecords [] (rest_of l.initial.opening (g.D.Disk.reads l.initial.disk 1)) all
      → AreRecords l.types (rest_of l.opening (g.D.Disk.reads l.disk 1)) all;
  reads : IsTrue g.D.Disk.tells → g.D.Disk.reads l.disk ≡ g.D.Disk.reads l.initial.disk;
  leaves : IsTrue g.D.Disk.tells → g.D.Disk.leaves l.disk ≡ g.D.Disk.leaves l.initial.disk;
  faults : g.D.Disk.faults l.initial.disk ≤ g.D.Disk.faults l.disk;
}

abbrev pub decreases-types : goal.decreases-types
decreases-types g l = l.opening.len - l.opening.at
