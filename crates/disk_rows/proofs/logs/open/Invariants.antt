-- The opening stands within the log of file 0.
use Rattle.std.proofs.Common.{◌≡◌, ◌-◌, ◌≤◌, length}
use Rattle.store_io.specs.MemDisk.{disk_reads}
use Rattle.gated_log.specs.Reading.{IsReading}
use Rattle.disk_rows.proofs.logs.open.Given as goal

abbrev pub invariant-records : goal.invariant-records
invariant-records l = record {
  file : l.opening.file ≡ 0;
  window : 1048576 ≤ length l.window;
  reading : IsReading l.opening (disk_reads l.disk 0);
}

abbrev pub decreases-records : goal.decreases-records
decreases-records l = l.opening.len - l.opening.at
