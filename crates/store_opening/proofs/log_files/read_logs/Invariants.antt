-- The logs are read by rising channel.
use Rattle.std.proofs.Common.{◌≡◌, IsTrue, length, map}
use Rattle.store_opening.specs.Left.{AreSyncedBelow, LeaveNoMore}
use Rattle.store_opening.specs.LogsRead.{AreLogsOpen, AreLogsRead}
use Rattle.store_opening.proofs.log_files.read_logs.Given as goal

abbrev pub invariant-logs : goal.invariant-logs
invariant-logs g l = record {
  window : length l.window ≡ length l.initial.window;
  many : length l.disks ≡ length l.initial.disks;
  count : length l.logs.items ≡ l.place;
  are_open : AreLogsOpen (length l.initial.disks) l.logs.items;
  read : IsTrue g.D.Disk.tells → AreLogsRead (length l.initial.disks) (map g.D.Disk.reads l.initial.disks) l.logs.items;
  synced : IsTrue g.D.Disk.tells → AreSyncedBelow l.place 0 (map g.D.Disk.reads l.initial.disks) (map g.D.Disk.leaves l.disks);
  reads : IsTrue g.D.Disk.tells → map g.D.Disk.reads l.disks ≡ map g.D.Disk.reads l.initial.disks;
  leaves : IsTrue g.D.Disk.tells → LeaveNoMore (map g.D.Disk.leaves l.initial.disks) (map g.D.Disk.leaves l.disks);
  calm : map g.D.Disk.faults l.disks ≡ map g.D.Disk.faults l.initial.disks;
}
