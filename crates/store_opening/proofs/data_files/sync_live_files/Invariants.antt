-- The files are synced one by one.
use Rattle.std.proofs.Common.{◌≡◌, ◌≤◌, IsTrue}
use Rattle.store_opening.specs.Left.{LeavesNoMore}
use Rattle.store_opening.proofs.LiveFiles.{AreFrontSynced}
use Rattle.store_opening.proofs.data_files.sync_live_files.Given as goal

abbrev pub invariant-files : goal.invariant-files
invariant-files g l = record {
  synced : IsTrue g.D.Disk.tells → AreFrontSynced (g.D.Disk.reads l.initial.disk) (g.D.Disk.leaves l.disk) l.file-items l.file-index;
  reads : IsTrue g.D.Disk.tells → g.D.Disk.reads l.disk ≡ g.D.Disk.reads l.initial.disk;
  leaves : IsTrue g.D.Disk.tells → LeavesNoMore (g.D.Disk.leaves l.initial.disk) (g.D.Disk.leaves l.disk);
  faults : g.D.Disk.faults l.initial.disk ≤ g.D.Disk.faults l.disk;
  calm : g.D.Disk.faults l.disk ≡ g.D.Disk.faults l.initial.disk;
}
