-- The chunks are read by rising channel.
use Rattle.std.proofs.Common.{◌≡◌, IsTrue, length, map}
use Rattle.store_opening.specs.Damage.{HaveChunksBelow}
use Rattle.store_opening.specs.IndexesRead.{AreIndexesAt, HaveLiveFilesSynced, HaveRowsOfIds}
use Rattle.store_opening.specs.Left.{LeaveNoMore}
use Rattle.store_opening.proofs.chunk_files.read_indexes.Given as goal

abbrev pub invariant-chunks : goal.invariant-chunks
invariant-chunks g l = record {
  many : length l.disks ≡ length l.initial.disks;
  count : length l.indexes.items ≡ l.place;
  rows : HaveRowsOfIds l.indexes.items;
  right : IsTrue g.D.Disk.tells → HaveChunksBelow (map g.D.Disk.reads l.initial.disks) l.number l.next_id l.place;
  index : IsTrue g.D.Disk.tells → AreIndexesAt l.number (map g.D.Disk.reads l.initial.disks) l.indexes.items;
  synced : IsTrue g.D.Disk.tells → HaveLiveFilesSynced l.place (map g.D.Disk.reads l.initial.disks) (map g.D.Disk.leaves l.disks);
  reads : IsTrue g.D.Disk.tells → map g.D.Disk.reads l.disks ≡ map g.D.Disk.reads l.initial.disks;
  leaves : IsTrue g.D.Disk.tells → LeaveNoMore (map g.D.Disk.leaves l.initial.disks) (map g.D.Disk.leaves l.disks);
  calm : map g.D.Disk.faults l.disks ≡ map g.D.Disk.faults l.initial.disks;
}
