-- The chunks of a log are read one by one.
use Rattle.std.proofs.Common.{◌≡◌, ◌≤◌, IsTrue, map, take}
use Rattle.disk_opening.specs.Indexes.{HasRowsOfIds, IsReadTo}
use Rattle.disk_opening.specs.Ranges.{range_in}
use Rattle.disk_opening.proofs.channel_chunks.read_chunks.Given as goal

abbrev pub invariant-chunks : goal.invariant-chunks
invariant-chunks g l = record {
  read : IsTrue g.D.Disk.tells → IsReadTo l.fn.channels l.fn.channel l.fn.next_id l.fn.number (g.D.Disk.reads l.initial.disk) (map range_in (take l.range-index l.range-items)) l.index.contents;
  rows : HasRowsOfIds l.index.contents;
  reads : IsTrue g.D.Disk.tells → g.D.Disk.reads l.disk ≡ g.D.Disk.reads l.initial.disk;
  leaves : IsTrue g.D.Disk.tells → g.D.Disk.leaves l.disk ≡ g.D.Disk.leaves l.initial.disk;
  faults : g.D.Disk.faults l.initial.disk ≤ g.D.Disk.faults l.disk;
  calm : g.D.Disk.faults l.disk ≡ g.D.Disk.faults l.initial.disk;
}
