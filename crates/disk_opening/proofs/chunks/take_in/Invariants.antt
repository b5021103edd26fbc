-- The headers of a chunk are read one by one.
use Rattle.std.proofs.Common.{◌≡◌, ◌≤◌, ◌-◌, IsTrue}
use Rattle.disk_opening.specs.Indexes.{HasRowsOfIds, IsTakenIn}
use Rattle.disk_opening.proofs.chunks.take_in.Given as goal

abbrev pub invariant-headers : goal.invariant-headers
invariant-headers g l = record {
  moved : l.walk ≡ record l.initial.walk { at = l.walk.at };
  within : l.walk.at ≤ l.walk.end;
  taken : IsTrue g.D.Disk.tells → IsTakenIn l.initial.walk (g.D.Disk.reads l.initial.disk l.initial.walk.file) l.initial.index.contents l.index.contents l.walk.at;
  rows : HasRowsOfIds l.initial.index.contents → HasRowsOfIds l.index.contents;
  reads : IsTrue g.D.Disk.tells → g.D.Disk.reads l.disk ≡ g.D.Disk.reads l.initial.disk;
  leaves : IsTrue g.D.Disk.tells → g.D.Disk.leaves l.disk ≡ g.D.Disk.leaves l.initial.disk;
  faults : g.D.Disk.faults l.initial.disk ≤ g.D.Disk.faults l.disk;
  calm : g.D.Disk.faults l.disk ≡ g.D.Disk.faults l.initial.disk;
}

abbrev pub decreases-headers : goal.decreases-headers
decreases-headers g l = l.walk.end - l.walk.at
