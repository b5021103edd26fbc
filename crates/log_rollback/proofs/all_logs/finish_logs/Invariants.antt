-- The logs are taken back by rising channel.
use Rattle.std.proofs.Common.{◌≡◌, ◌<◌, ℕ, IsTrue, drop, length, map}
use Rattle.std.specs.Vec.Iter.{into_iter_items}
use Rattle.recovery.specs.Stored.{Stored}
use Rattle.store_opening.specs.Left.{AreSyncedBelow}
use Rattle.log_rollback.specs.Finished.{AllOthersStay, AreFinishedBelow, AreOpenAt, AreTakenBackOrNot, AreUntouchedFrom, HaveHeaders}
use Rattle.log_rollback.specs.Full.{IsFullAt}
use Rattle.log_rollback.specs.Held.{Hold}
use Rattle.log_rollback.proofs.all_logs.finish_logs.Given as goal

abbrev pub invariant-logs : goal.invariant-logs
invariant-logs g l = record {
  many : length l.disks ≡ length l.initial.disks;
  count : length l.finished.items ≡ l.place;
  rest : into_iter_items l.rest ≡ drop l.place (into_iter_items l.initial.rest);
  untouched : AreUntouchedFrom l.place l.initial.disks l.disks;
  headers : HaveHeaders (length l.initial.disks) l.finished.items;
  are_open : IsTrue g.D.Disk.tells → AreOpenAt l.common (map g.D.Disk.reads l.disks) l.finished.items;
  done : IsTrue g.D.Disk.tells → AreFinishedBelow (length l.initial.disks) l.common l.place (map g.D.Disk.reads l.initial.disks) (map g.D.Disk.reads l.disks);
  synced : IsTrue g.D.Disk.tells → AreSyncedBelow l.place 0 (map g.D.Disk.reads l.disks) (map g.D.Disk.leaves l.disks);
  left : IsTrue g.D.Disk.tells → AreTakenBackOrNot (length l.initial.disks) l.common (map g.D.Disk.reads l.initial.disks) (map g.D.Disk.leaves l.disks);
  others : IsTrue g.D.Disk.tells → AllOthersStay 0 (map g.D.Disk.reads l.initial.disks) (map g.D.Disk.reads l.disks) (map g.D.Disk.leaves l.initial.disks) (map g.D.Disk.leaves l.disks);
  not_full : IsTrue g.D.Disk.tells → (j : ℕ) → j < l.place → (bytes : ℕ) → IsFullAt l.common (map g.D.Disk.reads l.initial.disks) j bytes → ⊥;
  kept : IsTrue g.D.Disk.tells → (what : Stored) → what.number ≡ l.common → Hold (map g.D.Disk.leaves l.initial.disks) what → Hold (map g.D.Disk.leaves l.disks) what;
  calm : map g.D.Disk.faults l.disks ≡ map g.D.Disk.faults l.initial.disks;
}
