-- One of the disks is read.
use Rattle.std.proofs.Common.{ℕ, [], length, IfOk, sym, subst}
use Rattle.std.proofs.lemmas.Result.{on_ok_weaker}
use Rattle.channel.specs.Images.{Image}
use Rattle.disk_opening.proofs.DiskLists.{all_told, one_higher, one_rose, told_at}
use Rattle.store_opening.specs.LogsRead.{IsLogRead}
use Rattle.store_opening.specs.WrongFiles.{IsWrongLog}
use Rattle.store_opening.proofs.SyncedDisks.{one_leaves_no_more, only_there}
use Rattle.store_opening.proofs.log_files.read_at.Goals as goal

pub returns-clause-read : goal.returns-clause-read
returns-clause-read g c tells = subst (λ (i : Image). IfOk c.read_file.result (IsLogRead (length c.args.disks.now) c.args.place i))
    (sym (told_at g.D.Disk.reads c.args.disks.now c.args.place c.index-disks-place.result (λ (f : ℕ). []) c.requires.within)) (c.read_file.ensures.read tells)

pub returns-clause-synced : goal.returns-clause-synced
returns-clause-synced g c tells = on_ok_weaker c.read_file.result
    (λ only. only_there g.D.Disk.reads g.D.Disk.leaves c.args.disks.now c.args.place c.index-disks-place.result c.read_file.new.disk 0 c.requires.within only)
    (c.read_file.ensures.synced tells)

pub returns-clause-damaged : goal.returns-clause-damaged
returns-clause-damaged g c tells j cause is =
    let t = c.read_file.ensures.damaged tells j cause is in
    (t.0, subst (λ (i : Image). IsWrongLog (length c.args.disks.now) c.args.place (i 0) cause) (sym (told_at g.D.Disk.reads c.args.disks.now c.args.place c.index-disks-place.result (λ (f : ℕ). []) c.requires.within)) t.1)

pub returns-clause-reads : goal.returns-clause-reads
returns-clause-reads g c tells = all_told g.D.Disk.reads c.args.disks.now c.args.place c.index-disks-place.result c.read_file.new.disk (c.read_file.ensures.reads tells)

pub returns-clause-leaves : goal.returns-clause-leaves
returns-clause-leaves g c tells = one_leaves_no_more g.D.Disk.leaves c.args.disks.now c.args.place c.index-disks-place.result c.read_file.new.disk (c.read_file.ensures.leaves tells)

pub returns-clause-faults : goal.returns-clause-faults
returns-clause-faults g c = one_higher g.D.Disk.faults c.args.disks.now c.args.place c.index-disks-place.result c.read_file.new.disk c.read_file.ensures.faults

pub returns-clause-cause : goal.returns-clause-cause
returns-clause-cause g c is = one_rose g.D.Disk.faults c.args.disks.now c.args.place c.index-disks-place.result c.read_file.new.disk c.requires.within (c.read_file.ensures.cause is)

pub returns-clause-calm : goal.returns-clause-calm
returns-clause-calm g c = on_ok_weaker c.read_file.result (λ calm. all_told g.D.Disk.faults c.args.disks.now c.args.place c.index-disks-place.result c.read_file.new.disk calm) c.read_file.ensures.calm
