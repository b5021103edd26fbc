-- One of the disks is taken back.
use Rattle.std.proofs.Common.{◌∙◌, ℕ, List, [], length, get_or, map, set, ap, subst}
use Rattle.std.proofs.lemmas.Result.{IfOk-weaker, on_ok_weaker}
use Rattle.gated_log.specs.Log.{Each, payloads_of}
use Rattle.store_opening.specs.TakenBack.{IsTakenBack}
use Rattle.log_rollback.specs.Finished.{IsFinished, IsOpenAt}
use Rattle.channel.specs.Images.{Image, log_header, state_of}
use Rattle.recovery.specs.Images.{image_at}
use Rattle.disk_opening.proofs.DiskLists.{all_told, one_higher, one_rose, told_at}
use Rattle.log_rollback.proofs.HeldStill.{held_with_log}
use Rattle.log_rollback.proofs.OneDisk.{elsewhere, finished_there, left_there, only_before, only_now, open_there, others_there}
use Rattle.log_rollback.proofs.all_logs.finish_at.Goals as goal

pub finish_log-requires-clause-synced : goal.finish_log-requires-clause-synced
finish_log-requires-clause-synced g c tells = only_before g.D.Disk.reads g.D.Disk.leaves c.args.disks.now c.args.place c.index-disks-place.result c.index-disks-place.result c.requires.within 0 (c.requires.synced tells)

pub returns-clause-elsewhere : goal.returns-clause-elsewhere
returns-clause-elsewhere g c i ne = elsewhere c.args.disks.now c.args.place i c.finish_log.new.disk ne

pub returns-clause-faults : goal.returns-clause-faults
returns-clause-faults g c = one_higher g.D.Disk.faults c.args.disks.now c.args.place c.index-disks-place.result c.finish_log.new.disk c.finish_log.ensures.faults

pub returns-clause-cause : goal.returns-clause-cause
returns-clause-cause g c is = one_rose g.D.Disk.faults c.args.disks.now c.args.place c.index-disks-place.result c.finish_log.new.disk c.requires.within (c.finish_log.ensures.cause is)

pub returns-clause-calm : goal.returns-clause-calm
returns-clause-calm g c = on_ok_weaker c.finish_log.result (λ calm. all_told g.D.Disk.faults c.args.disks.now c.args.place c.index-disks-place.result c.finish_log.new.disk calm) c.finish_log.ensures.calm

pub returns-clause-others : goal.returns-clause-others
returns-clause-others g c tells = others_there g.D.Disk.reads g.D.Disk.leaves c.args.disks.now c.args.place c.index-disks-place.result c.finish_log.new.disk c.requires.within 0 (c.finish_log.ensures.others tells)

pub returns-clause-synced : goal.returns-clause-synced
returns-clause-synced g c tells = on_ok_weaker c.finish_log.result
    (λ only. only_now g.D.Disk.reads g.D.Disk.leaves c.args.disks.now c.args.place c.index-disks-place.result c.finish_log.new.disk c.requires.within 0 only) (c.finish_log.ensures.synced tells)

pub returns-clause-open_ : goal.returns-clause-open_
returns-clause-open_ g c tells = IfOk-weaker c.finish_log.result (IsOpenAt c.args.common (g.D.Disk.reads c.finish_log.new.disk 0))
    (IsOpenAt c.args.common (image_at (map g.D.Disk.reads (set c.args.disks.now c.args.place c.finish_log.new.disk)) c.args.place 0))
    (λ t is. open_there g.D.Disk.reads g.D.Disk.leaves c.args.disks.now c.args.place c.index-disks-place.result c.finish_log.new.disk c.requires.within c.args.common t is) (c.finish_log.ensures.open_ tells)

pub returns-clause-finished : goal.returns-clause-finished
returns-clause-finished g c tells =
    let read = c.requires.read tells in
    on_ok_weaker c.finish_log.result
    (λ is. finished_there g.D.Disk.reads g.D.Disk.leaves c.args.disks.now c.args.place c.index-disks-place.result c.finish_log.new.disk c.requires.within (log_header (length c.args.disks.now) c.args.place) c.args.common
    c.args.log.inventory.state read.inventory
    (subst (λ (h : List ℕ). IsFinished h c.args.common c.args.log.inventory.state (payloads_of (g.D.Disk.reads (get_or c.args.disks.now c.args.place c.index-disks-place.result) 0)) (g.D.Disk.reads c.finish_log.new.disk 0))
    c.requires.open_.header is))
    (c.finish_log.ensures.finished tells)

pub returns-clause-left : goal.returns-clause-left
returns-clause-left g c tells =
    let read = c.requires.read tells in
    left_there g.D.Disk.reads g.D.Disk.leaves c.args.disks.now c.args.place c.index-disks-place.result c.finish_log.new.disk c.requires.within (log_header (length c.args.disks.now) c.args.place) c.args.common
    c.args.log.inventory.state read.inventory
    (subst (λ (h : List ℕ). Each (g.D.Disk.leaves c.finish_log.new.disk 0)
    (IsTakenBack h c.args.common c.args.log.inventory.state (payloads_of (g.D.Disk.reads (get_or c.args.disks.now c.args.place c.index-disks-place.result) 0))))
    c.requires.open_.header (c.finish_log.ensures.left tells))

pub returns-clause-kept : goal.returns-clause-kept
returns-clause-kept g c tells what number =
    let read = c.requires.read tells in
    let was = get_or c.args.disks.now c.args.place c.index-disks-place.result in
    let same = told_at g.D.Disk.reads c.args.disks.now c.args.place c.index-disks-place.result (λ (f : ℕ). []) c.requires.within in
    held_with_log c.taking_back_keeps_what_is_held.ensures g.D.Disk.reads g.D.Disk.leaves c.args.disks.now c.args.place c.index-disks-place.result c.finish_log.new.disk c.requires.within c.args.common
    c.args.log.inventory.state (read.inventory ∙ ap (λ (i : Image). state_of i) same) (g.met.D.Disk.reads_left was 0 tells) (c.finish_log.ensures.others tells)
    (subst (λ (h : List ℕ). Each (g.D.Disk.leaves c.finish_log.new.disk 0) (IsTakenBack h c.args.common c.args.log.inventory.state (payloads_of (g.D.Disk.reads was 0)))) c.requires.open_.header (c.finish_log.ensures.left tells))
    what number
