-- The chunks of one of the disks are read.
use Rattle.std.proofs.Common.{ℕ, ◌∙◌, [], length, sym, ap}
use Rattle.std.proofs.lemmas.Option.{slice_get_read}
use Rattle.std.proofs.lemmas.Result.{on_ok_weaker}
use Rattle.gated_log.specs.Log.{payloads_of}
use Rattle.transactions_file.specs.Inventory.{State}
use Rattle.channel_files.specs.Chunks.{ranges_of}
use Rattle.channel.specs.Images.{Image}
use Rattle.disk_opening.proofs.DiskLists.{all_told, one_higher, one_rose, told_at}
use Rattle.store_opening.proofs.ChunksSoFar.{live_there}
use Rattle.store_opening.proofs.SyncedDisks.{one_leaves_no_more}
use Rattle.store_opening.proofs.chunk_files.read_at.Goals as goal

pub read_file-requires-clause-log : goal.read_file-requires-clause-log
read_file-requires-clause-log g c tells =
    let log = c.index-logs-place.result in
    let there = slice_get_read c.args.logs.now (length c.args.disks.now) c.args.place log (sym c.requires.many) c.requires.within c.index-logs-place.is in
    (c.requires.logs tells c.args.place log there).ranges
    ∙ ap (λ (i : Image). ranges_of (payloads_of (i 0))) (told_at g.D.Disk.reads c.args.disks.now c.args.place c.index-disks-place.result (λ (f : ℕ). []) c.requires.within)

pub returns-clause-synced : goal.returns-clause-synced
returns-clause-synced g c tells =
    let log = c.index-logs-place.result in
    let there = slice_get_read c.args.logs.now (length c.args.disks.now) c.args.place log (sym c.requires.many) c.requires.within c.index-logs-place.is in
    let read = c.requires.logs tells c.args.place log there in
    on_ok_weaker c.read_file.result
    (λ synced. live_there g.D.Disk.reads g.D.Disk.leaves c.args.disks.now c.args.place c.index-disks-place.result c.read_file.new.disk log.inventory.state.files c.requires.within
    (ap (λ (s : State). s.files) read.inventory) synced)
    (c.read_file.ensures.synced tells)

pub returns-clause-reads : goal.returns-clause-reads
returns-clause-reads g c tells = all_told g.D.Disk.reads c.args.disks.now c.args.place c.index-disks-place.result c.read_file.new.disk (c.read_file.ensures.reads tells)

pub returns-clause-leaves : goal.returns-clause-leaves
returns-clause-leaves g c tells = one_leaves_no_more g.D.Disk.leaves c.args.disks.now c.args.place c.index-disks-place.result c.read_file.new.disk (c.read_file.ensures.leaves tells)

pub returns-clause-faults : goal.returns-clause-faults
returns-clause-faults g c = one_higher g.D.Disk.faults c.args.disks.now c.args.place c.index-disks-place.result c.read_file.new.disk c.read_file.ensures.faults

pub returns-clause-cause : goal.returns-clause-cause
returns-clause-cause g c is = one_rose g.D.Disk.faults c.args.disks.now c.args.place c.index-disks-place.result c.read_file.new.disk c.requires.within (c.read_file.ensures.cause is)

pub returns-clause-calm : goal.returns-clause-calm
returns-clause-calm g c = on_ok_weaker c.read_file.result (λ calm. all_told g.D.Disk.faults c.args.disks.now c.args.place c.index-disks-place.result c.read_file.new.disk calm) c.read_file.ensures.calm
