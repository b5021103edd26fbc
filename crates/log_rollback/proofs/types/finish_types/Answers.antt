-- The dictionary log is opened on the first disk.
use Rattle.std.proofs.Common.{ℕ, List, get_or, subst}
use Rattle.std.proofs.lemmas.Result.{on_ok_weaker}
use Rattle.gated_log.specs.Log.{Each}
use Rattle.log_rollback.specs.Finished.{HasSamePayloads}
use Rattle.log_rollback.proofs.HeldStill.{held_with_types}
use Rattle.log_rollback.proofs.OneDisk.{all_others, only_before, only_now}
use Rattle.log_rollback.proofs.types.finish_types.Goals as goal

pub finish_file-requires-clause-synced : goal.finish_file-requires-clause-synced
finish_file-requires-clause-synced g c tells = only_before g.D.Disk.reads g.D.Disk.leaves c.args.disks.now 0 c.index-disks-0.result c.index-disks-0.result c.requires.some 1 (c.requires.synced tells)

pub returns-clause-synced : goal.returns-clause-synced
returns-clause-synced g c tells = on_ok_weaker c.finish_file.result
    (λ only. only_now g.D.Disk.reads g.D.Disk.leaves c.args.disks.now 0 c.index-disks-0.result c.finish_file.new.disk c.requires.some 1 only) (c.finish_file.ensures.synced tells)

pub returns-clause-others : goal.returns-clause-others
returns-clause-others g c tells = all_others g.D.Disk.reads g.D.Disk.leaves c.args.disks.now 0 c.index-disks-0.result c.finish_file.new.disk c.requires.some 1 (c.finish_file.ensures.others tells)

pub returns-clause-kept : goal.returns-clause-kept
returns-clause-kept g c tells =
    let was = get_or c.args.disks.now 0 c.index-disks-0.result in
    held_with_types c.taking_back_keeps_what_is_held.ensures g.D.Disk.reads g.D.Disk.leaves c.args.disks.now c.index-disks-0.result c.finish_file.new.disk c.requires.some
    (g.met.D.Disk.reads_left was 1 tells) (c.finish_file.ensures.others tells)
    (subst (λ (h : List ℕ). Each (g.D.Disk.leaves c.finish_file.new.disk 1) (HasSamePayloads h (g.D.Disk.reads was 1))) c.requires.header (c.finish_file.ensures.left tells))
