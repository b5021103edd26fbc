-- The files after a restart are picked images of those before it.
use Rattle.std.proofs.Common.{ap, subst, ◌∙◌}
use Rattle.store_io.specs.Files.{leaves_of}
use Rattle.store_io.specs.MemDisk.{DiskState}
use Rattle.store_io.specs.Restart.{AllRestart}
use Rattle.store_io.proofs.Restarts.{restart_reads, restart_clean, restart_synced, picked_left}
use Rattle.store_io.proofs.mem_disk.MemDisk.restart.Goals as goal

pub returns-clause-reads : goal.returns-clause-reads
returns-clause-reads c =
    let was = c.deref.ensures.value ∙ ap (λ (d : DiskState). d.files) c.self.view_is in
    restart_reads c.args.pick _ _ (subst (λ olds. AllRestart c.args.pick olds c.in_ok-files.files.items) was c.in_ok-files.ensures)

pub returns-clause-image : goal.returns-clause-image
returns-clause-image c file =
    let reads = returns-clause-reads c in
    ap (λ r. leaves_of c.args.self.files file (r file)) reads ∙ picked_left c.args.pick c.args.self.files file

pub returns-clause-clean : goal.returns-clause-clean
returns-clause-clean c file = restart_clean c.args.pick _ _ file c.in_ok-files.ensures

pub returns-clause-synced : goal.returns-clause-synced
returns-clause-synced c = restart_synced c.args.pick _ _ c.in_ok-files.ensures
