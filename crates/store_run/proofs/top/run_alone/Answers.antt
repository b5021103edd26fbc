-- A run on the only disk of the list.
use Rattle.std.proofs.Common.{⊎_elim, inl, inr, arith}
use Rattle.plain_storage.specs.Held.{IsPlainFault}
use Rattle.plain_storage.specs.Images.{EachPair}
use Rattle.store_run.specs.Acknowledged.{acknowledged}
use Rattle.store_run.specs.Answer.{answer}
use Rattle.store_run.specs.Run.{HoldsAcknowledged, HoldsPrefix, IsCleanWith}
use Rattle.store_run.proofs.Endings.{ends_long, ends_well}
use Rattle.store_run.proofs.KeptStores.{prefix_acknowledged}
use Rattle.store_run.proofs.OneDisk.{of_changed, of_same}
use Rattle.store_run.proofs.Promise.{untouched_prefix}
use Rattle.store_run.proofs.top.run_alone.Goals as goal

pub returns-clause-damaged : goal.returns-clause-damaged
returns-clause-damaged g c told channel cause is =
    let damaged = c.run_on.ensures.damaged told channel cause is in
    (damaged.0, damaged.1, of_changed c.args.disks.now.items c.index_mut.result.now c.run_on.new.disk (λ old new. IsPlainFault (g.D.Disk.reads old 0) (g.D.Disk.reads old 1)) c.index_mut.ensures.value damaged.2)

pub returns-clause-fault_is_damaged : goal.returns-clause-fault_is_damaged
returns-clause-fault_is_damaged g c told words = of_changed c.args.disks.now.items c.index_mut.result.now c.run_on.new.disk _ c.index_mut.ensures.value
    (λ fault no_storage no_write.
    let causes = c.run_on.ensures.causes in
    ⊎_elim inl
    (λ other. ⊎_elim inr (λ failed. absurd (⊎_elim (λ is. no_storage (causes.storage_fault is)) (λ is. no_write (causes.write_fault is)) failed)) other)
    (c.run_on.ensures.fault told fault))

pub returns-clause-fault_line : goal.returns-clause-fault_line
returns-clause-fault_line g c answers told = of_changed c.args.disks.now.items c.index_mut.result.now c.run_on.new.disk _ c.index_mut.ensures.value (c.run_on.ensures.fault_line answers told)

pub returns-clause-fault_stays : goal.returns-clause-fault_stays
returns-clause-fault_stays g c told = of_changed c.args.disks.now.items c.index_mut.result.now c.run_on.new.disk _ c.index_mut.ensures.value (c.run_on.ensures.fault_stays told)

pub returns-clause-complete : goal.returns-clause-complete
returns-clause-complete g c takes told words start = of_changed c.args.disks.now.items c.index_mut.result.now c.run_on.new.disk _ c.index_mut.ensures.value
    (λ stored short room no_read no_write no_storage.
    let ends = c.run_on.ensures in
    ends_well c.run_on.result ends.not_words (λ channel cause is. (ends.damaged told channel cause is).2 start stored)
    (λ is. no_read (ends.causes.read_fault is)) (λ is. no_write (ends.causes.write_fault is)) (λ is. no_storage (ends.causes.storage_fault is))
    (λ is. let long = (ends.too_long takes is).0 in absurd (omega arith))
    (λ is. room (ends.causes.full told is)))

pub returns-clause-refused : goal.returns-clause-refused
returns-clause-refused g c takes told words start = of_changed c.args.disks.now.items c.index_mut.result.now c.run_on.new.disk _ c.index_mut.ensures.value
    (λ stored long room no_read no_write no_storage.
    let ends = c.run_on.ensures in
    ends_long c.run_on.result ends.not_words (λ channel cause is. (ends.damaged told channel cause is).2 start stored)
    (λ is. no_read (ends.causes.read_fault is)) (λ is. no_write (ends.causes.write_fault is)) (λ is. no_storage (ends.causes.storage_fault is))
    (λ is. let short = ends.not_too_long takes is in absurd (omega arith))
    (λ is. room (ends.causes.full told is)))

pub returns-clause-crash_prefix : goal.returns-clause-crash_prefix
returns-clause-crash_prefix g c takes answers told start =
    let script = g.S.Source.left c.args.source.now in
    let written0 = g.K.Sink.written c.args.sink.now in
    let written = g.K.Sink.written c.run_on.new.sink in
    of_changed c.args.disks.now.items c.index_mut.result.now c.run_on.new.disk
    (λ old new. IsCleanWith start (g.D.Disk.reads old) (g.D.Disk.leaves old) → EachPair (g.D.Disk.leaves new) (HoldsPrefix start script written0 written)) c.index_mut.ensures.value
    (λ ready. (c.run_on.ensures.run takes answers told start ready).prefix)

pub returns-clause-acknowledged : goal.returns-clause-acknowledged
returns-clause-acknowledged g c takes answers told start =
    let script = g.S.Source.left c.args.source.now in
    let written0 = g.K.Sink.written c.args.sink.now in
    let written = g.K.Sink.written c.run_on.new.sink in
    of_changed c.args.disks.now.items c.index_mut.result.now c.run_on.new.disk
    (λ old new. IsCleanWith start (g.D.Disk.reads old) (g.D.Disk.leaves old) → EachPair (g.D.Disk.leaves new) (HoldsAcknowledged start (answer start script).stores (acknowledged written0 written))) c.index_mut.ensures.value
    (λ ready image0 image1 left0 left1. prefix_acknowledged start script written0 written image0 image1 ((c.run_on.ensures.run takes answers told start ready).prefix image0 image1 left0 left1))

pub returns-then-not-are_run_words-clause-crash_prefix : goal.returns-then-not-are_run_words-clause-crash_prefix
returns-then-not-are_run_words-clause-crash_prefix g c takes answers told start =
    let script = g.S.Source.left c.args.source.now in
    let written = g.K.Sink.written c.args.sink.now in
    of_same c.args.disks.now.items
    (λ old new. IsCleanWith start (g.D.Disk.reads old) (g.D.Disk.leaves old) → EachPair (g.D.Disk.leaves new) (HoldsPrefix start script written written))
    (λ disk ready. untouched_prefix start (g.D.Disk.reads disk) (g.D.Disk.leaves disk) script written ready)

pub returns-then-not-are_run_words-clause-acknowledged : goal.returns-then-not-are_run_words-clause-acknowledged
returns-then-not-are_run_words-clause-acknowledged g c takes answers told start =
    let script = g.S.Source.left c.args.source.now in
    let written = g.K.Sink.written c.args.sink.now in
    of_same c.args.disks.now.items
    (λ old new. IsCleanWith start (g.D.Disk.reads old) (g.D.Disk.leaves old) → EachPair (g.D.Disk.leaves new) (HoldsAcknowledged start (answer start script).stores (acknowledged written written)))
    (λ disk ready image0 image1 left0 left1.
    prefix_acknowledged start script written written image0 image1 (untouched_prefix start (g.D.Disk.reads disk) (g.D.Disk.leaves disk) script written ready image0 image1 left0 left1))
