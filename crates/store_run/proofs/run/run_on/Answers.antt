-- A run on one disk.
use Rattle.std.proofs.Common.{subst}
use Rattle.plain_storage.specs.Held.{PlainHeld}
use Rattle.store_run.specs.Run.{IsRun}
use Rattle.store_run.specs.declared.stop.Stop.TheVariants as stop_
use Rattle.store_run.proofs.Endings.{damaged_is}
use Rattle.store_run.proofs.PartAnswers.{nothing_answered}
use Rattle.store_run.proofs.Promise.{stopped_run}
use Rattle.store_run.proofs.run.run_on.Goals as goal

pub returns-in-Ok-clause-run : goal.returns-in-Ok-clause-run
returns-in-Ok-clause-run g c takes answers told start ready =
    subst (λ (held : PlainHeld). IsRun held c.serve_opened.result (g.S.Source.left c.args.source.now) (g.S.Source.left c.serve_opened.new.source)
    (g.K.Sink.written c.args.sink.now) (g.K.Sink.written c.serve_opened.new.sink) (g.D.Disk.reads c.serve_opened.new.disk) (g.D.Disk.leaves c.serve_opened.new.disk))
    (c.in-Ok.ensures.only told start ready.stored) (c.serve_opened.ensures.run takes answers told (c.in-Ok.ensures.clean told ready.clean))

pub returns-in-Err-NoMemory-clause-run : goal.returns-in-Err-NoMemory-clause-run
returns-in-Err-NoMemory-clause-run g c takes answers told start ready =
    let written = g.K.Sink.written c.args.sink.now in
    let left = g.S.Source.left c.args.source.now in
    let reads = g.D.Disk.reads c.open.new.disk in
    let leaves = g.D.Disk.leaves c.open.new.disk in
    stopped_run start left left written written reads leaves stop_.NoMemory
    (nothing_answered start left stop_.NoMemory written reads leaves (c.open.ensures.stop told ready.clean start ready.stored) (λ full. cc))

pub returns-in-Err-Fault-clause-run : goal.returns-in-Err-Fault-clause-run
returns-in-Err-Fault-clause-run g c takes answers told start ready =
    let written = g.K.Sink.written c.args.sink.now in
    let left = g.S.Source.left c.args.source.now in
    let reads = g.D.Disk.reads c.open.new.disk in
    let leaves = g.D.Disk.leaves c.open.new.disk in
    stopped_run start left left written written reads leaves stop_.StorageFault
    (nothing_answered start left stop_.StorageFault written reads leaves (c.open.ensures.stop told ready.clean start ready.stored) (λ full. cc))

pub returns-in-Ok-clause-fault : goal.returns-in-Ok-clause-fault
returns-in-Ok-clause-fault g c told fault = absurd (c.in-Ok.ensures.not_ok told fault)

pub returns-in-Ok-clause-fault_line : goal.returns-in-Ok-clause-fault_line
returns-in-Ok-clause-fault_line g c answers told fault = absurd (c.in-Ok.ensures.not_ok told fault)

pub returns-in-Ok-clause-fault_stays : goal.returns-in-Ok-clause-fault_stays
returns-in-Ok-clause-fault_stays g c told fault = absurd (c.in-Ok.ensures.not_ok told fault)

pub returns-in-Err-Damaged-clause-run : goal.returns-in-Err-Damaged-clause-run
returns-in-Err-Damaged-clause-run g c takes answers told start ready = absurd (c.in-Err-Damaged.ensures.damaged told (cc) start ready.stored)

pub returns-in-Err-Damaged-clause-damaged : goal.returns-in-Err-Damaged-clause-damaged
returns-in-Err-Damaged-clause-damaged g c told channel cause is =
    let parts = damaged_is c.put_damage.result channel cause c.put_damage.ensures.status is in
    (parts.0, parts.1, c.in-Err-Damaged.ensures.damaged told (cc))
