-- A store is kept: each image has it or not.
use Rattle.std.proofs.Common.{◌∙◌, sym}
use Rattle.plain_storage.proofs.StoresKept.{full_number, next_store}
use Rattle.plain_storage.proofs.store_keeping.keep_store.Goals as goal

pub returns-in-Ok-keep_payload-clause-kept : goal.returns-in-Ok-keep_payload-clause-kept
returns-in-Ok-keep_payload-clause-kept g c told stores held no_less =
    let next = next_store c.args.log.now (g.D.Disk.reads c.args.disk.now 0) c.deref.result.now stores c.args.op.now c.number_due-number.result (c.requires.open_log told).is held
    c.number_due-number.ensures c.requires.good c.in-Ok.ensures.spelling no_less (c.deref.ensures.value ∙ c.in-Ok.ensures.bytes) in
    c.in-Ok-keep_payload.ensures.kept told stores c.args.op.now held next

pub returns-in-Ok-keep_payload-clause-stop : goal.returns-in-Ok-keep_payload-clause-stop
returns-in-Ok-keep_payload-clause-stop g c told clean stores held no_less =
    let next = next_store c.args.log.now (g.D.Disk.reads c.args.disk.now 0) c.deref.result.now stores c.args.op.now c.number_due-number.result (c.requires.open_log told).is held
    c.number_due-number.ensures c.requires.good c.in-Ok.ensures.spelling no_less (c.deref.ensures.value ∙ c.in-Ok.ensures.bytes) in
    c.keep_payload.ensures.stop told clean stores c.args.op.now held next

pub returns-clause-stop : goal.returns-clause-stop
returns-clause-stop g c told clean stores held no_less =
    let next = next_store c.args.log.now (g.D.Disk.reads c.args.disk.now 0) c.deref.result.now stores c.args.op.now c.number_due-number.result (c.requires.open_log told).is held
    c.number_due-number.ensures c.requires.good c.in-Ok.ensures.spelling no_less (c.deref.ensures.value ∙ c.in-Ok.ensures.bytes) in
    c.keep_payload.ensures.stop told clean stores c.args.op.now held next

pub returns-clause-full_number : goal.returns-clause-full_number
returns-clause-full_number g c told number is =
    full_number c.args.log.now (g.D.Disk.reads c.args.disk.now 0) c.in-Err.fault c.number_due-number.result number (c.requires.open_log told).is c.number_due-number.ensures (sym c.storage_fault.ensures ∙ cc)
