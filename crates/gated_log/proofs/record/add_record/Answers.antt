-- Until the gate is opened each image has the old payloads, and then each has the new one or not.
use Rattle.std.proofs.Common.{inl, ◌≡◌, ◌-◌, [], ◌∷◌, length, ap, subst, arith}
use Rattle.store_io.specs.Disk.{Holds}
use Rattle.gated_log.specs.Log.{record_of}
use Rattle.gated_log.proofs.Steps.{length-stands}
use Rattle.gated_log.proofs.Payloads.{staged, opened_gate, gate_images, record_images}
use Rattle.gated_log.proofs.record.add_record.Goals as goal

pub returns-in_err-write_record-clause-stop : goal.returns-in_err-write_record-clause-stop
returns-in_err-write_record-clause-stop g c told header is each image left =
    inl (record_images _ _ c.args.end _ _ (c.requires.end told) each (c.write_record.ensures.stop told) image left)

pub returns-in_err-sync-clause-stop : goal.returns-in_err-sync-clause-stop
returns-in_err-sync-clause-stop g c told header is each image left =
    inl (record_images _ _ c.args.end _ _ (c.requires.end told) each (c.write_record.ensures.stop told) image (c.sync.ensures.stop told image left))

pub open_gate-requires : goal.open_gate-requires
open_gate-requires g c told =
    let file = c.args.file in
    let stood = length-stands c.args.end (record_of c.args.payload.now) _ _ (c.requires.within told) (c.in_ok-write_record.ensures.written told) in
    let same : g.D.Disk.reads c.sync.new.self file ≡ g.D.Disk.reads c.write_record.new.disk file = λ i. c.sync.ensures.reads told i file in
    omega (arith, stood, ap length same)

pub returns-in_err-open_gate-clause-stop : goal.returns-in_err-open_gate-clause-stop
returns-in_err-open_gate-clause-stop g c told header is each =
    let payload = c.args.payload.now in
    let stage = staged _ _ c.args.end payload _ _ (c.requires.end told) is (c.in_ok-write_record.ensures.written told) in
    gate_images _ _ payload _ c.requires.some c.requires.size stage (c.args.end - 1) _ _ (omega (arith, c.requires.end told))
    (c.in_ok-sync.ensures.durable told) (c.open_gate.ensures.stop told)

pub returns-clause-stop : goal.returns-clause-stop
returns-clause-stop g c told header is each =
    let payload = c.args.payload.now in
    let stage = staged _ _ c.args.end payload _ _ (c.requires.end told) is (c.in_ok-write_record.ensures.written told) in
    gate_images _ _ payload _ c.requires.some c.requires.size stage (c.args.end - 1) _ _ (omega (arith, c.requires.end told))
    (c.in_ok-sync.ensures.durable told) (c.open_gate.ensures.stop told)

pub returns-clause-added : goal.returns-clause-added
returns-clause-added g c told header is =
    let file = c.args.file in
    let payload = c.args.payload.now in
    let stage = staged _ _ c.args.end payload _ _ (c.requires.end told) is (c.in_ok-write_record.ensures.written told) in
    let same : g.D.Disk.reads c.sync.new.self ≡ g.D.Disk.reads c.write_record.new.disk = c.sync.ensures.reads told in
    let opened = subst (λ r. Holds (r file) (c.args.end - 1) (1 ∷ []) (g.D.Disk.reads c.open_gate.new.disk file)) same (c.in_ok-open_gate.ensures.opened told) in
    opened_gate _ _ payload _ c.requires.some c.requires.size stage (c.args.end - 1) _ (omega (arith, c.requires.end told)) opened
