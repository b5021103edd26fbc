-- A type is kept on the disk.
use Rattle.std.proofs.Common.{◌≡◌, ◌+◌, ap, subst, sym, ◌∙◌}
use Rattle.graph_model.specs.declared.ask.StorageFault.TheVariants as asking
use Rattle.plain_storage.specs.Keeping.{Plain}
use Rattle.plain_storage.specs.Logs.{IsOpen}
use Rattle.plain_storage.specs.Stores.{plain_header}
use Rattle.plain_storage.proofs.Serving.{type_keeps, type_stops}
use Rattle.plain_storage.proofs.StoresKept.{full_number}
use Rattle.plain_storage.proofs.storage.PlainStorage.keep.Goals as goal
use Rattle.plain_storage.proofs.storage.PlainStorage.keep.Goals.{in-Ok, in-Err}

pub returns-clause-keeps : goal.returns-clause-keeps
returns-clause-keeps g c told types next_types keeps with =
    let reads = g.D.Disk.reads in
    let leaves = g.D.Disk.leaves in
    let old = c.args.disk.now in
    let new = c.keep_type.new.disk in
    elim c.match-keep_type.branch [
      | in-Ok w ↦ rw w.result-is (type_keeps (reads old) (reads new) (leaves old) (leaves new) (c.keep_type.ensures.others told) c.args.text.now c.args.self.now _ types next_types keeps
          (w.in-Ok.ensures.open_log told) (ap (λ (p : Plain). p.stores_log) c.self.view_is) (w.in-Ok.ensures.kept told types) with)
      | in-Err w ↦ rw w.result-is tt
    ]

pub returns-clause-stop : goal.returns-clause-stop
returns-clause-stop g c told clean held next stored with =
    let reads = g.D.Disk.reads in
    let leaves = g.D.Disk.leaves in
    let old = c.args.disk.now in
    let new = c.keep_type.new.disk in
    type_stops (reads old) (reads new) (leaves old) (leaves new) (c.keep_type.ensures.others told) c.args.text.now held next clean stored (c.keep_type.ensures.stop told clean.types held.types) with

pub returns-clause-full_number : goal.returns-clause-full_number
returns-clause-full_number g c told number is =
    let open_log = subst (λ (p : Plain). IsOpen 0 plain_header p.stores_log (g.D.Disk.reads c.args.disk.now 0)) (sym c.self.view_is) (c.requires.logs told).stores in
    elim c.match-keep_type.branch [
      | in-Ok w ↦ let was = rw w.result-is at is in absurd cc
      | in-Err w ↦
          let was = rw w.result-is at is in
          let fault : w.storage_fault.result ≡ asking.Full number = cc in
          full_number c.self.inside.stores_log (g.D.Disk.reads c.args.disk.now 0) w.in-Err.fault w.number_due.result number open_log.is w.number_due.ensures (sym w.storage_fault.ensures ∙ fault)
          ∙ ap (λ (p : Plain). p.stores_log.count + 1) c.self.view_is
    ]
