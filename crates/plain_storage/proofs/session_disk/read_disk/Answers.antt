-- Both logs are read, or the disk holds nothing.
use Rattle.std.proofs.Common.{sym, subst}
use Rattle.plain_storage.specs.Reading.{AreStoresHeld}
use Rattle.plain_storage.specs.declared.fault.OpenFault.TheVariants as open_
use Rattle.plain_storage.proofs.Opening.{same_fault}
use Rattle.plain_storage.proofs.PlainFiles.{not_sound, plain_stored, stores_in}
use Rattle.plain_storage.proofs.session_disk.read_disk.Goals as goal

pub returns-in_err-stores-clause-damaged : goal.returns-in_err-stores-clause-damaged
returns-in_err-stores-clause-damaged g c told is held stored =
    let r = g.D.Disk.reads c.args.disk.now in
    let was = same_fault c.from_residual-in_err-stores.result c.in_err-stores.field-0.0 open_.Damaged c.from_residual-in_err-stores.ensures.1 is in
    c.in_err-stores.ensures.damaged told (cc) held.next_id held.graph
    (subst (λ s. AreStoresHeld (s 0) held.next_id held.graph) (sym (c.read_types_log.ensures.reads told)) (stores_in (r 0) (r 1) held stored))

pub returns-then-not-branch-clause-damaged : goal.returns-then-not-branch-clause-damaged
returns-then-not-branch-clause-damaged g c told is held stored =
    let r = g.D.Disk.reads c.args.disk.now in
    let graph = c.in_ok-stores.graph in
    let next_id = c.in_ok-stores.next_id in
    let stores = subst (λ s. AreStoresHeld (s 0) next_id graph) (c.read_types_log.ensures.reads told) (c.in_ok-stores.ensures.held told) in
    not_sound (r 0) (r 1) c.in_ok-types.dictionary graph next_id (c.in_ok-types.ensures.held told) stores (c.in_ok-is_sound.ensures.no c.if-not-branch.true) held stored

pub returns-clause-held : goal.returns-clause-held
returns-clause-held g c told =
    let r = g.D.Disk.reads c.args.disk.now in
    let graph = c.in_ok-stores.graph in
    let next_id = c.in_ok-stores.next_id in
    let stores = subst (λ s. AreStoresHeld (s 0) next_id graph) (c.read_types_log.ensures.reads told) (c.in_ok-stores.ensures.held told) in
    plain_stored (r 0) (r 1) c.in_ok-types.dictionary graph next_id (c.in_ok-types.ensures.held told) stores (c.in_ok-is_sound.ensures.yes c.if-not-branch.false)
