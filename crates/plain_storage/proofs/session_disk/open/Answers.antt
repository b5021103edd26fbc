-- A disk is opened: both logs are read, and then both are finished.
use Rattle.std.proofs.Common.{◌≡◌, ℕ, List, length, refl, ap, sym, subst, ◌∙◌}
use Rattle.graph_model.specs.Graph.{Graph}
use Rattle.gated_log.specs.Log.{payloads_of}
use Rattle.type_desc.specs.declared.desc.TypeDesc.{TypeDesc}
use Rattle.plain_storage.specs.Finishing.{AreSameLogs}
use Rattle.plain_storage.specs.Held.{IsPlainStored, PlainHeld}
use Rattle.plain_storage.specs.Images.{AreClean}
use Rattle.plain_storage.specs.declared.fault.OpenFault.TheVariants as open_
use Rattle.plain_storage.proofs.Opening.{same_fault}
use Rattle.plain_storage.proofs.PlainFiles.{logs_here, plain_once, stored_too}
use Rattle.plain_storage.proofs.session_disk.open.Goals as goal

pub returns-in_err-read-clause-damaged : goal.returns-in_err-read-clause-damaged
returns-in_err-read-clause-damaged g c told is =
    let was = same_fault c.from_residual.result c.in_err-read.field-0.0 open_.Damaged c.from_residual.ensures.1 is in
    c.in_err-read.ensures.damaged told (cc)

pub finish_logs-requires-clause-logs : goal.finish_logs-requires-clause-logs
finish_logs-requires-clause-logs g c told =
    subst (λ r. AreSameLogs r (r 0) (r 1)) (sym (c.read_disk.ensures.reads told)) (logs_here (g.D.Disk.reads c.args.disk.now) _ (c.in_ok-read.ensures.held told))

pub returns-in_err-stores_log-clause-stop : goal.returns-in_err-stores_log-clause-stop
returns-in_err-stores_log-clause-stop g c told clean held stored image0 image1 left0 left1 =
    let r = g.D.Disk.reads c.args.disk.now in
    let reads = c.read_disk.ensures.reads told in
    let before = subst (λ s. AreClean s (g.D.Disk.leaves c.read_disk.new.disk)) (sym reads) (subst (λ l. AreClean r l) (sym (c.read_disk.ensures.leaves told)) clean) in
    stored_too r image0 image1 held stored (subst (λ s. AreSameLogs s image0 image1) reads (c.finish_logs.ensures.stop told before image0 image1 left0 left1))

held_with : List TypeDesc → Graph → ℕ → ℕ → PlainHeld
held_with types graph next_id number = record { types = types; graph = graph; number = number; next_id = next_id }

pub returns-clause-start : goal.returns-clause-start
returns-clause-start g c = c.in_ok-read.ensures.start _ c.new.ensures.empty refl refl

pub returns-clause-keeps : goal.returns-clause-keeps
unfolding held_with
returns-clause-keeps g c told =
    let r = g.D.Disk.reads c.args.disk.now in
    let new = g.D.Disk.reads c.finish_logs.new.disk in
    let read = c.in_ok-read.read in
    let same : AreSameLogs r (new 0) (new 1) = subst (λ s. AreSameLogs s (new 0) (new 1)) (c.read_disk.ensures.reads told) (c.in_ok-stores_log.ensures.same told) in
    let open_logs = c.in_ok-stores_log.ensures.open_logs told in
    let number : c.in_ok-stores_log.stores_log.count ≡ length (payloads_of (r 0)) = open_logs.0.is.count ∙ ap length same.stores.payloads in
    record {
      are_open = record { stores = open_logs.0; types = open_logs.1 };
      stored = subst (λ n. IsPlainStored (new 0) (new 1) (held_with read.dictionary read.graph read.next_id n)) (sym number)
          (stored_too r (new 0) (new 1) (held_with read.dictionary read.graph read.next_id (length (payloads_of (r 0)))) (c.in_ok-read.ensures.held told) same);
    }

pub returns-clause-held : goal.returns-clause-held
unfolding held_with
returns-clause-held g c told =
    let r = g.D.Disk.reads c.args.disk.now in
    let new = g.D.Disk.reads c.finish_logs.new.disk in
    let read = c.in_ok-read.read in
    let same : AreSameLogs r (new 0) (new 1) = subst (λ s. AreSameLogs s (new 0) (new 1)) (c.read_disk.ensures.reads told) (c.in_ok-stores_log.ensures.same told) in
    let number : c.in_ok-stores_log.stores_log.count ≡ length (payloads_of (r 0)) = (c.in_ok-stores_log.ensures.open_logs told).0.is.count ∙ ap length same.stores.payloads in
    subst (λ n. IsPlainStored (r 0) (r 1) (held_with read.dictionary read.graph read.next_id n)) (sym number) (c.in_ok-read.ensures.held told)

pub returns-clause-only : goal.returns-clause-only
returns-clause-only g c told held stored =
    let r = g.D.Disk.reads c.args.disk.now in
    plain_once (r 0) (r 1) _ held (returns-clause-held g c told) stored

pub returns-clause-stop : goal.returns-clause-stop
returns-clause-stop g c told clean held stored image0 image1 left0 left1 =
    let r = g.D.Disk.reads c.args.disk.now in
    let reads = c.read_disk.ensures.reads told in
    let before = subst (λ s. AreClean s (g.D.Disk.leaves c.read_disk.new.disk)) (sym reads) (subst (λ l. AreClean r l) (sym (c.read_disk.ensures.leaves told)) clean) in
    stored_too r image0 image1 held stored (subst (λ s. AreSameLogs s image0 image1) reads (c.finish_logs.ensures.stop told before image0 image1 left0 left1))
