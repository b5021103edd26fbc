-- A payload is kept: each image has its store or not.
use Rattle.std.proofs.Common.{◌≡◌, ◌++◌, [], ◌∷◌, ℕ, List, IsTrue, subst, sym, ◌∙◌}
use Rattle.gated_log.specs.Log.{payloads_of, IsLogOf, IsBeforeOrAfter, Each}
use Rattle.gated_log.specs.Of.{IsOf}
use Rattle.plain_storage.specs.Stores.{plain_header}
use Rattle.plain_storage.proofs.Keeping.{only_log}
use Rattle.plain_storage.proofs.StoresKept.{stores_more, stores_either}
use Rattle.plain_storage.proofs.store_keeping.keep_payload.Goals as goal

pub returns-clause-kept : goal.returns-clause-kept
returns-clause-kept g c told stores op held next =
    let open_log = c.requires.open_log told in
    let file = g.D.Disk.reads c.args.disk.now 0 in
    let new = g.D.Disk.reads c.append.new.disk 0 in
    let payload = c.args.payload.now in
    let added : payloads_of new ≡ payloads_of file ++ payload ∷ [] =
    subst (λ f. payloads_of (g.D.Disk.reads c.append.new.disk f) ≡ payloads_of (g.D.Disk.reads c.args.disk.now f) ++ payload ∷ []) open_log.file_is (c.in_ok-append.ensures.added told) in
    let of_disk = subst (λ f. IsOf c.append.new.self (g.D.Disk.reads c.append.new.disk f)) open_log.file_is (c.in_ok-append.ensures.of_disk told) in
    let headed = subst (λ h. IsLogOf h (payloads_of new) new) (c.append.ensures.header ∙ open_log.header_is) of_disk.is in
    stores_more file payload new stores op held next (subst (λ (ps : List (List ℕ)). IsLogOf plain_header ps new) added headed)

pub returns-clause-stop : goal.returns-clause-stop
returns-clause-stop g c told clean stores op held next image left =
    let open_log = c.requires.open_log told in
    let disk = c.args.disk.now in
    let file = g.D.Disk.reads disk 0 in
    let payload = c.args.payload.now in
    let log = c.args.log.now in
    let here = subst (λ f. IsTrue (g.D.Disk.leaves c.append.new.disk f image)) (sym open_log.file_is) left in
    let each = subst (λ f. Each (g.D.Disk.leaves disk f) (IsLogOf log.header (payloads_of (g.D.Disk.reads disk f)))) (sym open_log.file_is) (only_log log.header file (g.D.Disk.leaves disk 0) clean open_log.is.is) in
    let at_file = subst (λ f. IsBeforeOrAfter log.header (payloads_of (g.D.Disk.reads disk f)) payload image) open_log.file_is (c.append.ensures.stop told each image here) in
    stores_either file payload image stores op held next (subst (λ h. IsBeforeOrAfter h (payloads_of file) payload image) open_log.header_is at_file)

pub returns-in_err-append-clause-stop : goal.returns-in_err-append-clause-stop
returns-in_err-append-clause-stop g c told clean stores op held next image left =
    let open_log = c.requires.open_log told in
    let disk = c.args.disk.now in
    let file = g.D.Disk.reads disk 0 in
    let payload = c.args.payload.now in
    let log = c.args.log.now in
    let here = subst (λ f. IsTrue (g.D.Disk.leaves c.append.new.disk f image)) (sym open_log.file_is) left in
    let each = subst (λ f. Each (g.D.Disk.leaves disk f) (IsLogOf log.header (payloads_of (g.D.Disk.reads disk f)))) (sym open_log.file_is) (only_log log.header file (g.D.Disk.leaves disk 0) clean open_log.is.is) in
    let at_file = subst (λ f. IsBeforeOrAfter log.header (payloads_of (g.D.Disk.reads disk f)) payload image) open_log.file_is (c.append.ensures.stop told each image here) in
    stores_either file payload image stores op held next (subst (λ h. IsBeforeOrAfter h (payloads_of file) payload image) open_log.header_is at_file)
