-- The payloads of a log are read one by one.
use Rattle.std.proofs.Common.{inl, inr, ◌≡◌, ◌<◌, ◌++◌, [], ◌∷◌, List, length, length-append, take, ap, subst, sym, ◌∙◌, arith, refl, true}
use Rattle.std.specs.List.{AllByRecursion}
use Rattle.gated_log.specs.Log.{IsNoLog}
use Rattle.gated_log.specs.Reading.{IsReading, rest_of}
use Rattle.type_desc.specs.declared.desc.TypeDesc.{TypeDesc}
use Rattle.type_dictionary.specs.Records.{IsRecorded}
use Rattle.plain_storage.specs.Types.{AreRecords}
use Rattle.plain_storage.specs.declared.fault.OpenFault.TheVariants as open_
use Rattle.plain_storage.proofs.Keeping.{recorded-push}
use Rattle.plain_storage.proofs.LogFiles.{ended_file, within_at_start}
use Rattle.plain_storage.proofs.TypeRecords.{records_more, records_end, first_type}
use Rattle.plain_storage.proofs.Opening.{fault_was, cut_of, same_fault}
use Rattle.plain_storage.proofs.type_log.read_types.Goals as goal

pub returns-in_err-n-clause-damaged : goal.returns-in_err-n-clause-damaged
returns-in_err-n-clause-damaged g c told is =
    let so = c.types.invariant in
    let e = c.in_err-n.field-0.0 in
    let opening = c.types.opening in
    let damaged = fault_was c.from_residual.result e c.from_residual.ensures.1 is in
    inl (cut_of e ((9 < length (g.D.Disk.reads c.args.disk.now 1)) × IsNoLog c.args.opening.now.header (g.D.Disk.reads c.args.disk.now 1)) damaged (λ h. c.in_err-n.ensures.not_header (cc))
    (λ at cut.
    let here = c.in_err-n.ensures.cut_no_log told at (cc) in
    let at_file = subst (λ f. IsNoLog opening.header (g.D.Disk.reads c.types.disk f)) so.file here in
    let at_start = subst (λ r. IsNoLog opening.header (r 1)) (so.reads told) at_file in
    let long = subst (λ r. 9 < length (r 1)) (so.reads told) (subst (λ f. 9 < length (g.D.Disk.reads c.types.disk f)) so.file (c.in_err-n.ensures.cut_at told at (cc)).0) in
    (long, subst (λ h. IsNoLog h (g.D.Disk.reads c.args.disk.now 1)) so.header at_start)))

pub returns-in_err-add-clause-damaged : goal.returns-in_err-add-clause-damaged
returns-in_err-add-clause-damaged g c told is =
    let so = c.types.invariant in
    let types = c.types.types in
    let payload = take c.in-Some.n c.next.new.window in
    let rest = rest_of c.next.new.self (g.D.Disk.reads c.types.disk 1) in
    let parts = subst (λ f. rest_of c.types.opening (g.D.Disk.reads c.types.disk f) ≡ payload ∷ rest_of c.next.new.self (g.D.Disk.reads c.types.disk f)) so.file (rw c.in-Some.is at (c.in_ok-n.ensures.some told)) in
    let was = same_fault c.from_residual-in_err-add.result c.in_err-add.field-0.0 open_.Damaged c.from_residual-in_err-add.ensures.1 is in
    let refused = c.in_err-add.ensures.damaged (cc) in
    inr (λ all these.
    let first = first_type types payload rest all (subst (λ ps. AreRecords types ps all) parts (so.left told all these)) in
    refused first.desc first.next)

pub types-init : goal.types-init
types-init g c =
    let none : c.new-types.result ≡ [] = c.new-types.ensures in
    let rest = rest_of c.args.opening.now (g.D.Disk.reads c.args.disk.now 1) in
    record {
      window = refl;
      file = c.requires.file;
      header = refl;
      within = λ told. within_at_start c.args.opening.now (g.D.Disk.reads c.args.disk.now 1) (c.requires.reading told) c.requires.first;
      recorded = subst (λ (l : List TypeDesc). AllByRecursion IsRecorded l) (sym none) tt;
      few = omega (arith, ap length none);
      reading = c.requires.reading;
      so_far = λ told all these. subst (λ (l : List TypeDesc). AreRecords l rest all) none these;
      left = λ told all these. subst (λ (l : List TypeDesc). AreRecords l rest all) (sym none) these;
      reads = λ told. refl;
      leaves = λ told. refl;
      faults = omega arith;
    }

pub types-preserved : goal.types-preserved
types-preserved g c =
    let so = c.types.invariant in
    let opening = c.types.opening in
    let types = c.types.types in
    let payload = take c.in-Some.n c.next.new.window in
    let added = c.in_ok-add.ensures.added in
    record {
      window = c.next.auto.window ∙ so.window;
      file = c.next.ensures.file ∙ so.file;
      header = c.next.ensures.header ∙ so.header;
      within = λ told long. (rw c.in-Some.is at c.in_ok-n.ensures.onward).1;
      recorded = subst (λ (l : List TypeDesc). AllByRecursion IsRecorded l) (sym added.gained) (recorded-push types added.desc so.recorded added.next.recorded);
      few = omega (arith, ap length added.gained, length-append types (added.desc ∷ []), added.next.room);
      reading = λ told. subst (λ f. IsReading c.next.new.self (g.D.Disk.reads c.next.new.disk f)) so.file (c.next.ensures.reading told);
      so_far = λ told all these.
          let rest = rest_of c.next.new.self (g.D.Disk.reads c.types.disk 1) in
          let parts = subst (λ f. rest_of opening (g.D.Disk.reads c.types.disk f) ≡ payload ∷ rest_of c.next.new.self (g.D.Disk.reads c.types.disk f)) so.file (rw c.in-Some.is at (c.in_ok-n.ensures.some told)) in
          let behind = subst (λ r. AreRecords c.add.new.types (rest_of c.next.new.self (r 1)) all) (c.next.ensures.reads told) these in
          let others = subst (λ (l : List TypeDesc). AreRecords l rest all) added.gained behind in
          so.so_far told all (subst (λ ps. AreRecords types ps all) (sym parts) (records_more types added.desc payload rest all added.next others));
      left = λ told all these.
          let rest = rest_of c.next.new.self (g.D.Disk.reads c.types.disk 1) in
          let parts = subst (λ f. rest_of opening (g.D.Disk.reads c.types.disk f) ≡ payload ∷ rest_of c.next.new.self (g.D.Disk.reads c.types.disk f)) so.file (rw c.in-Some.is at (c.in_ok-n.ensures.some told)) in
          let first = first_type types payload rest all (subst (λ ps. AreRecords types ps all) parts (so.left told all these)) in
          let found : c.add.new.types ≡ types ++ first.desc ∷ [] = c.in_ok-add.ensures.only first.desc first.next in
          subst (λ r. AreRecords c.add.new.types (rest_of c.next.new.self (r 1)) all) (sym (c.next.ensures.reads told))
          (subst (λ (l : List TypeDesc). AreRecords l rest all) (sym found) first.others);
      reads = λ told. c.next.ensures.reads told ∙ so.reads told;
      leaves = λ told. c.next.ensures.leaves told ∙ so.leaves told;
      faults = omega (arith, so.faults, c.next.ensures.faults);
    }

pub returns-clause-read : goal.returns-clause-read
returns-clause-read g c told =
    let so = c.types.invariant in
    let types = c.types.types in
    let none = subst (λ f. rest_of c.types.opening (g.D.Disk.reads c.types.disk f) ≡ []) so.file (rw c.in_default.is at (c.in_ok-n.ensures.none told)) in
    so.so_far told types (subst (λ ps. AreRecords types ps types) (sym none) (records_end types so.few))

pub returns-clause-log : goal.returns-clause-log
returns-clause-log g c told =
    let so = c.types.invariant in
    let file = g.D.Disk.reads c.args.disk.now 1 in
    let after = c.next.new.self in
    let ended : after ≡ record c.types.opening { ended = true } = rw c.in_default.is at c.in_ok-n.ensures.ended in
    let reading : IsReading after file =
    subst (λ r. IsReading after (r 1)) (c.next.ensures.reads told ∙ so.reads told) (subst (λ f. IsReading after (g.D.Disk.reads c.next.new.disk f)) so.file (c.next.ensures.reading told)) in
    ended_file c.args.opening.now.header c.types.opening after file ended reading so.header (so.within told)
