-- The records of a dictionary log are read one by one.
use Rattle.std.proofs.Common.{◌≡◌, ◌<◌, ◌+◌, ◌∷◌, [], ℕ, List, length, length-append, take, drop, slice_index, false, Err, refl, ap, subst, sym, ◌∙◌, arith}
use Rattle.gated_log.specs.Log.{IsNoLog, is_whole}
use Rattle.gated_log.specs.Reading.{IsReading, rest_of}
use Rattle.type_desc.specs.declared.desc.TypeDesc.{TypeDesc}
use Rattle.disk_opening.specs.TypesReading.{HasPassedTypes}
use Rattle.disk_opening.specs.declared.type_log.DictionaryFault.TheVariants as told
use Rattle.disk_opening.proofs.FaultsSaid.{same_fault, types_cut_was}
use Rattle.disk_opening.proofs.PassedTypes.{all_passed, none_passed, type_passed, wrong_type}
use Rattle.disk_opening.proofs.ReadFiles.{ended_file, within_at_start}
use Rattle.disk_opening.proofs.type_log.read_types.Goals as goal

pub returns-in_err-n-clause-cut : goal.returns-in_err-n-clause-cut
returns-in_err-n-clause-cut g c tells at is =
    let so = c.types.invariant in
    let opening = c.types.opening in
    let was = types_cut_was c.from_residual.result c.in_err-n.field-0.0 at c.from_residual.ensures.1 is in
    let file = g.D.Disk.reads c.args.disk.now 1 in
    let same : g.D.Disk.reads c.types.disk opening.file ≡ file = ap (g.D.Disk.reads c.types.disk) so.file ∙ ap (λ (r : ℕ → List ℕ). r 1) (so.reads tells) in
    let here = c.in_err-n.ensures.cut_at tells at (ap Err was) in
    let none = c.in_err-n.ensures.cut_no_log tells at (ap Err was) in
    record {
      long = subst (λ (f : List ℕ). 9 < length f) same here.0;
      open_ = subst (λ (f : List ℕ). slice_index f at ≡ 1) same here.1;
      cut = subst (λ (f : List ℕ). is_whole (drop (at + 1) f) ≡ false) same here.2;
      none = subst (λ (h : List ℕ). IsNoLog h file) so.header (subst (λ (f : List ℕ). IsNoLog opening.header f) same none);
    }

pub types-init : goal.types-init
types-init g c =
    let none : c.new-dictionary.result ≡ [] = c.new-dictionary.ensures in
    record {
      window = refl;
      file = c.requires.file;
      header = refl;
      counted = c.requires.first ∙ sym (ap (λ (l : List TypeDesc). length l) none);
      within = λ tells. within_at_start c.args.opening.now (g.D.Disk.reads c.args.disk.now 1) (c.requires.reading tells) c.requires.first;
      reading = c.requires.reading;
      passed = λ tells. none_passed (rest_of c.args.opening.now (g.D.Disk.reads c.args.disk.now 1)) c.new-dictionary.result none;
      reads = λ tells. refl;
      leaves = λ tells. refl;
      faults = omega arith;
      calm = refl;
    }

pub types-preserved : goal.types-preserved
types-preserved g c =
    let so = c.types.invariant in
    let opening = c.types.opening in
    let gains = c.in_ok-add_type.ensures.added in
    record {
      window = c.next.auto.window ∙ so.window;
      file = c.next.ensures.file ∙ so.file;
      header = c.next.ensures.header ∙ so.header;
      counted = omega (arith, rw c.in-Some.is at c.in_ok-n.ensures.counted, so.counted, ap (λ (l : List TypeDesc). length l) gains.gained, length-append c.types.dictionary (gains.desc ∷ []));
      within = λ tells long. (rw c.in-Some.is at c.in_ok-n.ensures.onward).1;
      reading = λ tells. subst (λ f. IsReading c.next.new.self (g.D.Disk.reads c.next.new.disk f)) so.file (c.next.ensures.reading tells);
      passed = λ tells.
          let payloads = rest_of c.args.opening.now (g.D.Disk.reads c.args.disk.now 1) in
          let payload = take c.in-Some.n c.next.new.window in
          let parts = subst (λ f. rest_of opening (g.D.Disk.reads c.types.disk f) ≡ payload ∷ rest_of c.next.new.self (g.D.Disk.reads c.types.disk f)) so.file (rw c.in-Some.is at (c.in_ok-n.ensures.some tells)) in
          let left = rest_of c.next.new.self (g.D.Disk.reads c.types.disk 1) in
          let on = type_passed payloads _ left c.types.dictionary c.add_type.new.dictionary payload (so.passed tells) parts gains in
          subst (λ (r : ℕ → List ℕ). HasPassedTypes payloads (rest_of c.next.new.self (r 1)) c.add_type.new.dictionary) (sym (c.next.ensures.reads tells)) on;
      reads = λ tells. c.next.ensures.reads tells ∙ so.reads tells;
      leaves = λ tells. c.next.ensures.leaves tells ∙ so.leaves tells;
      faults = omega (arith, so.faults, c.next.ensures.faults);
      calm = c.in_ok-n.ensures.calm ∙ so.calm;
    }

pub returns-in_err-add_type-clause-record : goal.returns-in_err-add_type-clause-record
returns-in_err-add_type-clause-record g c tells at is =
    let so = c.types.invariant in
    let opening = c.types.opening in
    let payloads = rest_of c.args.opening.now (g.D.Disk.reads c.args.disk.now 1) in
    let payload = take c.in-Some.n c.next.new.window in
    let was = same_fault c.from_residual-in_err-add_type.result c.in_err-add_type.field-0.0 (told.Record at) c.from_residual-in_err-add_type.ensures.1 is in
    let wrong = c.in_err-add_type.ensures.record at (ap Err was) in
    let parts = subst (λ f. rest_of opening (g.D.Disk.reads c.types.disk f) ≡ payload ∷ rest_of c.next.new.self (g.D.Disk.reads c.types.disk f)) so.file (rw c.in-Some.is at (c.in_ok-n.ensures.some tells)) in
    wrong_type payloads _ (rest_of c.next.new.self (g.D.Disk.reads c.types.disk 1)) c.types.dictionary payload opening.count at (so.passed tells) parts so.counted
    (wrong.0 ∙ c.count.ensures ∙ (rw c.in-Some.is at c.in_ok-n.ensures.counted)) wrong.1

pub returns-clause-log : goal.returns-clause-log
returns-clause-log g c tells =
    let so = c.types.invariant in
    let file = g.D.Disk.reads c.args.disk.now 1 in
    let after = c.next.new.self in
    let reading : IsReading after file =
    subst (λ (r : ℕ → List ℕ). IsReading after (r 1)) (c.next.ensures.reads tells ∙ so.reads tells) (subst (λ f. IsReading after (g.D.Disk.reads c.next.new.disk f)) so.file (c.next.ensures.reading tells)) in
    ended_file c.args.opening.now.header c.types.opening after file (rw c.in_default.is at c.in_ok-n.ensures.ended) reading so.header (so.within tells)

pub returns-clause-types : goal.returns-clause-types
returns-clause-types g c tells =
    let so = c.types.invariant in
    let none = subst (λ f. rest_of c.types.opening (g.D.Disk.reads c.types.disk f) ≡ []) so.file (rw c.in_default.is at (c.in_ok-n.ensures.none tells)) in
    all_passed (rest_of c.args.opening.now (g.D.Disk.reads c.args.disk.now 1)) _ c.types.dictionary (so.passed tells) none
