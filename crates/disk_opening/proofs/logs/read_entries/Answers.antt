-- The records of a log are read one by one.
use Rattle.std.proofs.Common.{◌≡◌, ◌<◌, ◌+◌, ◌∷◌, ℕ, List, length, take, drop, slice_index, false, Err, ap, subst, sym, ◌∙◌, arith}
use Rattle.gated_log.specs.Log.{IsNoLog, is_whole}
use Rattle.gated_log.specs.Reading.{IsReading, rest_of}
use Rattle.disk_opening.specs.LogReading.{HasPassed}
use Rattle.disk_opening.specs.declared.logs.ChannelLogFault.TheVariants as told
use Rattle.disk_opening.proofs.FaultsSaid.{cut_was, same_fault}
use Rattle.disk_opening.proofs.Passing.{passed_on, right_front}
use Rattle.disk_opening.proofs.ReadFiles.{ended_file}
use Rattle.disk_opening.proofs.logs.read_entries.Goals as goal

pub returns-in_err-n-clause-cut : goal.returns-in_err-n-clause-cut
returns-in_err-n-clause-cut g c tells at is =
    let so = c.entries.invariant in
    let opening = c.entries.opening in
    let was = cut_was c.from_residual.result c.in_err-n.field-0.0 at c.from_residual.ensures.1 is in
    let file = g.D.Disk.reads c.args.disk.now 0 in
    let same : g.D.Disk.reads c.entries.disk opening.file ≡ file = ap (g.D.Disk.reads c.entries.disk) so.file ∙ ap (λ (r : ℕ → List ℕ). r 0) (so.reads tells) in
    let here = c.in_err-n.ensures.cut_at tells at (ap Err was) in
    let none = c.in_err-n.ensures.cut_no_log tells at (ap Err was) in
    record {
      long = subst (λ (f : List ℕ). 9 < length f) same here.0;
      open_ = subst (λ (f : List ℕ). slice_index f at ≡ 1) same here.1;
      cut = subst (λ (f : List ℕ). is_whole (drop (at + 1) f) ≡ false) same here.2;
      none = subst (λ (h : List ℕ). IsNoLog h file) so.header (subst (λ (f : List ℕ). IsNoLog opening.header f) same none);
    }

pub entries-preserved : goal.entries-preserved
entries-preserved g c =
    let so = c.entries.invariant in
    let opening = c.entries.opening in
    record {
      window = c.next.auto.window ∙ so.window;
      file = c.next.ensures.file ∙ so.file;
      header = c.next.ensures.header ∙ so.header;
      within = λ tells long. (rw c.in-Some.is at c.in_ok-n.ensures.onward).1;
      reading = λ tells. subst (λ f. IsReading c.next.new.self (g.D.Disk.reads c.next.new.disk f)) so.file (c.next.ensures.reading tells);
      passed = λ tells.
          let payloads = rest_of c.args.opening.now (g.D.Disk.reads c.args.disk.now 0) in
          let payload = take c.in-Some.n c.next.new.window in
          let parts = subst (λ f. rest_of opening (g.D.Disk.reads c.entries.disk f) ≡ payload ∷ rest_of c.next.new.self (g.D.Disk.reads c.entries.disk f)) so.file (rw c.in-Some.is at (c.in_ok-n.ensures.some tells)) in
          let left = rest_of c.next.new.self (g.D.Disk.reads c.entries.disk 0) in
          let on = passed_on payloads _ left opening.count c.next.new.self.count _ _ _ _ payload (so.passed tells) parts
          c.in_ok-add_record.ensures.inventory c.in_ok-add_record.ensures.ranges (rw c.in-Some.is at c.in_ok-n.ensures.counted) in
          subst (λ (r : ℕ → List ℕ). HasPassed payloads (rest_of c.next.new.self (r 0)) c.next.new.self.count c.add_record.new.inventory.state c.add_record.new.ranges) (sym (c.next.ensures.reads tells)) on;
      reads = λ tells. c.next.ensures.reads tells ∙ so.reads tells;
      leaves = λ tells. c.next.ensures.leaves tells ∙ so.leaves tells;
      faults = omega (arith, so.faults, c.next.ensures.faults);
      calm = c.in_ok-n.ensures.calm ∙ so.calm;
    }

pub returns-in_err-add_record-clause-entry : goal.returns-in_err-add_record-clause-entry
returns-in_err-add_record-clause-entry g c tells at is =
    let so = c.entries.invariant in
    let opening = c.entries.opening in
    let payloads = rest_of c.args.opening.now (g.D.Disk.reads c.args.disk.now 0) in
    let payload = take c.in-Some.n c.next.new.window in
    let was = same_fault c.from_residual-in_err-add_record.result c.in_err-add_record.field-0.0 (told.Entry at) c.from_residual-in_err-add_record.ensures.1 is in
    let wrong = c.in_err-add_record.ensures.entry at (ap Err was) in
    let parts = subst (λ f. rest_of opening (g.D.Disk.reads c.entries.disk f) ≡ payload ∷ rest_of c.next.new.self (g.D.Disk.reads c.entries.disk f)) so.file (rw c.in-Some.is at (c.in_ok-n.ensures.some tells)) in
    record {
      state = c.entries.inventory.state;
      payload = payload;
      front = right_front payloads _ (rest_of c.next.new.self (g.D.Disk.reads c.entries.disk 0)) opening.count at _ _ payload (so.passed tells) parts
          (wrong.0 ∙ c.count.ensures ∙ (rw c.in-Some.is at c.in_ok-n.ensures.counted));
      wrong = wrong.1;
    }

pub returns-clause-log : goal.returns-clause-log
returns-clause-log g c tells =
    let so = c.entries.invariant in
    let file = g.D.Disk.reads c.args.disk.now 0 in
    let after = c.next.new.self in
    let reading : IsReading after file =
    subst (λ (r : ℕ → List ℕ). IsReading after (r 0)) (c.next.ensures.reads tells ∙ so.reads tells) (subst (λ f. IsReading after (g.D.Disk.reads c.next.new.disk f)) so.file (c.next.ensures.reading tells)) in
    ended_file c.args.opening.now.header c.entries.opening after file (rw c.in_default.is at c.in_ok-n.ensures.ended) reading so.header (so.within tells)
