-- The log's fields are those that its value shows, and one more record was added.
use Rattle.std.proofs.Common.{inl, ◌≡◌, ◌≤◌, [], ◌∷◌, ◌++◌, length, ap, subst, sym, arith}
use Rattle.std.proofs.lemmas.List.{length_push}
use Rattle.gated_log.specs.Log.{payloads_of, length_of, IsLogOf, IsBeforeOrAfter, Each}
use Rattle.gated_log.specs.State.{LogState}
use Rattle.gated_log.proofs.Payloads.{log_payloads, log_long, length-push, before_or_after}
use Rattle.gated_log.proofs.log.GatedLog.append.Goals as goal

pub add_record-requires-clause-end : goal.add_record-requires-clause-end
add_record-requires-clause-end g c told =
    subst (λ (l : LogState). l.length ≡ length_of (payloads_of (g.D.Disk.reads c.args.disk.now l.file))) (sym c.self.view_is) (c.requires.of_disk told).long

pub add_record-requires-clause-within : goal.add_record-requires-clause-within
add_record-requires-clause-within g c told =
    let log = c.requires.of_disk told in
    let within : c.args.self.now.length ≤ length (g.D.Disk.reads c.args.disk.now c.args.self.now.file) = omega (arith, log.long, log_long _ _ _ log.is) in
    subst (λ (l : LogState). l.length ≤ length (g.D.Disk.reads c.args.disk.now l.file)) (sym c.self.view_is) within

pub returns-then-self-gt-FULL-clause-stop_payloads : goal.returns-then-self-gt-FULL-clause-stop_payloads
returns-then-self-gt-FULL-clause-stop_payloads g c told each image left = inl (log_payloads _ _ _ (each image left))

pub returns-in_err-add_record-clause-stop : goal.returns-in_err-add_record-clause-stop
returns-in_err-add_record-clause-stop g c told =
    let is = subst (λ (l : LogState). IsLogOf l.header (payloads_of (g.D.Disk.reads c.args.disk.now l.file)) (g.D.Disk.reads c.args.disk.now l.file)) (sym c.self.view_is) (c.requires.of_disk told).is in
    subst (λ (l : LogState). Each (g.D.Disk.leaves c.args.disk.now l.file) (IsLogOf l.header (payloads_of (g.D.Disk.reads c.args.disk.now l.file)))
    → Each (g.D.Disk.leaves c.add_record.new.disk l.file) (IsBeforeOrAfter l.header (payloads_of (g.D.Disk.reads c.args.disk.now l.file)) c.args.payload.now))
    c.self.view_is (c.add_record.ensures.stop told c.self.inside.header is)

pub returns-in_err-add_record-clause-stop_payloads : goal.returns-in_err-add_record-clause-stop_payloads
returns-in_err-add_record-clause-stop_payloads g c told each image left =
    before_or_after _ _ _ image (returns-in_err-add_record-clause-stop g c told each image left)

pub returns-clause-stop : goal.returns-clause-stop
returns-clause-stop g c told =
    let is = subst (λ (l : LogState). IsLogOf l.header (payloads_of (g.D.Disk.reads c.args.disk.now l.file)) (g.D.Disk.reads c.args.disk.now l.file)) (sym c.self.view_is) (c.requires.of_disk told).is in
    subst (λ (l : LogState). Each (g.D.Disk.leaves c.args.disk.now l.file) (IsLogOf l.header (payloads_of (g.D.Disk.reads c.args.disk.now l.file)))
    → Each (g.D.Disk.leaves c.add_record.new.disk l.file) (IsBeforeOrAfter l.header (payloads_of (g.D.Disk.reads c.args.disk.now l.file)) c.args.payload.now))
    c.self.view_is (c.add_record.ensures.stop told c.self.inside.header is)

pub returns-clause-stop_payloads : goal.returns-clause-stop_payloads
returns-clause-stop_payloads g c told each image left = before_or_after _ _ _ image (returns-clause-stop g c told each image left)

pub returns-clause-added : goal.returns-clause-added
returns-clause-added g c told =
    let is = subst (λ (l : LogState). IsLogOf l.header (payloads_of (g.D.Disk.reads c.args.disk.now l.file)) (g.D.Disk.reads c.args.disk.now l.file)) (sym c.self.view_is) (c.requires.of_disk told).is in
    let file = ap (λ (l : LogState). l.file) c.self.view_is in
    subst (λ f. payloads_of (g.D.Disk.reads c.add_record.new.disk f) ≡ payloads_of (g.D.Disk.reads c.args.disk.now f) ++ c.args.payload.now ∷ []) file
    (log_payloads _ _ _ (c.in_ok-add_record.ensures.added told c.self.inside.header is))

pub returns-clause-of_disk : goal.returns-clause-of_disk
returns-clause-of_disk g c told =
    let log = c.requires.of_disk told in
    let payload = c.args.payload.now in
    let is = subst (λ (l : LogState). IsLogOf l.header (payloads_of (g.D.Disk.reads c.args.disk.now l.file)) (g.D.Disk.reads c.args.disk.now l.file)) (sym c.self.view_is) log.is in
    let file = ap (λ (l : LogState). l.file) c.self.view_is in
    let now = subst (λ f. IsLogOf c.self.inside.header (payloads_of (g.D.Disk.reads c.args.disk.now f) ++ payload ∷ []) (g.D.Disk.reads c.add_record.new.disk f)) file
    (c.in_ok-add_record.ensures.added told c.self.inside.header is) in
    let old = payloads_of (g.D.Disk.reads c.args.disk.now c.args.self.now.file) in
    let added = log_payloads _ _ _ now in
    let end = ap (λ (l : LogState). l.length) c.self.view_is in
    let count = ap (λ (l : LogState). l.count) c.self.view_is in
    record {
      is = subst (λ ps. IsLogOf c.self.inside.header ps (g.D.Disk.reads c.add_record.new.disk c.args.self.now.file)) (sym added) now;
      long = omega (arith, end, log.long, length-push old payload, ap length_of added);
      count = omega (arith, count, log.count, length_push old payload, ap length added);
    }
