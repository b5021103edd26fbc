use Rattle.std.proofs.Common.{◌≡◌, ℕ, [], ◌∷◌, ◌++◌, sym, subst}
use Rattle.store_io.specs.Disk.{Only, OthersStay}
use Rattle.gated_log.specs.Log.{payloads_of, IsLogOf, IsBeforeOrAfter, Each}
use Rattle.gated_log.specs.Of.{IsOf}
use Rattle.channel_files.proofs.record.append_record.Goals as goal

pub append-requires-clause-of_disk : goal.append-requires-clause-of_disk
append-requires-clause-of_disk g c told =
    subst (λ (f : ℕ). IsOf c.args.log.now (g.D.Disk.reads c.args.disk.now f)) (sym c.requires.file) (c.requires.of_log told)

pub returns-in_err-append-clause-others : goal.returns-in_err-append-clause-others
returns-in_err-append-clause-others g c told =
    let r0 = g.D.Disk.reads c.args.disk.now in
    let r1 = g.D.Disk.reads c.append.new.disk in
    let l0 = g.D.Disk.leaves c.args.disk.now in
    let l1 = g.D.Disk.leaves c.append.new.disk in
    subst (λ (f : ℕ). OthersStay f r0 r1 l0 l1) c.requires.file (c.append.ensures.others told)

pub returns-in_err-append-clause-stop : goal.returns-in_err-append-clause-stop
returns-in_err-append-clause-stop g c told =
    let r0 = g.D.Disk.reads c.args.disk.now in
    let r1 = g.D.Disk.reads c.append.new.disk in
    let l0 = g.D.Disk.leaves c.args.disk.now in
    let l1 = g.D.Disk.leaves c.append.new.disk in
    let h = c.args.log.now.header in
    subst (λ (f : ℕ). Each (l0 f) (IsLogOf h (payloads_of (r0 f))) → Each (l1 f) (IsBeforeOrAfter h (payloads_of (r0 f)) c.args.text.now)) c.requires.file (c.append.ensures.stop told)

pub returns-clause-others : goal.returns-clause-others
returns-clause-others g c told =
    let r0 = g.D.Disk.reads c.args.disk.now in
    let r1 = g.D.Disk.reads c.append.new.disk in
    let l0 = g.D.Disk.leaves c.args.disk.now in
    let l1 = g.D.Disk.leaves c.append.new.disk in
    subst (λ (f : ℕ). OthersStay f r0 r1 l0 l1) c.requires.file (c.append.ensures.others told)

pub returns-clause-stop : goal.returns-clause-stop
returns-clause-stop g c told =
    let r0 = g.D.Disk.reads c.args.disk.now in
    let r1 = g.D.Disk.reads c.append.new.disk in
    let l0 = g.D.Disk.leaves c.args.disk.now in
    let l1 = g.D.Disk.leaves c.append.new.disk in
    let h = c.args.log.now.header in
    subst (λ (f : ℕ). Each (l0 f) (IsLogOf h (payloads_of (r0 f))) → Each (l1 f) (IsBeforeOrAfter h (payloads_of (r0 f)) c.args.text.now)) c.requires.file (c.append.ensures.stop told)

pub returns-clause-of_log : goal.returns-clause-of_log
returns-clause-of_log g c told =
    let r0 = g.D.Disk.reads c.args.disk.now in
    let r1 = g.D.Disk.reads c.append.new.disk in
    let l0 = g.D.Disk.leaves c.args.disk.now in
    let l1 = g.D.Disk.leaves c.append.new.disk in
    subst (λ (f : ℕ). IsOf c.append.new.self (r1 f)) c.requires.file (c.in_ok-append.ensures.of_disk told)

pub returns-clause-added : goal.returns-clause-added
returns-clause-added g c told =
    let r0 = g.D.Disk.reads c.args.disk.now in
    let r1 = g.D.Disk.reads c.append.new.disk in
    let l0 = g.D.Disk.leaves c.args.disk.now in
    let l1 = g.D.Disk.leaves c.append.new.disk in
    subst (λ (f : ℕ). payloads_of (r1 f) ≡ payloads_of (r0 f) ++ c.args.text.now ∷ []) c.requires.file (c.in_ok-append.ensures.added told)

pub returns-clause-synced : goal.returns-clause-synced
returns-clause-synced g c told =
    let r0 = g.D.Disk.reads c.args.disk.now in
    let r1 = g.D.Disk.reads c.append.new.disk in
    let l0 = g.D.Disk.leaves c.args.disk.now in
    let l1 = g.D.Disk.leaves c.append.new.disk in
    subst (λ (f : ℕ). Only (r1 f) (l1 f)) c.requires.file (c.in_ok-append.ensures.durable told)
