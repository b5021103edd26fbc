use Rattle.std.proofs.Common.{ℕ, subst, ap}
use Rattle.gated_log.specs.State.{LogState}
use Rattle.tx_entry.specs.Entries.{spelling}
use Rattle.transactions_file.specs.Transactions.{IsKept}
use Rattle.channel_files.proofs.Appended.{stop_after, of_disk_after, content_is, as_read_after, others_there, added_there, durable_there, stop_there}
use Rattle.channel_files.proofs.FileOne.{stays_beside_log}
use Rattle.channel_files.proofs.append.append_entry.Goals as goal

pub returns-in_err-append-clause-shows : goal.returns-in_err-append-clause-shows
returns-in_err-append-clause-shows g c told each more =
    let t = c.args.transactions.now in
    let d = c.requires.of_disk told in
    let r0 = g.D.Disk.reads c.args.disk.now in
    let r2 = g.D.Disk.reads c.append.new.disk in
    let l0 = g.D.Disk.leaves c.args.disk.now in
    let l2 = g.D.Disk.leaves c.append.new.disk in
    let payload = spelling c.args.entry.now in
    let others = others_there t.log.file d.file r0 r2 l0 l2 t.log.header payload (c.append.ensures.others told) in
    stop_after t c.args.entry.now r0 r2 l0 l2 d c.requires.allowed c.append.ensures.read_again others (λ f. g.met.D.Disk.reads_left c.args.disk.now f told) each more
    (stop_there t.log.file d.file r0 r2 l0 l2 t.log.header payload (c.append.ensures.stop told))

pub returns-clause-shows : goal.returns-clause-shows
returns-clause-shows g c told each more =
    let t = c.args.transactions.now in
    let d = c.requires.of_disk told in
    let r0 = g.D.Disk.reads c.args.disk.now in
    let r2 = g.D.Disk.reads c.append.new.disk in
    let l0 = g.D.Disk.leaves c.args.disk.now in
    let l2 = g.D.Disk.leaves c.append.new.disk in
    let payload = spelling c.args.entry.now in
    let others = others_there t.log.file d.file r0 r2 l0 l2 t.log.header payload (c.append.ensures.others told) in
    stop_after t c.args.entry.now r0 r2 l0 l2 d c.requires.allowed c.append.ensures.read_again others (λ f. g.met.D.Disk.reads_left c.args.disk.now f told) each more
    (stop_there t.log.file d.file r0 r2 l0 l2 t.log.header payload (c.append.ensures.stop told))

pub returns-clause-of_disk : goal.returns-clause-of_disk
returns-clause-of_disk g c told =
    let t = c.args.transactions.now in
    let d = c.requires.of_disk told in
    let r0 = g.D.Disk.reads c.args.disk.now in
    let r2 = g.D.Disk.reads c.append.new.disk in
    let l0 = g.D.Disk.leaves c.args.disk.now in
    let l2 = g.D.Disk.leaves c.append.new.disk in
    let payload = spelling c.args.entry.now in
    let others = others_there t.log.file d.file r0 r2 l0 l2 t.log.header payload (c.append.ensures.others told) in
    let log = c.in_ok-append.ensures.log in
    let kept = subst (λ (f : ℕ). IsKept c.append.new.self (r2 f)) d.file (c.in_ok-append.ensures.kept told) in
    let added = added_there t.log.file d.file r0 r2 l0 l2 t.log.header payload (c.in_ok-append.ensures.added told) in
    of_disk_after t c.args.entry.now r0 r2 l0 l2 d c.requires.allowed c.append.ensures.read_again others c.append.new.self (ap (λ (l : LogState). l.file) log) (ap (λ (l : LogState). l.header) log) kept added
    c.in_ok-append.ensures.state (c.requires.long told)

pub returns-clause-content : goal.returns-clause-content
returns-clause-content g c told =
    let t = c.args.transactions.now in
    let d = c.requires.of_disk told in
    let r0 = g.D.Disk.reads c.args.disk.now in
    let r2 = g.D.Disk.reads c.append.new.disk in
    let l0 = g.D.Disk.leaves c.args.disk.now in
    let l2 = g.D.Disk.leaves c.append.new.disk in
    let payload = spelling c.args.entry.now in
    let others = others_there t.log.file d.file r0 r2 l0 l2 t.log.header payload (c.append.ensures.others told) in
    let log = c.in_ok-append.ensures.log in
    let kept = subst (λ (f : ℕ). IsKept c.append.new.self (r2 f)) d.file (c.in_ok-append.ensures.kept told) in
    let added = added_there t.log.file d.file r0 r2 l0 l2 t.log.header payload (c.in_ok-append.ensures.added told) in
    content_is t c.args.entry.now r0 r2 l0 l2 d c.requires.allowed c.append.ensures.read_again others c.append.new.self (ap (λ (l : LogState). l.file) log) (ap (λ (l : LogState). l.header) log) kept added
    c.in_ok-append.ensures.state (c.requires.long told)

pub returns-clause-as_read : goal.returns-clause-as_read
returns-clause-as_read g c told each more =
    let t = c.args.transactions.now in
    let d = c.requires.of_disk told in
    let r0 = g.D.Disk.reads c.args.disk.now in
    let r2 = g.D.Disk.reads c.append.new.disk in
    let l0 = g.D.Disk.leaves c.args.disk.now in
    let l2 = g.D.Disk.leaves c.append.new.disk in
    let payload = spelling c.args.entry.now in
    let others = others_there t.log.file d.file r0 r2 l0 l2 t.log.header payload (c.append.ensures.others told) in
    let log = c.in_ok-append.ensures.log in
    let kept = subst (λ (f : ℕ). IsKept c.append.new.self (r2 f)) d.file (c.in_ok-append.ensures.kept told) in
    let added = added_there t.log.file d.file r0 r2 l0 l2 t.log.header payload (c.in_ok-append.ensures.added told) in
    as_read_after t c.args.entry.now r0 r2 l0 l2 d c.requires.allowed c.append.ensures.read_again others c.append.new.self (ap (λ (l : LogState). l.file) log) (ap (λ (l : LogState). l.header) log) kept added
    c.in_ok-append.ensures.state (c.requires.long told) (λ f. g.met.D.Disk.reads_left c.args.disk.now f told) more (durable_there t.log.file d.file r0 r2 l0 l2 t.log.header payload (c.in_ok-append.ensures.durable told))

pub returns-in_err-append-clause-types : goal.returns-in_err-append-clause-types
returns-in_err-append-clause-types g c told =
    let t = c.args.transactions.now in
    let d = c.requires.of_disk told in
    let r0 = g.D.Disk.reads c.args.disk.now in
    let r2 = g.D.Disk.reads c.append.new.disk in
    let l0 = g.D.Disk.leaves c.args.disk.now in
    let l2 = g.D.Disk.leaves c.append.new.disk in
    stays_beside_log (others_there t.log.file d.file r0 r2 l0 l2 t.log.header (spelling c.args.entry.now) (c.append.ensures.others told))

pub returns-clause-types : goal.returns-clause-types
returns-clause-types g c told =
    let t = c.args.transactions.now in
    let d = c.requires.of_disk told in
    let r0 = g.D.Disk.reads c.args.disk.now in
    let r2 = g.D.Disk.reads c.append.new.disk in
    let l0 = g.D.Disk.leaves c.args.disk.now in
    let l2 = g.D.Disk.leaves c.append.new.disk in
    stays_beside_log (others_there t.log.file d.file r0 r2 l0 l2 t.log.header (spelling c.args.entry.now) (c.append.ensures.others told))
