use Rattle.std.proofs.Common.{inl, inr, ap, subst, ◌∙◌, arith}
use Rattle.store_io.specs.Whole.{EachImage}
use Rattle.gated_log.specs.Log.{payloads_of}
use Rattle.transactions_file.specs.Files.{set_length}
use Rattle.transactions_file.specs.Inventory.{State}
use Rattle.channel_files.specs.Chunks.{ranges_of}
use Rattle.channel_files.specs.Images.{AgreesBelow}
use Rattle.channel_files.specs.Shows.{Shows}
use Rattle.channel_files.proofs.Appended.{no_newest}
use Rattle.channel_files.proofs.Within.{all_fit, undo_less}
use Rattle.channel_files.proofs.Changes.{agrees_less}
use Rattle.channel_files.proofs.Tables.{content_dropped}
use Rattle.channel_files.proofs.LiveFiles.{live_resized}
use Rattle.channel_files.proofs.truncate.truncate.Goals as goal

pub append_entry-requires-clause-long : goal.append_entry-requires-clause-long
append_entry-requires-clause-long g c told f =
    let t = c.args.transactions.now in
    let s = t.inventory.state in
    let d = c.requires.of_disk told in
    let r0 = g.D.Disk.reads c.args.disk.now in
    let fit = all_fit (payloads_of (r0 0)) s d.kept.inventory in
    let less = undo_less s (ranges_of (payloads_of (r0 0))) s.entry c.args.file c.args.at c.args.number c.requires.last fit.undone in
    omega (arith, less f, d.long f)

pub returns-in_err-append_entry-clause-shows : goal.returns-in_err-append_entry-clause-shows
returns-in_err-append_entry-clause-shows g c told each image left =
    let t = c.args.transactions.now in
    let s = t.inventory.state in
    let d = c.requires.of_disk told in
    let r0 = g.D.Disk.reads c.args.disk.now in
    let fit = all_fit (payloads_of (r0 0)) s d.kept.inventory in
    let less = undo_less s (ranges_of (payloads_of (r0 0))) s.entry c.args.file c.args.at c.args.number c.requires.last fit.undone in
    let more : EachImage (g.D.Disk.leaves c.args.disk.now) (AgreesBelow (set_length s.files c.args.file c.args.at) r0) = λ image left. agrees_less s.files (set_length s.files c.args.file c.args.at) r0 image less (each image left).agrees in
    elim (c.append_entry.ensures.shows told each more image left) [
      | inl old ↦ inl old
      | inr new ↦ inr (subst (λ chunks. Shows t.log.header s.last_before s.next_id_before 0 0 chunks image) (content_dropped t r0 d c.args.file c.args.at c.args.number c.requires.last) (no_newest new))
    ]

pub returns-clause-shows : goal.returns-clause-shows
returns-clause-shows g c told each image left =
    let t = c.args.transactions.now in
    let s = t.inventory.state in
    let d = c.requires.of_disk told in
    let r0 = g.D.Disk.reads c.args.disk.now in
    let fit = all_fit (payloads_of (r0 0)) s d.kept.inventory in
    let less = undo_less s (ranges_of (payloads_of (r0 0))) s.entry c.args.file c.args.at c.args.number c.requires.last fit.undone in
    let more : EachImage (g.D.Disk.leaves c.args.disk.now) (AgreesBelow (set_length s.files c.args.file c.args.at) r0) = λ image left. agrees_less s.files (set_length s.files c.args.file c.args.at) r0 image less (each image left).agrees in
    elim (c.append_entry.ensures.shows told each more image left) [
      | inl old ↦ inl old
      | inr new ↦ inr (subst (λ chunks. Shows t.log.header s.last_before s.next_id_before 0 0 chunks image) (content_dropped t r0 d c.args.file c.args.at c.args.number c.requires.last) (no_newest new))
    ]

pub returns-clause-content : goal.returns-clause-content
returns-clause-content g c told =
    c.in_ok-append_entry.ensures.content told ∙ content_dropped c.args.transactions.now (g.D.Disk.reads c.args.disk.now) (c.requires.of_disk told) c.args.file c.args.at c.args.number c.requires.last

pub returns-clause-as_read : goal.returns-clause-as_read
returns-clause-as_read g c told each =
    let t = c.args.transactions.now in
    let s = t.inventory.state in
    let d = c.requires.of_disk told in
    let r0 = g.D.Disk.reads c.args.disk.now in
    let fit = all_fit (payloads_of (r0 0)) s d.kept.inventory in
    let less = undo_less s (ranges_of (payloads_of (r0 0))) s.entry c.args.file c.args.at c.args.number c.requires.last fit.undone in
    let more : EachImage (g.D.Disk.leaves c.args.disk.now) (AgreesBelow (set_length s.files c.args.file c.args.at) r0) = λ image left. agrees_less s.files (set_length s.files c.args.file c.args.at) r0 image less (each image left).agrees in
    c.in_ok-append_entry.ensures.as_read told each more

pub returns-clause-live : goal.returns-clause-live
returns-clause-live g c =
    live_resized c.append_entry.new.transactions.inventory.state c.args.transactions.now.inventory.state.files c.args.file c.args.at (ap (λ (s : State). s.files) c.in_ok-append_entry.ensures.state)
