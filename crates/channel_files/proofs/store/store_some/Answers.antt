use Rattle.std.proofs.Common.{inl, inr, ◌≤◌, ◌+◌, length, ap, subst, ◌∙◌, arith}
use Rattle.gated_log.specs.Log.{payloads_of}
use Rattle.transactions_file.specs.Inventory.{State}
use Rattle.channel_files.specs.Chunks.{Range, ranges_of, content_of}
use Rattle.channel_files.specs.Shows.{Shows}
use Rattle.channel_files.proofs.Appended.{no_newest}
use Rattle.channel_files.proofs.Within.{store_behind, two_up}
use Rattle.channel_files.proofs.Written.{reaches, stands}
use Rattle.channel_files.proofs.Appended.{each_shows, shows_read, as_read_holds}
use Rattle.channel_files.proofs.Changes.{long_set, agrees_set, one_chunk}
use Rattle.channel_files.proofs.FileOne.{stays_twice}
use Rattle.channel_files.proofs.LiveFiles.{live_resized}
use Rattle.channel_files.proofs.store.store_some.Goals as goal

pub returns-then-length-gt-FULL-clause-shows : goal.returns-then-length-gt-FULL-clause-shows
returns-then-length-gt-FULL-clause-shows g c told each image left =
    inl (each_shows c.args.transactions.now (g.D.Disk.reads c.args.disk.now) (g.D.Disk.leaves c.args.disk.now) (c.requires.of_disk told) each image left)

pub overflow_cast-place : goal.overflow_cast-place
overflow_cast-place g c =
    let t = c.args.transactions.now in
    let s = t.inventory.state in
    let here = store_behind s c.args.number c.args.place.file c.args.place.at (length c.args.chunk.now) c.args.next_id c.requires.some c.requires.allowed in
    omega (arith, here.head, c.inventory-inventory.ensures.sound.created)

pub write_behind-requires-clause-apart : goal.write_behind-requires-clause-apart
write_behind-requires-clause-apart g c =
    let t = c.args.transactions.now in
    let s = t.inventory.state in
    let here = store_behind s c.args.number c.args.place.file c.args.place.at (length c.args.chunk.now) c.args.next_id c.requires.some c.requires.allowed in
    two_up s c.inventory-inventory.ensures.sound c.args.place.file here.live

pub returns-in_err-write_behind-clause-shows : goal.returns-in_err-write_behind-clause-shows
returns-in_err-write_behind-clause-shows g c told each image left =
    let t = c.args.transactions.now in
    let d = c.requires.of_disk told in
    inl (shows_read t (g.D.Disk.reads c.args.disk.now) image d (as_read_holds t (g.D.Disk.reads c.args.disk.now) image d (c.write_behind.ensures.stop told each image left)))

pub append_entry-requires-clause-long : goal.append_entry-requires-clause-long
append_entry-requires-clause-long g c told =
    let t = c.args.transactions.now in
    let s = t.inventory.state in
    let here = store_behind s c.args.number c.args.place.file c.args.place.at (length c.args.chunk.now) c.args.next_id c.requires.some c.requires.allowed in
    let d = c.requires.of_disk told in
    let r0 = g.D.Disk.reads c.args.disk.now in
    let r1 = g.D.Disk.reads c.write_behind.new.disk in
    let within : c.args.place.at ≤ length (r0 c.args.place.file) = omega (arith, here.end, d.long c.args.place.file) in
    let written = c.in_ok-write_behind.ensures.written told in
    let reach = reaches c.args.place.at c.args.chunk.now (r0 c.args.place.file) (r1 c.args.place.file) within written in
    long_set s.files c.args.place.file (c.args.place.at + length c.args.chunk.now) here.live r1 reach (c.in_ok-write_behind.ensures.of_disk told).long

pub returns-in_err-append_entry-clause-shows : goal.returns-in_err-append_entry-clause-shows
returns-in_err-append_entry-clause-shows g c told each image left =
    let t = c.args.transactions.now in
    let s = t.inventory.state in
    let here = store_behind s c.args.number c.args.place.file c.args.place.at (length c.args.chunk.now) c.args.next_id c.requires.some c.requires.allowed in
    let d = c.requires.of_disk told in
    let r0 = g.D.Disk.reads c.args.disk.now in
    let r1 = g.D.Disk.reads c.write_behind.new.disk in
    let within : c.args.place.at ≤ length (r0 c.args.place.file) = omega (arith, here.end, d.long c.args.place.file) in
    let written = c.in_ok-write_behind.ensures.written told in
    let reach = reaches c.args.place.at c.args.chunk.now (r0 c.args.place.file) (r1 c.args.place.file) within written in
    let r : Range = record { number = c.args.number; file = c.args.place.file; at = c.args.place.at; length = length c.args.chunk.now } in
    let one = one_chunk r1 (ranges_of (payloads_of (r1 0))) r c.args.chunk.now (content_of r0) (c.in_ok-write_behind.ensures.content told) (stands c.args.place.at c.args.chunk.now (r0 c.args.place.file) (r1 c.args.place.file) within written) in
    let each1 = c.in_ok-write_behind.ensures.as_read told each in
    let more = agrees_set s.files c.args.place.file (c.args.place.at + length c.args.chunk.now) here.live r1 reach (g.D.Disk.leaves c.write_behind.new.disk) (c.in_ok-write_behind.ensures.durable told) (λ image left. (each1 image left).agrees) in
    elim (c.append_entry.ensures.shows told each1 more image left) [
      | inl s ↦ inl (subst (λ chunks. Shows t.log.header t.inventory.state.last t.inventory.state.next_id 0 0 chunks image) (c.in_ok-write_behind.ensures.content told) (no_newest s))
      | inr s ↦ inr (subst (λ chunks. Shows t.log.header c.args.number c.args.next_id c.args.number t.inventory.state.next_id chunks image) one s)
    ]

pub returns-clause-shows : goal.returns-clause-shows
returns-clause-shows g c told each image left =
    let t = c.args.transactions.now in
    let s = t.inventory.state in
    let here = store_behind s c.args.number c.args.place.file c.args.place.at (length c.args.chunk.now) c.args.next_id c.requires.some c.requires.allowed in
    let d = c.requires.of_disk told in
    let r0 = g.D.Disk.reads c.args.disk.now in
    let r1 = g.D.Disk.reads c.write_behind.new.disk in
    let within : c.args.place.at ≤ length (r0 c.args.place.file) = omega (arith, here.end, d.long c.args.place.file) in
    let written = c.in_ok-write_behind.ensures.written told in
    let reach = reaches c.args.place.at c.args.chunk.now (r0 c.args.place.file) (r1 c.args.place.file) within written in
    let r : Range = record { number = c.args.number; file = c.args.place.file; at = c.args.place.at; length = length c.args.chunk.now } in
    let one = one_chunk r1 (ranges_of (payloads_of (r1 0))) r c.args.chunk.now (content_of r0) (c.in_ok-write_behind.ensures.content told) (stands c.args.place.at c.args.chunk.now (r0 c.args.place.file) (r1 c.args.place.file) within written) in
    let each1 = c.in_ok-write_behind.ensures.as_read told each in
    let more = agrees_set s.files c.args.place.file (c.args.place.at + length c.args.chunk.now) here.live r1 reach (g.D.Disk.leaves c.write_behind.new.disk) (c.in_ok-write_behind.ensures.durable told) (λ image left. (each1 image left).agrees) in
    elim (c.append_entry.ensures.shows told each1 more image left) [
      | inl s ↦ inl (subst (λ chunks. Shows t.log.header t.inventory.state.last t.inventory.state.next_id 0 0 chunks image) (c.in_ok-write_behind.ensures.content told) (no_newest s))
      | inr s ↦ inr (subst (λ chunks. Shows t.log.header c.args.number c.args.next_id c.args.number t.inventory.state.next_id chunks image) one s)
    ]

pub returns-clause-content : goal.returns-clause-content
returns-clause-content g c told =
    let t = c.args.transactions.now in
    let s = t.inventory.state in
    let here = store_behind s c.args.number c.args.place.file c.args.place.at (length c.args.chunk.now) c.args.next_id c.requires.some c.requires.allowed in
    let d = c.requires.of_disk told in
    let r0 = g.D.Disk.reads c.args.disk.now in
    let r1 = g.D.Disk.reads c.write_behind.new.disk in
    let within : c.args.place.at ≤ length (r0 c.args.place.file) = omega (arith, here.end, d.long c.args.place.file) in
    let written = c.in_ok-write_behind.ensures.written told in
    let reach = reaches c.args.place.at c.args.chunk.now (r0 c.args.place.file) (r1 c.args.place.file) within written in
    let r : Range = record { number = c.args.number; file = c.args.place.file; at = c.args.place.at; length = length c.args.chunk.now } in
    let one = one_chunk r1 (ranges_of (payloads_of (r1 0))) r c.args.chunk.now (content_of r0) (c.in_ok-write_behind.ensures.content told) (stands c.args.place.at c.args.chunk.now (r0 c.args.place.file) (r1 c.args.place.file) within written) in
    c.in_ok-append_entry.ensures.content told ∙ one

pub returns-clause-as_read : goal.returns-clause-as_read
returns-clause-as_read g c told each =
    let t = c.args.transactions.now in
    let s = t.inventory.state in
    let here = store_behind s c.args.number c.args.place.file c.args.place.at (length c.args.chunk.now) c.args.next_id c.requires.some c.requires.allowed in
    let d = c.requires.of_disk told in
    let r0 = g.D.Disk.reads c.args.disk.now in
    let r1 = g.D.Disk.reads c.write_behind.new.disk in
    let within : c.args.place.at ≤ length (r0 c.args.place.file) = omega (arith, here.end, d.long c.args.place.file) in
    let written = c.in_ok-write_behind.ensures.written told in
    let reach = reaches c.args.place.at c.args.chunk.now (r0 c.args.place.file) (r1 c.args.place.file) within written in
    let each1 = c.in_ok-write_behind.ensures.as_read told each in
    let more = agrees_set s.files c.args.place.file (c.args.place.at + length c.args.chunk.now) here.live r1 reach (g.D.Disk.leaves c.write_behind.new.disk) (c.in_ok-write_behind.ensures.durable told) (λ image left. (each1 image left).agrees) in
    c.in_ok-append_entry.ensures.as_read told each1 more

pub returns-in_err-append_entry-clause-types : goal.returns-in_err-append_entry-clause-types
returns-in_err-append_entry-clause-types g c told = stays_twice (c.write_behind.ensures.types told) (c.append_entry.ensures.types told)

pub returns-clause-types : goal.returns-clause-types
returns-clause-types g c told = stays_twice (c.write_behind.ensures.types told) (c.append_entry.ensures.types told)

pub returns-clause-live : goal.returns-clause-live
returns-clause-live g c =
    let s = c.args.transactions.now.inventory.state in
    live_resized c.append_entry.new.transactions.inventory.state s.files c.args.place.file (c.args.place.at + length c.args.chunk.now) (ap (λ (s : State). s.files) c.in_ok-append_entry.ensures.state)
