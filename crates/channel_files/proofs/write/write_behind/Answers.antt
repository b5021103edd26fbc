use Rattle.std.proofs.Common.{length}
use Rattle.channel_files.proofs.Written.{stop_write, of_disk_write, content_write, as_read_write}
use Rattle.channel_files.proofs.FileOne.{stays_beside_data}
use Rattle.channel_files.proofs.write.write_behind.Goals as goal

pub returns-in_err-append_chunk-clause-stop : goal.returns-in_err-append_chunk-clause-stop
returns-in_err-append_chunk-clause-stop g c told each =
    let t = c.args.transactions.now in
    let d = c.requires.of_disk told in
    let r0 = g.D.Disk.reads c.args.disk.now in
    let r1 = g.D.Disk.reads c.append_chunk.new.disk in
    let l0 = g.D.Disk.leaves c.args.disk.now in
    let l1 = g.D.Disk.leaves c.append_chunk.new.disk in
    let others = c.append_chunk.ensures.others told in
    stop_write t r0 c.args.file c.args.at d c.requires.behind c.requires.apart (length c.args.bytes.now) l0 l1 (c.append_chunk.ensures.stop told) others.leaves each

pub returns-clause-stop : goal.returns-clause-stop
returns-clause-stop g c told each =
    let t = c.args.transactions.now in
    let d = c.requires.of_disk told in
    let r0 = g.D.Disk.reads c.args.disk.now in
    let r1 = g.D.Disk.reads c.append_chunk.new.disk in
    let l0 = g.D.Disk.leaves c.args.disk.now in
    let l1 = g.D.Disk.leaves c.append_chunk.new.disk in
    let others = c.append_chunk.ensures.others told in
    stop_write t r0 c.args.file c.args.at d c.requires.behind c.requires.apart (length c.args.bytes.now) l0 l1 (c.append_chunk.ensures.stop told) others.leaves each

pub returns-clause-of_disk : goal.returns-clause-of_disk
returns-clause-of_disk g c told =
    let t = c.args.transactions.now in
    let d = c.requires.of_disk told in
    let r0 = g.D.Disk.reads c.args.disk.now in
    let r1 = g.D.Disk.reads c.append_chunk.new.disk in
    let l0 = g.D.Disk.leaves c.args.disk.now in
    let l1 = g.D.Disk.leaves c.append_chunk.new.disk in
    let others = c.append_chunk.ensures.others told in
    of_disk_write t r0 c.args.file c.args.at d c.requires.behind c.requires.apart c.args.bytes.now r1 l0 l1 (c.requires.within told) (c.in_ok-append_chunk.ensures.written told) others

pub returns-clause-content : goal.returns-clause-content
returns-clause-content g c told =
    let t = c.args.transactions.now in
    let d = c.requires.of_disk told in
    let r0 = g.D.Disk.reads c.args.disk.now in
    let r1 = g.D.Disk.reads c.append_chunk.new.disk in
    let l0 = g.D.Disk.leaves c.args.disk.now in
    let l1 = g.D.Disk.leaves c.append_chunk.new.disk in
    let others = c.append_chunk.ensures.others told in
    content_write t r0 c.args.file c.args.at d c.requires.behind c.requires.apart c.args.bytes.now r1 l0 l1 (c.requires.within told) (c.in_ok-append_chunk.ensures.written told) others

pub returns-clause-as_read : goal.returns-clause-as_read
returns-clause-as_read g c told each =
    let t = c.args.transactions.now in
    let d = c.requires.of_disk told in
    let r0 = g.D.Disk.reads c.args.disk.now in
    let r1 = g.D.Disk.reads c.append_chunk.new.disk in
    let l0 = g.D.Disk.leaves c.args.disk.now in
    let l1 = g.D.Disk.leaves c.append_chunk.new.disk in
    let others = c.append_chunk.ensures.others told in
    as_read_write t r0 c.args.file c.args.at d c.requires.behind c.requires.apart c.args.bytes.now r1 l0 l1 (c.requires.within told) (c.in_ok-append_chunk.ensures.written told) others (c.append_chunk.ensures.stop told) each

pub returns-in_err-append_chunk-clause-types : goal.returns-in_err-append_chunk-clause-types
returns-in_err-append_chunk-clause-types g c told = stays_beside_data c.args.file c.requires.apart (c.append_chunk.ensures.others told)

pub returns-clause-types : goal.returns-clause-types
returns-clause-types g c told = stays_beside_data c.args.file c.requires.apart (c.append_chunk.ensures.others told)
