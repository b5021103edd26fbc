use Rattle.std.proofs.Common.{refl, sym, subst}
use Rattle.std.specs.Prelude.{IsTrue}
use Rattle.channel_files.specs.Channel.{IsOfDisk}
use Rattle.channel_files.proofs.OtherFiles.{of_disk_kept, content_kept, table_kept, as_read_kept, tables_kept}
use Rattle.channel_files.proofs.channel.ChannelFiles.keep_record.Goals as goal

pub returns-clause-appended : goal.returns-clause-appended
returns-clause-appended g c =
    let ensures = c.append_record.ensures in
    rw (← c.self.view_is) (record { added = ensures.added; synced = ensures.synced; stop = ensures.stop; others = ensures.others; full = ensures.full; not_full = ensures.not_full })

pub returns-clause-stays : goal.returns-clause-stays
returns-clause-stays g c =
    let t = c.self.inside.transactions in
    let d0 = c.self.inside.disk in
    let d1 = c.append_record.new.disk in
    let r0 = g.D.Disk.reads d0 in
    let r1 = g.D.Disk.reads d1 in
    let l0 = g.D.Disk.leaves d0 in
    let l1 = g.D.Disk.leaves d1 in
    let of_disk = subst (λ v. IsTrue g.D.Disk.tells → IsOfDisk v.transactions (g.D.Disk.reads v.disk)) (sym c.self.view_is) c.requires.of_disk in
    let others = c.append_record.ensures.others in
    rw (← c.self.view_is) (record {
      transactions = refl;
      sizes = refl;
      confirmed = refl;
      of_disk = λ told. of_disk_kept t r0 r1 l0 l1 (of_disk told) (others told);
      content = λ told. content_kept t r0 r1 l0 l1 (of_disk told) (others told);
      table = λ told. table_kept t r0 r1 l0 l1 (of_disk told) (others told);
      as_read = λ told each. as_read_kept t r0 r1 l0 l1 (of_disk told) (others told) (λ f. g.met.D.Disk.reads_left d0 f told) each;
      tables = λ told each. tables_kept t r0 r1 l0 l1 (of_disk told) (others told) (λ f. g.met.D.Disk.reads_left d0 f told) each;
    })
