use Rattle.std.proofs.Common.{inl, inr, ◌≡◌, ◌-◌, ℕ, List, length, take, ap, ◌∙◌, sym, subst}
use Rattle.std.specs.Prelude.{IsErrOf, IsTrue}
use Rattle.store_io.specs.Whole.{EachImage}
use Rattle.transactions_file.specs.Inventory.{State}
use Rattle.channel_files.specs.declared.fault.FilesFault.TheVariants as files
use Rattle.channel_files.specs.Chunks.{Chunk, content_of}
use Rattle.channel_files.specs.Table.{table_of, table_at, IsSameTable}
use Rattle.channel_files.specs.Channel.{Channel, IsOfDisk}
use Rattle.channel_files.specs.Images.{EachAsRead}
use Rattle.channel_files.specs.Shows.{Shows, HasTable}
use Rattle.channel_files.specs.Heads.{full_record}
use Rattle.channel_files.specs.Stores.{IsStore, drops_to}
use Rattle.channel_files.specs.Whole.{HasWholeChunks}
use Rattle.channel_files.proofs.WholeChunks.{whole_front}
use Rattle.channel_files.proofs.Appended.{each_shows}
use Rattle.channel_files.proofs.AtOk.{on_ok, on_ok_all, if_some, at_err, channel_of, whole_channel}
use Rattle.channel_files.proofs.Tables.{shown_before, shown_dropped, table_dropped, number_dropped, store_at, drops_last}
use Rattle.channel_files.proofs.channel.ChannelFiles.drop_store.Goals as goal

pub returns-clause-dropped : goal.returns-clause-dropped
returns-clause-dropped g c =
    let t = c.self.inside.transactions in
    let s = t.inventory.state in
    let d0 = c.self.inside.disk in
    let k0 = c.self.inside.confirmed in
    let d1 = c.drop_last.new.disk in
    let t1 = c.drop_last.new.transactions in
    let k1 = c.drop_last.new.confirmed in
    let r0 = g.D.Disk.reads d0 in
    let r1 = g.D.Disk.reads d1 in
    let l1 = g.D.Disk.leaves d1 in
    let old : Channel g.row.D.Denot = record { disk = d0; transactions = t; sizes = c.self.inside.sizes; confirmed = k0 } in
    let of_disk = subst (λ v. IsTrue g.D.Disk.tells → IsOfDisk v.transactions (g.D.Disk.reads v.disk)) (sym c.self.view_is) c.requires.of_disk in
    let last = subst (λ v. IsStore v.transactions.inventory.state.entry) (sym c.self.view_is) c.requires.last in
    let at = store_at s.entry last in
    let less = take (length (content_of r0) - 1) (content_of r0) in
    let before = table_of r0 s.last_before in
    let result = c.drop_last.result in
    let ensures = c.drop_last.ensures in
    rw (← c.self.view_is) (record {
      state = ensures.state;
      number = λ told. number_dropped t r0 (of_disk told) at.0 at.1.0 at.1.1.0 at.1.1.1;
      content = ensures.content;
      table = λ told.
          on_ok result (content_of r1 ≡ less) (IsSameTable before (table_of r1 s.last_before))
          (λ same id. ap (λ (l : List Chunk). table_at s.last_before l id) same ∙ table_dropped t r0 (of_disk told) at.0 at.1.0 at.1.1.0 at.1.1.1 id) (ensures.content told);
      durable = λ told each.
          on_ok_all result (IsOfDisk t1 r1) (EachAsRead t1 r1 l1) (content_of r1 ≡ less) (t1.inventory.state ≡ drops_to s) (EachImage l1 (HasTable s.last_before before)) (ensures.of_disk told) (ensures.as_read told each) (ensures.content told) ensures.state
          (λ disk1 each1 same state image left.
          shown_dropped t r0 (of_disk told) at.0 at.1.0 at.1.1.0 at.1.1.1 image
          (subst (λ (k : ℕ). Shows t1.log.header k t1.inventory.state.next_id 0 0 less image) (ap (λ (s : State). s.last) state ∙ drops_last s s.entry last)
          (subst (λ (l : List Chunk). Shows t1.log.header t1.inventory.state.last t1.inventory.state.next_id 0 0 l image) same (each_shows t1 r1 l1 disk1 each1 image left))));
      shows = ensures.shows;
      tables = λ told each image left. elim (ensures.shows told each image left) [
        | inl kept ↦ inl (shown_before r0 image kept)
        | inr gone ↦ inr (shown_dropped t r0 (of_disk told) at.0 at.1.0 at.1.1.0 at.1.1.1 image gone)
      ];
      full = if_some (full_record t.log.length) (λ n. IsErrOf result (files.Full n) × (d1 ≡ d0)) (λ n. IsErrOf result (files.Full n) × (channel_of old d1 t1 k1 ≡ old))
          (λ n w. (w.0, whole_channel old d1 t1 k1 w.1 (at_err result (files.Full n) (t1 ≡ t) w.0 ensures.err) (at_err result (files.Full n) (k1 ≡ k0) w.0 ensures.not_confirmed))) ensures.full;
      not_full = ensures.not_full;
      of_disk = ensures.of_disk;
      as_read = ensures.as_read;
    })

pub returns-clause-whole_chunks : goal.returns-clause-whole_chunks
returns-clause-whole_chunks g c =
    let r0 = g.D.Disk.reads c.self.inside.disk in
    let r1 = g.D.Disk.reads c.drop_last.new.disk in
    let less = take (length (content_of r0) - 1) (content_of r0) in
    rw (← c.self.view_is) (λ told whole. on_ok c.drop_last.result (content_of r1 ≡ less) (HasWholeChunks r1) (whole_front (content_of r0) (content_of r1) (length (content_of r0) - 1) whole) (c.drop_last.ensures.content told))
