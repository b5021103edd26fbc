use Rattle.std.proofs.Common.{inl, inr, ◌≡◌, ◌+◌, ◌-◌, List, [], ◌∷◌, ◌++◌, length, ap, sym, subst, refl}
use Rattle.store_io.specs.Whole.{EachImage}
use Rattle.tx_entry.specs.declared.entry.Entry.TheVariants.{Store}
use Rattle.transactions_file.specs.Inventory.{State, after}
use Rattle.channel_files.specs.declared.place.Place.{Place}
use Rattle.std.specs.Prelude.{IsErrOf, IsTrue}
use Rattle.channel_files.specs.declared.fault.FilesFault.TheVariants as files
use Rattle.channel_files.specs.Chunks.{Chunk, content_of}
use Rattle.channel_files.specs.Table.{table_of, with_chunk, IsSameTable}
use Rattle.channel_files.specs.Channel.{Channel, IsOfDisk}
use Rattle.channel_files.specs.Images.{EachAsRead}
use Rattle.channel_files.specs.Shows.{Shows, HasStored}
use Rattle.channel_files.specs.Heads.{chunk_of, place_of, with_head, full_at_first}
use Rattle.channel_files.specs.Whole.{HasWholeChunks}
use Rattle.channel_files.proofs.WholeChunks.{whole_same, whole_with, unless_fault}
use Rattle.channel_files.proofs.Appended.{each_shows}
use Rattle.channel_files.proofs.AtOk.{at_value, on_ok, on_ok_both, if_some, channel_with, same_channel}
use Rattle.channel_files.proofs.Tables.{now_read, earlier_read, shown_before, shown_after}
use Rattle.channel_files.proofs.channel.ChannelFiles.store_chunk.Goals as goal

pub returns-clause-stored : goal.returns-clause-stored
returns-clause-stored g c =
    let t = c.self.inside.transactions in
    let s = t.inventory.state in
    let d0 = c.self.inside.disk in
    let d1 = c.store.new.disk in
    let t1 = c.store.new.transactions in
    let r0 = g.D.Disk.reads d0 in
    let r1 = g.D.Disk.reads d1 in
    let l1 = g.D.Disk.leaves d1 in
    let old : Channel g.row.D.Denot = record { disk = d0; transactions = t; sizes = c.self.inside.sizes; confirmed = c.self.inside.confirmed } in
    let maximum = c.self.inside.sizes.maximum in
    let len = length c.args.chunk.now in
    let of_disk = subst (λ v. IsTrue g.D.Disk.tells → IsOfDisk v.transactions (g.D.Disk.reads v.disk)) (sym c.self.view_is) c.requires.of_disk in
    let next = subst (λ v. c.args.number ≡ v.transactions.inventory.state.last + 1) (sym c.self.view_is) c.requires.number in
    let place : Place = place_of (with_head s maximum len) len in
    let chunk : Chunk = chunk_of c.args.number place c.args.chunk.now in
    let before = table_of r0 s.last in
    let result = c.store.result in
    let ensures = c.store.ensures in
    rw (← c.self.view_is) (record {
      place = ensures.place;
      state = ensures.state;
      room = ensures.spare;
      content = λ told. at_value result place (λ p. content_of r1 ≡ content_of r0 ++ chunk_of c.args.number p c.args.chunk.now ∷ []) ensures.place (ensures.content told);
      table = λ told.
          at_value result place (λ p. IsSameTable (with_chunk (chunk_of c.args.number p c.args.chunk.now) before) (table_of r1 c.args.number)) ensures.place
          (on_ok result (content_of r1 ≡ content_of r0 ++ chunk ∷ []) (IsSameTable (with_chunk chunk before) (table_of r1 c.args.number)) (now_read t r0 (of_disk told) chunk next r1) (ensures.content told));
      table_before = λ told.
          on_ok result (content_of r1 ≡ content_of r0 ++ chunk ∷ []) (IsSameTable before (table_of r1 (c.args.number - 1))) (earlier_read t r0 (of_disk told) chunk next r1) (ensures.content told);
      durable = λ told each.
          at_value result place (λ p. EachImage l1 (HasStored c.args.number before (with_chunk (chunk_of c.args.number p c.args.chunk.now) before))) ensures.place
          (on_ok_both result (IsOfDisk t1 r1) (EachAsRead t1 r1 l1) (content_of r1 ≡ content_of r0 ++ chunk ∷ []) (λ p. t1.inventory.state ≡ after (with_head s maximum len) (Store c.args.number p.file p.at len c.args.next_id))
          (EachImage l1 (HasStored c.args.number before (with_chunk chunk before))) (ensures.of_disk told) (ensures.as_read told each) (ensures.content told) ensures.state
          (λ disk1 each1 same p state image left.
          shown_after t r0 (of_disk told) chunk next image (ap (λ (s : State). s.last) state)
          (subst (λ (l : List Chunk). Shows t1.log.header t1.inventory.state.last t1.inventory.state.next_id 0 0 l image) same (each_shows t1 r1 l1 disk1 each1 image left))));
      shows = ensures.shows;
      tables = λ told each image left. elim (ensures.shows told each image left) [
        | inl old ↦ inl (shown_before r0 image old)
        | inr new ↦ inr (shown_after t r0 (of_disk told) chunk next image refl new)
      ];
      full = if_some (full_at_first s t.log.length maximum c.args.number len) (λ n. IsErrOf result (files.Full n) × ((d1 ≡ d0) × (t1 ≡ t)))
          (λ n. IsErrOf result (files.Full n) × (channel_with old d1 t1 ≡ old)) (λ n w. (w.0, same_channel old d1 t1 w.1.0 w.1.1)) ensures.full;
      full_behind = ensures.full_behind;
      not_full = ensures.not_full;
      content_kept = ensures.content_kept;
      of_disk = ensures.of_disk;
      as_read = ensures.as_read;
    })

pub returns-clause-whole_chunks : goal.returns-clause-whole_chunks
returns-clause-whole_chunks g c =
    let s = c.self.inside.transactions.inventory.state in
    let r0 = g.D.Disk.reads c.self.inside.disk in
    let r1 = g.D.Disk.reads c.store.new.disk in
    let len = length c.args.chunk.now in
    let chunk : Chunk = chunk_of c.args.number (place_of (with_head s c.self.inside.sizes.maximum len) len) c.args.chunk.now in
    rw (← c.self.view_is) (λ told whole. unless_fault c.store.result (content_of r1 ≡ content_of r0 ++ chunk ∷ []) (content_of r1 ≡ content_of r0) (HasWholeChunks r1) (c.store.ensures.content told) (c.store.ensures.content_kept told)
    (whole_with (content_of r0) (content_of r1) chunk whole c.requires.whole) (whole_same (content_of r0) (content_of r1) whole))
