-- The chunks are read by rising channel.
use Rattle.std.proofs.Common.{◌≡◌, ◌∙◌, ℕ, List, [], ◌∷◌, ◌++◌, Err, length, map, refl, sym, ap, subst, arith}
use Rattle.std.proofs.lemmas.List.{length-map, length_push}
use Rattle.oid_table.specs.Table.{Table}
use Rattle.entity_index.specs.declared.row.Row.{Row}
use Rattle.channel.specs.ChunkRule.{HasRightChunks}
use Rattle.channel.specs.Images.{Image}
use Rattle.recovery.specs.Images.{image_at}
use Rattle.disk_opening.specs.Indexes.{IsIndexAt}
use Rattle.store_opening.specs.IndexesRead.{AreIndexesAt, AreLiveFilesSynced, HaveRowsOfIds}
use Rattle.store_opening.specs.Left.{leaves_at}
use Rattle.store_opening.specs.LogsRead.{AreLogsRead}
use Rattle.store_opening.specs.declared.fault.OpenFault.TheVariants.{Damaged}
use Rattle.store_opening.proofs.ChunksSoFar.{first_wrong_chunk, indexes_more, live_at_first, live_more, right_at_first, right_more, rows_at_first, rows_more}
use Rattle.store_opening.proofs.LogsSoFar.{same_fault}
use Rattle.store_opening.proofs.SyncedDisks.{no_more_at_first, no_more_still, none_at_first}
use Rattle.store_opening.proofs.chunk_files.read_indexes.Goals as goal

pub chunks-init : goal.chunks-init
chunks-init g c =
    let none : c.new-indexes.result.items ≡ [] = c.new-indexes.ensures.items in
    record {
      many = refl;
      count = ap (λ (l : List (Table Row)). length l) none;
      rows = rows_at_first c.new-indexes.result.items none;
      right = λ tells. right_at_first c.args.number c.args.next_id (map g.D.Disk.reads c.args.disks.now);
      index = λ tells. none_at_first (λ (j : ℕ) (t : Table Row). IsIndexAt c.args.number (image_at (map g.D.Disk.reads c.args.disks.now) j) t.contents) c.new-indexes.result.items none;
      synced = λ tells. live_at_first (map g.D.Disk.reads c.args.disks.now) (map g.D.Disk.leaves c.args.disks.now);
      reads = λ tells. refl;
      leaves = λ tells. no_more_at_first (map g.D.Disk.leaves c.args.disks.now);
      calm = refl;
    }

pub read_at-requires-clause-logs : goal.read_at-requires-clause-logs
read_at-requires-clause-logs g c tells =
    let so = c.chunks.invariant in
    subst (λ (k : ℕ). AreLogsRead k (map g.D.Disk.reads c.chunks.disks) c.args.logs.now) (sym so.many)
    (subst (λ (is : List Image). AreLogsRead (length c.args.disks.now) is c.args.logs.now) (sym (so.reads tells)) (c.requires.logs tells))

pub returns-in_err-index-clause-damaged : goal.returns-in_err-index-clause-damaged
returns-in_err-index-clause-damaged g c tells j cause is =
    let so = c.chunks.invariant in
    let n = length c.args.disks.now in
    let images = map g.D.Disk.reads c.args.disks.now in
    let place = c.chunks.place in
    let was = same_fault c.from_residual.result c.in_err-index.field-0.0 (Damaged j cause) c.from_residual.ensures.1 is in
    let told = c.in_err-index.ensures.damaged tells j cause (ap Err was) in (
      told.1,
      first_wrong_chunk n c.args.number c.args.next_id j place images (length-map c.args.disks.now g.D.Disk.reads) (omega arith) (so.right tells) told.0
          (λ right. told.2 (subst (λ (k : ℕ). HasRightChunks k place c.args.next_id c.args.number (image_at (map g.D.Disk.reads c.chunks.disks) place)) (sym so.many)
          (subst (λ (is : List Image). HasRightChunks n place c.args.next_id c.args.number (image_at is place)) (sym (so.reads tells)) right))),
    )

pub chunks-preserved : goal.chunks-preserved
chunks-preserved g c =
    let so = c.chunks.invariant in
    let n = length c.args.disks.now in
    let m = c.args.number in
    let next = c.args.next_id in
    let images = map g.D.Disk.reads c.args.disks.now in
    let place = c.chunks.place in
    let items = c.chunks.indexes.items in
    let t = c.in_ok-index.index in
    let first = map g.D.Disk.leaves c.args.disks.now in
    let old = map g.D.Disk.leaves c.chunks.disks in
    let new = map g.D.Disk.leaves c.read_at.new.disks in
    let pushed : c.push.new.self.items ≡ items ++ t ∷ [] = c.in_ok-push.ensures.items in
    record {
      many = c.read_at.ensures.many ∙ so.many;
      count = ap (λ (k : List (Table Row)). length k) pushed ∙ omega (arith, length_push items t, so.count);
      rows = subst HaveRowsOfIds (sym pushed) (rows_more items t so.rows c.in_ok-index.ensures.rows);
      right = λ tells. right_more n m next place images (length-map c.args.disks.now g.D.Disk.reads) (so.right tells)
          (subst (λ (k : ℕ). HasRightChunks k place next m (image_at images place)) so.many
          (subst (λ (is : List Image). HasRightChunks (length c.chunks.disks) place next m (image_at is place)) (so.reads tells) (c.in_ok-index.ensures.right tells)));
      index = λ tells. subst (AreIndexesAt m images) (sym pushed) (indexes_more m place images items t so.count (so.index tells)
          (subst (λ (is : List Image). IsIndexAt m (image_at is place) t.contents) (so.reads tells) (c.in_ok-index.ensures.index tells)));
      synced = λ tells. live_more place images old new (so.synced tells) (c.read_at.ensures.leaves tells)
          (subst (λ (is : List Image). AreLiveFilesSynced (image_at is place) (leaves_at new place)) (so.reads tells) (c.in_ok-index.ensures.synced tells));
      reads = λ tells. c.read_at.ensures.reads tells ∙ so.reads tells;
      leaves = λ tells. no_more_still first old new (so.leaves tells) (c.read_at.ensures.leaves tells);
      calm = c.in_ok-index.ensures.calm ∙ so.calm;
    }
