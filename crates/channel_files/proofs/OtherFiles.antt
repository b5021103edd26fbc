-- A change of file 1, which has nothing of the channel's, and a disk of which a stop leaves what it reads.
use Rattle.std.proofs.Common.{◌≡◌, ◌≢◌, ℕ, Bool, List, length, take, refl, sym, ◌∙◌, ap, subst, arith}
use Rattle.store_io.specs.Disk.{OthersStay}
use Rattle.store_io.specs.Whole.{IsImage, EachImage, IsClean}
use Rattle.store_io.proofs.Whole.{image_before}
use Rattle.gated_log.specs.Log.{IsLogOf, payloads_of}
use Rattle.transactions_file.specs.Files.{length_in}
use Rattle.transactions_file.specs.Transactions.{Transactions, IsKept}
use Rattle.transactions_file.proofs.Lengths.{dead_length}
use Rattle.channel_files.specs.Chunks.{Chunk, ranges_of, chunks_in, content_of}
use Rattle.channel_files.specs.Table.{table_of, table_at, IsSameTable}
use Rattle.channel_files.specs.Channel.{IsOfDisk}
use Rattle.channel_files.specs.Images.{AgreesBelow, EachAsRead}
use Rattle.channel_files.specs.Shows.{Shows, HasTables}
use Rattle.channel_files.proofs.Within.{Fits, all_fit, low}
use Rattle.channel_files.proofs.Changes.{Any, agrees_but, chunks_kept}
use Rattle.channel_files.proofs.Appended.{each_shows}
use Rattle.channel_files.proofs.Tables.{shown_before}

module _ (t : Transactions) (r0 r1 : ℕ → List ℕ) (l0 l1 : ℕ → List ℕ → Bool) (d : IsOfDisk t r0) (others : OthersStay 1 r0 r1 l0 l1) where
  not_there : (k : ℕ) → k ≡ 0 → k ≢ 1
  not_there k is e = absurd (omega (arith, is, e))

  log1 : r1 0 ≡ r0 0
  log1 = others.reads 0 (not_there 0 refl)

  fit : Fits t.inventory.state (ranges_of (payloads_of (r0 0)))
  fit = all_fit (payloads_of (r0 0)) t.inventory.state d.kept.inventory

  empty : length_in t.inventory.state.files 1 ≡ 0
  empty = dead_length t.inventory.state.files 1 (low t.inventory.state fit.sound 1 (omega arith))

  agrees1 : AgreesBelow t.inventory.state.files r0 r1
  agrees1 = agrees_but 1 t.inventory.state.files r0 r0 r1 empty (record { long = d.long; same = λ f. refl }) (record { there = tt; others = others.reads })

  pub of_disk_kept : IsOfDisk t r1
  of_disk_kept = record { file = d.file; kept = subst (IsKept t) (sym log1) d.kept; long = agrees1.long }

  pub content_kept : content_of r1 ≡ content_of r0
  content_kept =
      ap (λ (l : List ℕ). chunks_in r1 (payloads_of l)) log1
      ∙ chunks_kept t.inventory.state.files t.inventory.state.last (ranges_of (payloads_of (r0 0))) r0 r1 fit.within agrees1.same

  pub table_kept : (number : ℕ) → IsSameTable (table_of r0 number) (table_of r1 number)
  table_kept number id = ap (λ (l : List Chunk). table_at number l id) content_kept

  pub as_read_kept : IsImage l0 r0 → EachAsRead t r0 l0 → EachAsRead t r1 l1
  as_read_kept left each image of_new =
      let b = image_before Any 1 l0 l1 (λ c here. (r0 1, left 1, tt)) others.leaves image of_new in
      let was = each b.0 b.1 in
      let agrees = agrees_but 1 t.inventory.state.files r0 b.0 image empty was.agrees b.2 in
      record {
        is_log = subst (λ (l : List ℕ). IsLogOf t.log.header (payloads_of l) (image 0)) (sym log1) (subst (IsLogOf t.log.header (payloads_of (r0 0))) (sym (b.2.others 0 (not_there 0 refl))) was.is_log);
        agrees = record { long = agrees.long; same = λ f. agrees.same f ∙ sym (agrees1.same f) };
      }

  pub tables_kept : IsImage l0 r0 → EachAsRead t r0 l0 → EachImage l1 (HasTables t.inventory.state.last (table_of r0))
  tables_kept left each image of_new =
      shown_before r0 image
      (subst (λ (l : List Chunk). Shows t.log.header t.inventory.state.last t.inventory.state.next_id 0 0 l image) content_kept (each_shows t r1 l1 of_disk_kept (as_read_kept left each) image of_new))

-- on a clean disk each image is as read
pub clean_as_read : (t : Transactions) (reads : ℕ → List ℕ) (leaves : ℕ → List ℕ → Bool) → IsOfDisk t reads → IsClean reads leaves → EachAsRead t reads leaves
clean_as_read t reads leaves d clean image left = record {
  is_log = subst (IsLogOf t.log.header (payloads_of (reads 0))) (sym (clean 0 (image 0) (left 0))) d.kept.log.is;
  agrees = record {
    long = λ f. omega (arith, d.long f, ap length (clean f (image f) (left f)));
    same = λ f. ap (λ (l : List ℕ). take (length_in t.inventory.state.files f) l) (clean f (image f) (left f));
  };
}
