-- One entry more, of whatever kind.
use Rattle.std.proofs.Common.{inl, inr, ◌⊎◌, ◌≡◌, ℕ, ◌≤◌, Bool, true, List, [], ◌∷◌, ◌++◌, length, map, Some, Ok, refl, sym, ◌∙◌, ap, subst, arith}
use Rattle.store_io.specs.Disk.{Only, OthersStay}
use Rattle.store_io.specs.Whole.{IsImage, EachImage, StepsIn}
use Rattle.store_io.proofs.Whole.{image_before, with_file, there_is, image_with}
use Rattle.gated_log.specs.Log.{IsLogOf, Each, IsBeforeOrAfter, payloads_of}
use Rattle.gated_log.proofs.Payloads.{log_payloads}
use Rattle.tx_entry.specs.declared.entry.Entry.{Entry}
use Rattle.tx_entry.specs.Entries.{entry_of, spelling}
use Rattle.transactions_file.specs.Files.{length_in}
use Rattle.transactions_file.specs.Inventory.{State, allowed, after, files_after, last_after, next_id_after, inventory_of}
use Rattle.transactions_file.specs.Transactions.{Transactions, IsKept}
use Rattle.transactions_file.proofs.Lengths.{dead_length}
use Rattle.transactions_file.proofs.Folds.{one_more}
use Rattle.channel_files.specs.Chunks.{Range, Chunk, chunk_at, ranges_of, ranges_after, chunks_in, content_of}
use Rattle.channel_files.specs.Channel.{IsOfDisk}
use Rattle.channel_files.specs.Images.{AgreesBelow, IsAsRead, EachAsRead, IsHeld, HoldsRead, HoldsAfter, content_after}
use Rattle.channel_files.specs.Shows.{Shows, newest_of}
use Rattle.channel_files.proofs.Within.{AllWithin, Fits, all_fit, fits_step, low}
use Rattle.channel_files.proofs.Changes.{Any, agrees_but, chunks_kept, ranges_push}

-- the log of what is read
abbrev log_of : (ℕ → List ℕ) → List (List ℕ)
log_of reads = payloads_of (reads 0)

-- an image that agrees below the lengths has the chunks
held_agrees : (header : List ℕ) (payloads : List (List ℕ)) (files : List (ℕ × ℕ)) (last : ℕ) (base image : ℕ → List ℕ) → AllWithin files last (ranges_of payloads)
    → IsLogOf header payloads (image 0) → AgreesBelow files base image → IsHeld header payloads files (map (chunk_at base) (ranges_of payloads)) image
held_agrees header payloads files last base image within is_log agrees = record {
  is_log = is_log;
  content = chunks_kept files last (ranges_of payloads) base image within agrees.same;
  long = agrees.long;
}

pub as_read_holds : (t : Transactions) (reads image : ℕ → List ℕ) → IsOfDisk t reads → IsAsRead t reads image → HoldsRead t reads image
as_read_holds t reads image d as_read =
    held_agrees t.log.header (log_of reads) t.inventory.state.files t.inventory.state.last reads image (all_fit (log_of reads) t.inventory.state d.kept.inventory).within as_read.is_log as_read.agrees

-- what is held is shown
shows_held : (header : List ℕ) (payloads : List (List ℕ)) (s : State) (newest before : ℕ) (chunks : List Chunk) (image : ℕ → List ℕ) → inventory_of payloads ≡ Some s → (1 ≤ newest → newest_of s.entry ≡ newest) → (1 ≤ newest → s.next_id_before ≡ before)
    → IsHeld header payloads s.files chunks image → Shows header s.last s.next_id newest before chunks image
shows_held header payloads s newest before chunks image is newest_is before_is held =
    let same = log_payloads header payloads (image 0) held.is_log in
    record {
      state = s;
      is_log = subst (λ (ps : List (List ℕ)). IsLogOf header ps (image 0)) (sym same) held.is_log;
      inventory = ap inventory_of same ∙ is;
      last_is = refl;
      next_id_is = refl;
      newest_is = newest_is;
      before_is = before_is;
      content = ap (λ (ps : List (List ℕ)). chunks_in image ps) same ∙ held.content;
      long = held.long;
    }

-- where nothing is said of the last entry, the next id before it does not matter
pub no_newest : {header : List ℕ} {last next_id newest before : ℕ} {chunks : List Chunk} {image : ℕ → List ℕ} → Shows header last next_id newest before chunks image → Shows header last next_id 0 0 chunks image
no_newest s = record {
  state = s.state;
  is_log = s.is_log;
  inventory = s.inventory;
  last_is = s.last_is;
  next_id_is = s.next_id_is;
  newest_is = λ one. absurd (omega (arith, one));
  before_is = λ one. absurd (omega (arith, one));
  content = s.content;
  long = s.long;
}

-- with the last entry that the inventory has
pub shows_whole : (t : Transactions) (reads image : ℕ → List ℕ) → IsOfDisk t reads → HoldsRead t reads image
    → Shows t.log.header t.inventory.state.last t.inventory.state.next_id (newest_of t.inventory.state.entry) t.inventory.state.next_id_before (content_of reads) image
shows_whole t reads image d held =
    shows_held t.log.header (log_of reads) t.inventory.state (newest_of t.inventory.state.entry) t.inventory.state.next_id_before (content_of reads) image d.kept.inventory (λ one. refl) (λ one. refl) held

pub shows_read : (t : Transactions) (reads image : ℕ → List ℕ) → IsOfDisk t reads → HoldsRead t reads image
    → Shows t.log.header t.inventory.state.last t.inventory.state.next_id 0 0 (content_of reads) image
shows_read t reads image d held = shows_held t.log.header (log_of reads) t.inventory.state 0 0 (content_of reads) image d.kept.inventory (λ one. absurd (omega (arith, one))) (λ one. absurd (omega (arith, one))) held

-- each image shows what is read
pub each_shows : (t : Transactions) (reads : ℕ → List ℕ) (leaves : ℕ → List ℕ → Bool) → IsOfDisk t reads → EachAsRead t reads leaves
    → EachImage leaves (Shows t.log.header t.inventory.state.last t.inventory.state.next_id 0 0 (content_of reads))
each_shows t reads leaves d each image left = shows_read t reads image d (as_read_holds t reads image d (each image left))

module _ (t : Transactions) (e : Entry) (r0 r2 : ℕ → List ℕ) (l0 l2 : ℕ → List ℕ → Bool) (d : IsOfDisk t r0) (allow : allowed t.inventory.state e ≡ true)
    (again : entry_of (spelling e) ≡ Ok e) (others : OthersStay 0 r0 r2 l0 l2) where
  fit : Fits t.inventory.state (ranges_of (log_of r0))
  fit = all_fit (log_of r0) t.inventory.state d.kept.inventory

  fit2 : Fits (after t.inventory.state e) (ranges_after (ranges_of (log_of r0)) e)
  fit2 = fits_step t.inventory.state (ranges_of (log_of r0)) e fit allow

  empty : length_in t.inventory.state.files 0 ≡ 0
  empty = dead_length t.inventory.state.files 0 (low t.inventory.state fit.sound 0 (omega arith))

  empty2 : length_in (files_after t.inventory.state e) 0 ≡ 0
  empty2 = dead_length (files_after t.inventory.state e) 0 (low (after t.inventory.state e) fit2.sound 0 (omega arith))

  ranges : ranges_of (log_of r0 ++ spelling e ∷ []) ≡ ranges_after (ranges_of (log_of r0)) e
  ranges = ranges_push (log_of r0) (spelling e) e again

  -- the new log over bytes that agree below the new lengths
  held_after : (image : ℕ → List ℕ) → IsLogOf t.log.header (log_of r0 ++ spelling e ∷ []) (image 0) → AgreesBelow (files_after t.inventory.state e) r0 image → HoldsAfter t r0 e image
  held_after image is_log agrees = record {
    is_log = is_log;
    content =
        ap (λ (l : List Range). map (chunk_at image) l) ranges
        ∙ chunks_kept (files_after t.inventory.state e) (last_after t.inventory.state e) (ranges_after (ranges_of (log_of r0)) e) r0 image fit2.within agrees.same;
    long = agrees.long;
  }

  shows_after : (image : ℕ → List ℕ) → HoldsAfter t r0 e image → Shows t.log.header (last_after t.inventory.state e) (next_id_after t.inventory.state e) (newest_of (Some e)) t.inventory.state.next_id (content_after r0 e) image
  shows_after image held =
      shows_held t.log.header (log_of r0 ++ spelling e ∷ []) (after t.inventory.state e) (newest_of (Some e)) t.inventory.state.next_id (content_after r0 e) image
      (one_more (log_of r0) (spelling e) t.inventory.state e d.kept.inventory again allow) (λ one. refl) (λ one. refl) held

  before_log : IsImage l0 r0 → (image : ℕ → List ℕ) → IsImage l2 image → (was : ℕ → List ℕ) × IsImage l0 was × StepsIn Any 0 was image
  before_log left image = image_before Any 0 l0 l2 (λ c of_new. (r0 0, left 0, tt)) others.leaves image

  -- each image has the log of before or with the entry, and below the lengths what was read
  pub stop_after : IsImage l0 r0 → EachAsRead t r0 l0 → EachImage l0 (AgreesBelow (files_after t.inventory.state e) r0)
      → (Each (l0 0) (IsLogOf t.log.header (log_of r0)) → Each (l2 0) (IsBeforeOrAfter t.log.header (log_of r0) (spelling e)))
      → EachImage l2 (λ image. Shows t.log.header t.inventory.state.last t.inventory.state.next_id (newest_of t.inventory.state.entry) t.inventory.state.next_id_before (content_of r0) image
      ⊎ Shows t.log.header (last_after t.inventory.state e) (next_id_after t.inventory.state e) (newest_of (Some e)) t.inventory.state.next_id (content_after r0 e) image)
  stop_after left each more stop image of_new =
      let logs0 : Each (l0 0) (IsLogOf t.log.header (log_of r0)) =
      λ b here. subst (IsLogOf t.log.header (log_of r0)) (there_is r0 0 b) (each (with_file r0 0 b) (image_with l0 r0 0 b left here)).is_log in
      let b = before_log left image of_new in
      elim (stop logs0 (image 0) (of_new 0)) [
        | inl is_log ↦
            inl (shows_whole t r0 image d (held_agrees t.log.header (log_of r0) t.inventory.state.files t.inventory.state.last r0 image fit.within is_log
            (agrees_but 0 t.inventory.state.files r0 b.0 image empty (each b.0 b.1).agrees b.2)))
        | inr is_log ↦ inr (shows_after image (held_after image is_log (agrees_but 0 (files_after t.inventory.state e) r0 b.0 image empty2 (more b.0 b.1) b.2)))
      ]

  module _ (t2 : Transactions) (file2 : t2.log.file ≡ t.log.file) (header2 : t2.log.header ≡ t.log.header) (kept2 : IsKept t2 (r2 0))
      (added : log_of r2 ≡ log_of r0 ++ spelling e ∷ []) (state2 : t2.inventory.state ≡ after t.inventory.state e)
      (long : (f : ℕ) → length_in (files_after t.inventory.state e) f ≤ length (r0 f)) where
    files2 : t2.inventory.state.files ≡ files_after t.inventory.state e
    files2 = ap (λ (s : State). s.files) state2

    log2 : IsLogOf t.log.header (log_of r0 ++ spelling e ∷ []) (r2 0)
    log2 = subst (λ (h : List ℕ). IsLogOf h (log_of r0 ++ spelling e ∷ []) (r2 0)) header2
        (subst (λ (ps : List (List ℕ)). IsLogOf t2.log.header ps (r2 0)) added kept2.log.is)

    -- what is read now is as it was, but in the log
    agrees2 : AgreesBelow (files_after t.inventory.state e) r0 r2
    agrees2 = agrees_but 0 (files_after t.inventory.state e) r0 r0 r2 empty2 (record { long = long; same = λ f. refl }) (record { there = tt; others = others.reads })

    pub of_disk_after : IsOfDisk t2 r2
    of_disk_after = record {
      file = file2 ∙ d.file;
      kept = kept2;
      long = λ f. omega (arith, agrees2.long f, ap (λ (l : List (ℕ × ℕ)). length_in l f) files2);
    }

    pub content_is : content_of r2 ≡ content_after r0 e
    content_is = ap (λ (ps : List (List ℕ)). chunks_in r2 ps) added ∙ (held_after r2 log2 agrees2).content

    pub as_read_after : IsImage l0 r0 → EachImage l0 (AgreesBelow (files_after t.inventory.state e) r0) → Only (r2 0) (l2 0) → EachAsRead t2 r2 l2
    as_read_after left more only image of_new =
        let b = before_log left image of_new in
        let agrees = agrees_but 0 (files_after t.inventory.state e) r0 b.0 image empty2 (more b.0 b.1) b.2 in
        record {
          is_log =
              subst (λ (h : List ℕ). IsLogOf h (log_of r2) (image 0)) (sym header2)
              (subst (λ (ps : List (List ℕ)). IsLogOf t.log.header ps (image 0)) (sym added) (subst (IsLogOf t.log.header (log_of r0 ++ spelling e ∷ [])) (sym (only (image 0) (of_new 0))) log2));
          agrees = subst (λ (fs : List (ℕ × ℕ)). AgreesBelow fs r2 image) (sym files2)
              (record { long = agrees.long; same = λ f. agrees.same f ∙ sym (agrees2.same f) });
        }

-- what is said of the log's file, which is file 0
module _ (log : ℕ) (is : log ≡ 0) (r0 r2 : ℕ → List ℕ) (l0 l2 : ℕ → List ℕ → Bool) (header : List ℕ) (payload : List ℕ) where
  pub others_there : OthersStay log r0 r2 l0 l2 → OthersStay 0 r0 r2 l0 l2
  others_there = subst (λ (f : ℕ). OthersStay f r0 r2 l0 l2) is

  pub added_there : payloads_of (r2 log) ≡ payloads_of (r0 log) ++ payload ∷ [] → log_of r2 ≡ log_of r0 ++ payload ∷ []
  added_there = subst (λ (f : ℕ). payloads_of (r2 f) ≡ payloads_of (r0 f) ++ payload ∷ []) is

  pub durable_there : Only (r2 log) (l2 log) → Only (r2 0) (l2 0)
  durable_there = subst (λ (f : ℕ). Only (r2 f) (l2 f)) is

  pub stop_there : (Each (l0 log) (IsLogOf header (payloads_of (r0 log))) → Each (l2 log) (IsBeforeOrAfter header (payloads_of (r0 log)) payload))
      → Each (l0 0) (IsLogOf header (log_of r0)) → Each (l2 0) (IsBeforeOrAfter header (log_of r0) payload)
  stop_there = subst (λ (f : ℕ). Each (l0 f) (IsLogOf header (payloads_of (r0 f))) → Each (l2 f) (IsBeforeOrAfter header (payloads_of (r0 f)) payload)) is
