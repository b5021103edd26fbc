-- What an image has after a change of one file, or of the lengths.
use Rattle.std.proofs.Common.{◌≡◌, ℕ, ◌+◌, ◌≤◌, Bool, true, List, [], ◌∷◌, ◌++◌, length, take, drop, map, Ok, refl, sym, ◌∙◌, ap, arith}
use Rattle.std.proofs.lemmas.List.{map-append, take-take, drop-take}
use Rattle.std.proofs.lemmas.List.Sums.{fold-append}
use Rattle.store_io.specs.Disk.{Only}
use Rattle.store_io.specs.Whole.{EachImage, StepsIn}
use Rattle.tx_entry.specs.declared.entry.Entry.{Entry}
use Rattle.tx_entry.specs.Entries.{entry_of}
use Rattle.transactions_file.specs.Files.{is_live, length_in, set_length}
use Rattle.transactions_file.proofs.Lengths.{length_set, length_set_other}
use Rattle.channel_files.specs.Chunks.{Range, Chunk, chunk_at, ranges_after, ranges_with, ranges_step, ranges_of}
use Rattle.channel_files.specs.Images.{AgreesBelow}
use Rattle.channel_files.proofs.Within.{AllWithin, by_file}

-- the log of an image is told by its payloads, and one payload more is one entry more
pub ranges_push : (payloads : List (List ℕ)) (payload : List ℕ) (e : Entry) → entry_of payload ≡ Ok e → ranges_of (payloads ++ payload ∷ []) ≡ ranges_after (ranges_of payloads) e
ranges_push payloads payload e read = fold-append ranges_step [] payloads (payload ∷ []) ∙ ap (ranges_with (ranges_of payloads)) read

-- any step at all
abbrev pub Any : List ℕ → List ℕ → Type 0
Any a b = Unit {0}

chunk_same : (old new : List ℕ) (at len n : ℕ) → at + len ≤ n → take n new ≡ take n old → take len (drop at new) ≡ take len (drop at old)
chunk_same old new at len n le same =
    sym (drop-take at len new)
    ∙ ap (λ (l : List ℕ). drop at l) (sym (take-take (at + len) n new le) ∙ ap (λ (l : List ℕ). take (at + len) l) same ∙ take-take (at + len) n old le)
    ∙ drop-take at len old

-- what stands below the inventory's lengths is all that the chunks are made of
pub chunks_kept : (files : List (ℕ × ℕ)) (last : ℕ) (ranges : List Range) (old new : ℕ → List ℕ) → AllWithin files last ranges → ((f : ℕ) → take (length_in files f) (new f) ≡ take (length_in files f) (old f))
    → map (chunk_at new) ranges ≡ map (chunk_at old) ranges
chunks_kept files last [] old new all same = refl
chunks_kept files last (r ∷ ranges) old new all same =
    ap (λ (l : List ℕ). (record { number = r.number; file = r.file; at = r.at; bytes = l }) ∷ map (chunk_at new) ranges)
    (chunk_same (old r.file) (new r.file) r.at r.length (length_in files r.file) all.0 (same r.file))
    ∙ ap (λ (l : List Chunk). chunk_at old r ∷ l) (chunks_kept files last ranges old new all.1.1 same)

-- the bytes of a file that is not live stand below no length
pub agrees_but : (file : ℕ) (files : List (ℕ × ℕ)) (base was image : ℕ → List ℕ) → length_in files file ≡ 0 → AgreesBelow files base was → StepsIn Any file was image
    → AgreesBelow files base image
agrees_but file files base was image empty agrees steps = record {
  long = by_file (λ f. length_in files f ≤ length (image f)) file (omega (arith, empty)) (λ f ne. omega (arith, agrees.long f, ap length (steps.others f ne)));
  same =
      by_file (λ f. take (length_in files f) (image f) ≡ take (length_in files f) (base f)) file
      (ap (λ (k : ℕ). take k (image file)) empty ∙ sym (ap (λ (k : ℕ). take k (base file)) empty))
      (λ f ne. ap (λ (l : List ℕ). take (length_in files f) l) (steps.others f ne) ∙ agrees.same f);
}

-- no length raised
pub agrees_less : (old new : List (ℕ × ℕ)) (base image : ℕ → List ℕ) → ((f : ℕ) → length_in new f ≤ length_in old f) → AgreesBelow old base image → AgreesBelow new base image
agrees_less old new base image less agrees = record {
  long = λ f. omega (arith, less f, agrees.long f);
  same = λ f.
      sym (take-take (length_in new f) (length_in old f) (image f) (less f))
      ∙ ap (λ (l : List ℕ). take (length_in new f) l) (agrees.same f)
      ∙ take-take (length_in new f) (length_in old f) (base f) (less f);
}

-- one length raised, in a file that is synced
module _ (files : List (ℕ × ℕ)) (file n : ℕ) (live : is_live files file ≡ true) (reads : ℕ → List ℕ) (reach : n ≤ length (reads file)) where
  pub long_set : ((f : ℕ) → length_in files f ≤ length (reads f)) → (f : ℕ) → length_in (set_length files file n) f ≤ length (reads f)
  long_set long =
      by_file (λ f. length_in (set_length files file n) f ≤ length (reads f)) file (omega (arith, length_set files file n live, reach)) (λ f ne. omega (arith, length_set_other files file n f ne, long f))

  pub agrees_set : (leaves : ℕ → List ℕ → Bool) → Only (reads file) (leaves file) → EachImage leaves (AgreesBelow files reads) → EachImage leaves (AgreesBelow (set_length files file n) reads)
  agrees_set leaves only each image left =
      let agrees = each image left in
      let is : image file ≡ reads file = only (image file) (left file) in
      record {
        long = by_file (λ f. length_in (set_length files file n) f ≤ length (image f)) file (omega (arith, length_set files file n live, reach, ap length is)) (λ f ne. omega (arith, length_set_other files file n f ne, agrees.long f));
        same =
            by_file (λ f. take (length_in (set_length files file n) f) (image f) ≡ take (length_in (set_length files file n) f) (reads f)) file
            (ap (λ (l : List ℕ). take (length_in (set_length files file n) file) l) is)
            (λ f ne.
            let k = length_set_other files file n f ne in
            ap (λ (k : ℕ). take k (image f)) k ∙ agrees.same f ∙ sym (ap (λ (k : ℕ). take k (reads f)) k));
      }

-- one chunk more
pub one_chunk : (reads : ℕ → List ℕ) (ranges : List Range) (r : Range) (bytes : List ℕ) (chunks : List Chunk) → map (chunk_at reads) ranges ≡ chunks → take r.length (drop r.at (reads r.file)) ≡ bytes
    → map (chunk_at reads) (ranges ++ r ∷ []) ≡ chunks ++ (record { number = r.number; file = r.file; at = r.at; bytes = bytes }) ∷ []
one_chunk reads ranges r bytes chunks same stands =
    map-append (chunk_at reads) ranges (r ∷ [])
    ∙ ap (λ (l : List Chunk). l ++ chunk_at reads r ∷ []) same
    ∙ ap (λ (l : List ℕ). chunks ++ (record { number = r.number; file = r.file; at = r.at; bytes = l }) ∷ []) stands
