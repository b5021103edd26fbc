-- The entities of a table stand in live files, and in whole chunks each is an entity there.
use Rattle.std.proofs.Common.{◌≡◌, ℕ, ◌+◌, ◌≤◌, true, inl, inr, List, [], ◌∷◌, length, take, drop, map, Option, Some, unwrap_or, ap, sym, subst, ◌∙◌, arith, length-take}
use Rattle.std.specs.List.{AllByRecursion}
use Rattle.std.proofs.lemmas.Bool.{cases_Bool}
use Rattle.std.proofs.lemmas.List.{drop-take, drop-drop, take-take}
use Rattle.std.proofs.lemmas.List.Elements.{recursion_from_All}
use Rattle.field_bytes.specs.Fields.{number_at}
use Rattle.gated_log.specs.Log.{payloads_of}
use Rattle.transactions_file.specs.Files.{is_live, length_in}
use Rattle.transactions_file.specs.Transactions.{Transactions}
use Rattle.transactions_file.proofs.Lengths.{dead_length}
use Rattle.data_file.specs.Chunks.{IsEntity, IsChunk}
use Rattle.data_file.specs.Headers.{IsHeaderAt}
use Rattle.channel_files.specs.Chunks.{Range, Chunk, chunk_at, content_of, ranges_of}
use Rattle.channel_files.specs.Table.{Occurrence, occurrences_of, table_of}
use Rattle.channel_files.specs.Channel.{IsOfDisk}
use Rattle.channel_files.specs.Whole.{HasWholeChunks, header_of}
use Rattle.channel_files.proofs.Within.{AllWithin, all_fit}
use Rattle.channel_files.proofs.Allowed.{nothing}
use Rattle.channel_files.proofs.NumbersInFront.{number_in_front, number_there}
use Rattle.channel_files.proofs.EntitiesStand.{EndsBy, StandsIn, entities_end, entities_stand}
use Rattle.channel_files.proofs.TableEntries.{OfEach, table_found}

-- the entity ends within a live file
pub record IsInLive (files : List (ℕ × ℕ)) (o : Occurrence) : Type 0 where
  pub live : is_live files o.file ≡ true
  pub within : o.at + length o.bytes ≤ length_in files o.file

in_live : (files : List (ℕ × ℕ)) (file end : ℕ) (os : List Occurrence) → is_live files file ≡ true → end ≤ length_in files file → AllByRecursion (EndsBy file end) os → AllByRecursion (IsInLive files) os
in_live files file end [] live le all = tt
in_live files file end (o ∷ os) live le all =
    let is : o.file ≡ file = all.0.file_is in (
      record {
        live = ap (is_live files) is ∙ live;
        within = omega (arith, all.0.within, le, ap (length_in files) is);
      },
      in_live files file end os live le all.1,
    )

-- a file that is not live has no bytes of a chunk
chunk_in_live : (reads : ℕ → List ℕ) (files : List (ℕ × ℕ)) (r : Range) → r.at + r.length ≤ length_in files r.file → OfEach (IsInLive files) (chunk_at reads r)
chunk_in_live reads files r fits =
    let bytes = take r.length (drop r.at (reads r.file)) in
    let short : length bytes ≤ r.length = omega (arith, length-take r.length (drop r.at (reads r.file))) in
    elim (cases_Bool (is_live files r.file)) [
      | inl live ↦ in_live files r.file (r.at + length bytes) (occurrences_of (chunk_at reads r)) live (omega (arith, fits, short)) (entities_end (chunk_at reads r))
      | inr dead ↦
          let none : bytes ≡ [] = nothing bytes (omega (arith, fits, short, dead_length files r.file dead)) in
          subst (λ (b : List ℕ). OfEach (IsInLive files) (record { number = r.number; file = r.file; at = r.at; bytes = b })) (sym none) tt
    ]

chunks_in_live : (reads : ℕ → List ℕ) (files : List (ℕ × ℕ)) (last : ℕ) (ranges : List Range) → AllWithin files last ranges → AllByRecursion (OfEach (IsInLive files)) (map (chunk_at reads) ranges)
chunks_in_live reads files last [] all = tt
chunks_in_live reads files last (r ∷ ranges) all = (chunk_in_live reads files r all.0, chunks_in_live reads files last ranges all.1.1)

pub found_in_live : (t : Transactions) (reads : ℕ → List ℕ) (number id : ℕ) (o : Occurrence) → IsOfDisk t reads → table_of reads number id ≡ Some o → IsInLive t.inventory.state.files o
found_in_live t reads number id o d is =
    table_found (IsInLive t.inventory.state.files) number id (content_of reads) o
    (chunks_in_live reads t.inventory.state.files t.inventory.state.last (ranges_of (payloads_of (reads 0))) (all_fit (payloads_of (reads 0)) t.inventory.state d.kept.inventory).within) is

-- ---- whole chunks

-- the bytes at its place are a whole entity
pub record IsThere (reads : ℕ → List ℕ) (o : Occurrence) : Type 0 where
  pub same : take (length o.bytes) (drop o.at (reads o.file)) ≡ o.bytes
  pub entity : IsEntity o.bytes

-- what stands in a part of some bytes stands in them
in_part : (bytes : List ℕ) (at len skip n : ℕ) → skip + n ≤ length (take len (drop at bytes)) → take n (drop skip (take len (drop at bytes))) ≡ take n (drop (at + skip) bytes)
in_part bytes at len skip n within =
    let rest = drop at bytes in
    let le : skip + n ≤ len = omega (arith, within, length-take len rest) in
    sym (drop-take skip n (take len rest))
    ∙ ap (drop skip) (take-take (skip + n) len rest le)
    ∙ drop-take skip n rest
    ∙ ap (take n) (drop-drop skip at bytes)

there : (reads : ℕ → List ℕ) (r : Range) (os : List Occurrence) → AllByRecursion (StandsIn (take r.length (drop r.at (reads r.file))) r.file r.at) os → AllByRecursion (IsThere reads) os
there reads r [] all = tt
there reads r (o ∷ os) all =
    let here = all.0 in (
      record {
        same =
            ap (λ (f : ℕ). take (length o.bytes) (drop o.at (reads f))) here.file_is
            ∙ ap (λ (k : ℕ). take (length o.bytes) (drop k (reads r.file))) here.at_is
            ∙ sym (in_part (reads r.file) r.at r.length here.skip (length o.bytes) here.within)
            ∙ here.same;
        entity = here.entity;
      },
      there reads r os all.1,
    )

chunks_there : (reads : ℕ → List ℕ) (ranges : List Range) → AllByRecursion (λ (c : Chunk). IsChunk c.bytes) (map (chunk_at reads) ranges) → AllByRecursion (OfEach (IsThere reads)) (map (chunk_at reads) ranges)
chunks_there reads [] whole = tt
chunks_there reads (r ∷ ranges) whole = (there reads r (occurrences_of (chunk_at reads r)) (entities_stand (chunk_at reads r) whole.0), chunks_there reads ranges whole.1)

pub found_there : (reads : ℕ → List ℕ) (number id : ℕ) (o : Occurrence) → HasWholeChunks reads → table_of reads number id ≡ Some o → IsThere reads o
found_there reads number id o whole is =
    table_found (IsThere reads) number id (content_of reads) o
    (chunks_there reads (ranges_of (payloads_of (reads 0))) (recursion_from_All (λ (c : Chunk). IsChunk c.bytes) (content_of reads) whole)) is

-- the first 32 bytes there are the entity's header
pub header_there : (reads : ℕ → List ℕ) (o : Occurrence) → IsThere reads o → IsHeaderAt (reads o.file) o.at (header_of o.bytes)
header_there reads o is =
    let len = length o.bytes in
    let least : 32 ≤ len = is.entity.least in
    let front : take 32 (drop o.at (reads o.file)) ≡ take 32 o.bytes = sym (take-take 32 len (drop o.at (reads o.file)) least) ∙ ap (take 32) is.same in
    let field : (at : ℕ) → at + 8 ≤ 32 → number_at 8 (take 32 (drop o.at (reads o.file))) at ≡ Some (unwrap_or (number_at 8 o.bytes at) 0) =
    λ at le. ap (λ (b : List ℕ). number_at 8 b at) front ∙ number_in_front 32 at o.bytes le least ∙ number_there o.bytes at (omega (arith, le, least)) in
    record { length = field 0 (omega arith); type_id = field 8 (omega arith); id = field 16 (omega arith); count = field 24 (omega arith) }

pub length_told : (bytes : List ℕ) → IsEntity bytes → (header_of bytes).length ≡ length bytes
length_told bytes is = ap (λ (o : Option ℕ). unwrap_or o 0) is.length_is
