-- The rows of an index stand in the image, and give its table.
use Rattle.std.proofs.Common.{◌≡◌, ℕ, ◌+◌, ◌≤◌, Bool, true, false, cond, nat_le, List, [], ◌∷◌, length, take, drop, filter, map, option_map, Option, Some, None, refl, sym, ap, ◌∙◌, subst, arith, length-take, length-drop}
use Rattle.std.specs.List.{AllByRecursion, flat_map}
use Rattle.std.specs.FinMap.{get}
use Rattle.std.proofs.lemmas.List.{take-take, drop-take, drop-drop}
use Rattle.gated_log.specs.Log.{payloads_of}
use Rattle.channel_files.specs.Chunks.{Chunk, Range, chunk_at, ranges_of}
use Rattle.channel_files.specs.Table.{Occurrence, last_of, occurrences_of, table_of, up_to}
use Rattle.channel_files.proofs.EntitiesStand.{StandsIn, entities_stand}
use Rattle.channel_files.proofs.FoundEntities.{IsThere, header_there, length_told}
use Rattle.channel_files.proofs.TableEntries.{OfEach, table_found}
use Rattle.entity_index.specs.declared.row.Row.{Row}
use Rattle.channel.specs.ChunkRule.{HasRightChunks, IsRightRange, ranges_to}
use Rattle.channel.specs.Core.{bytes_at}
use Rattle.channel.specs.Entities.{entity_in}
use Rattle.channel.specs.Images.{Image}
use Rattle.channel.specs.OnDisk.{entity_at}
use Rattle.disk_opening.specs.Indexes.{IsIndexAt, row_for}
use Rattle.disk_opening.specs.RowTables.{AreRowsThere, IsRowThere, Rows, entity_of_row}

-- the entity stands there within the file
record StandsThere (image : Image) (o : Occurrence) : Type 0 where
  pub within : o.at + length o.bytes ≤ length (image o.file)
  pub there : IsThere image o

-- what stands in a part of some bytes stands in them
in_part : (bytes : List ℕ) (at len skip n : ℕ) → skip + n ≤ length (take len (drop at bytes)) → take n (drop skip (take len (drop at bytes))) ≡ take n (drop (at + skip) bytes)
in_part bytes at len skip n within =
    let rest = drop at bytes in
    let le : skip + n ≤ len = omega (arith, within, length-take len rest) in
    sym (drop-take skip n (take len rest))
    ∙ ap (drop skip) (take-take (skip + n) len rest le)
    ∙ drop-take skip n rest
    ∙ ap (take n) (drop-drop skip at bytes)

stands_in : (image : Image) (r : Range) (os : List Occurrence) → r.at + r.length ≤ length (image r.file) → AllByRecursion (StandsIn (take r.length (drop r.at (image r.file))) r.file r.at) os
    → AllByRecursion (StandsThere image) os
stands_in image r [] fits all = tt
stands_in image r (o ∷ os) fits all =
    let here = all.0 in
    let file = image r.file in (
      record {
        within = subst (λ (f : ℕ). o.at + length o.bytes ≤ length (image f)) (sym here.file_is) (omega (arith, fits, here.within, here.at_is, length-take r.length (drop r.at file), length-drop r.at file));
        there = record {
          same =
              ap (λ (f : ℕ). take (length o.bytes) (drop o.at (image f))) here.file_is
              ∙ ap (λ (k : ℕ). take (length o.bytes) (drop k file)) here.at_is
              ∙ sym (in_part file r.at r.length here.skip (length o.bytes) here.within)
              ∙ here.same;
          entity = here.entity;
        };
      },
      stands_in image r os fits all.1,
    )

chunks_stand : (n j next : ℕ) (image : Image) (ranges : List Range) → AllByRecursion (IsRightRange n j next image) ranges → AllByRecursion (OfEach (StandsThere image)) (map (chunk_at image) ranges)
chunks_stand n j next image [] right = tt
chunks_stand n j next image (r ∷ ranges) right =
    (stands_in image r (occurrences_of (chunk_at image r)) right.0.within (entities_stand (chunk_at image r) right.0.right.whole), chunks_stand n j next image ranges right.1)

-- only the chunks up to a number count
up_to-map : (m : ℕ) (image : Image) (ranges : List Range) → up_to m (map (chunk_at image) (filter (λ (r : Range). nat_le r.number m) ranges)) ≡ up_to m (map (chunk_at image) ranges)
up_to-map m image [] = refl
up_to-map m image (r ∷ ranges) = by (up_to-map m image ranges) (nat_le r.number m) refl
  where
    by : up_to m (map (chunk_at image) (filter (λ (q : Range). nat_le q.number m) ranges)) ≡ up_to m (map (chunk_at image) ranges) → (b : Bool) → nat_le r.number m ≡ b
        → up_to m (map (chunk_at image) (cond b (r ∷ filter (λ (q : Range). nat_le q.number m) ranges) (filter (λ (q : Range). nat_le q.number m) ranges)))
        ≡ cond b (chunk_at image r ∷ up_to m (map (chunk_at image) ranges)) (up_to m (map (chunk_at image) ranges))
    by others true is = ap (λ c. cond c (chunk_at image r ∷ up_to m (map (chunk_at image) (filter (λ (q : Range). nat_le q.number m) ranges))) (up_to m (map (chunk_at image) (filter (λ (q : Range). nat_le q.number m) ranges)))) is
        ∙ ap (λ cs. chunk_at image r ∷ cs) others
    by others false is = others

module _ (n j next m : ℕ) (image : Image) (right : HasRightChunks n j next m image) where
  stands : (id : ℕ) (o : Occurrence) → table_of image m id ≡ Some o → StandsThere image o
  stands id o is = table_found (StandsThere image) m id (map (chunk_at image) (ranges_to m image)) o (chunks_stand n j next image (ranges_to m image) right)
      (ap (λ (cs : List Chunk). last_of id (flat_map occurrences_of cs)) (up_to-map m image (ranges_of (payloads_of (image 0)))) ∙ is)

  -- the bytes of an entity that was found
  row_bytes : (o : Occurrence) → StandsThere image o → bytes_at image (row_for o) ≡ o.bytes
  row_bytes o s = ap (λ (k : ℕ). take k (drop o.at (image o.file))) (length_told o.bytes s.there.entity) ∙ s.there.same

  row_there : (o : Occurrence) → StandsThere image o → IsRowThere image (row_for o)
  row_there o s = record {
    within = omega (arith, length_told o.bytes s.there.entity, s.within);
    header = header_there image o s.there;
  }

  module _ (rows : Rows) (index : IsIndexAt m image rows) where
    pub rows_stand : AreRowsThere image rows
    rows_stand id row is = by (table_of image m id) refl
      where
        by : (o : Option Occurrence) → table_of image m id ≡ o → IsRowThere image row
        by None none = absurd (nothing (sym is ∙ index id ∙ ap (option_map row_for) none))
          where
            nothing : ◌≡◌ {A = Option Row} (Some row) None → ⊥
            nothing e = cc
        by (Some o) some = subst (IsRowThere image) (same (sym (sym is ∙ index id ∙ ap (option_map row_for) some))) (row_there o (stands id o some))
          where
            same : {a b : Row} → ◌≡◌ {A = Option Row} (Some a) (Some b) → a ≡ b
            same e = cc

    pub table_given : (id : ℕ) → entity_of_row image (get rows id) ≡ entity_at image m id
    table_given id = ap (entity_of_row image) (index id) ∙ by (table_of image m id) refl
      where
        by : (o : Option Occurrence) → table_of image m id ≡ o → entity_of_row image (option_map row_for o) ≡ option_map (λ (q : Occurrence). entity_in q.bytes) o
        by None none = refl
        by (Some o) some = ap (λ bytes. Some (entity_in bytes)) (row_bytes o (stands id o some))
