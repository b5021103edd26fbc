-- Where the entities of a chunk stand in its bytes.
use Rattle.std.proofs.Common.{◌≡◌, ℕ, zero, suc, ◌+◌, ◌-◌, ◌≤◌, List, [], ◌∷◌, ◌++◌, length, take, drop, Option, Some, unwrap_or, refl, ap, sym, subst, ◌∙◌, arith, length-take, length-append}
use Rattle.std.specs.List.{flat_map, AllByRecursion}
use Rattle.std.proofs.lemmas.List.{take_at, drop_at, drop-drop}
use Rattle.field_bytes.specs.Fields.{number_at}
use Rattle.data_file.specs.Chunks.{IsEntity, IsChunk, entities_from, entities_of}
use Rattle.channel_files.specs.Chunks.{Chunk}
use Rattle.channel_files.specs.Table.{Occurrence, occurrences_from, occurrences_of}
use Rattle.channel_files.proofs.WholeEntities.{entities_again, own_length}

-- ---- any bytes

-- the entity is in this file and ends at this place or before it
pub record EndsBy (file end : ℕ) (o : Occurrence) : Type 0 where
  pub file_is : o.file ≡ file
  pub within : o.at + length o.bytes ≤ end

ends_later : (file end later : ℕ) (os : List Occurrence) → end ≤ later → AllByRecursion (EndsBy file end) os → AllByRecursion (EndsBy file later) os
ends_later file end later [] le all = tt
ends_later file end later (o ∷ os) le all = (record { file_is = all.0.file_is; within = omega (arith, le, all.0.within) }, ends_later file end later os le all.1)

ends_from : (file at skip : ℕ) (bytes : List ℕ) → AllByRecursion (EndsBy file (at + (length bytes - skip))) (occurrences_from file at (entities_from skip bytes))
ends_from file at skip [] = tt
ends_from file at zero (b ∷ bytes) =
    let size = unwrap_or (number_at 8 (b ∷ bytes) 0) 0 in
    let entity = take size (b ∷ bytes) in (
      record { file_is = refl; within = omega (arith, length-take size (b ∷ bytes)) },
      ends_later file (at + length entity + (length bytes - (size - 1))) (at + (length (b ∷ bytes) - 0)) (occurrences_from file (at + length entity) (entities_from (size - 1) bytes))
          (omega (arith, length-take size (b ∷ bytes))) (ends_from file (at + length entity) (size - 1) bytes),
    )
ends_from file at (suc skip) (b ∷ bytes) = ends_later file (at + (length bytes - skip)) (at + (length (b ∷ bytes) - suc skip)) (occurrences_from file at (entities_from skip bytes)) (omega arith) (ends_from file at skip bytes)

-- a chunk's entities end within it
pub entities_end : (c : Chunk) → AllByRecursion (EndsBy c.file (c.at + length c.bytes)) (occurrences_of c)
entities_end c = ends_later c.file (c.at + (length c.bytes - 0)) (c.at + length c.bytes) (occurrences_of c) (omega arith) (ends_from c.file c.at 0 c.bytes)

-- the entity stands so far behind this place, in bytes that begin there
pub record StandsIn (bytes : List ℕ) (file at : ℕ) (o : Occurrence) : Type 0 where
  pub skip : ℕ
  pub file_is : o.file ≡ file
  pub at_is : o.at ≡ at + skip
  pub within : skip + length o.bytes ≤ length bytes
  pub same : take (length o.bytes) (drop skip bytes) ≡ o.bytes
  pub entity : IsEntity o.bytes

-- so it does behind further bytes in front
further : (front bytes : List ℕ) (file at : ℕ) (os : List Occurrence) → AllByRecursion (StandsIn bytes file (at + length front)) os → AllByRecursion (StandsIn (front ++ bytes) file at) os
further front bytes file at [] all = tt
further front bytes file at (o ∷ os) all =
    let here = all.0 in
    let behind : drop (length front + here.skip) (front ++ bytes) ≡ drop here.skip bytes =
    sym (drop-drop here.skip (length front) (front ++ bytes)) ∙ ap (drop here.skip) (drop_at front bytes (length front) refl) in (
      record {
        skip = length front + here.skip;
        file_is = here.file_is;
        at_is = omega (arith, here.at_is);
        within = omega (arith, here.within, length-append front bytes);
        same = ap (take (length o.bytes)) behind ∙ here.same;
        entity = here.entity;
      },
      further front bytes file at os all.1,
    )

stand_from : (file at : ℕ) (entities : List (List ℕ)) → AllByRecursion IsEntity entities → AllByRecursion (StandsIn (flat_map (λ e. e) entities) file at) (occurrences_from file at entities)
stand_from file at [] whole = tt
stand_from file at (e ∷ entities) whole =
    let rest = flat_map (λ e. e) entities in (
      record {
        skip = 0;
        file_is = refl;
        at_is = omega arith;
        within = omega (arith, length-append e rest);
        same = take_at e rest (length e) refl;
        entity = whole.0;
      },
      further e rest file at (occurrences_from file (at + length e) entities) (stand_from file (at + length e) entities whole.1),
    )

-- each entity of a chunk of whole entities stands in its bytes
pub entities_stand : (c : Chunk) → IsChunk c.bytes → AllByRecursion (StandsIn c.bytes c.file c.at) (occurrences_of c)
entities_stand c is =
    let es = is.entities in
    let read : entities_of c.bytes ≡ es = ap entities_of is.split ∙ entities_again es is.whole in
    subst (λ (l : List (List ℕ)). AllByRecursion (StandsIn c.bytes c.file c.at) (occurrences_from c.file c.at l)) (sym read)
    (subst (λ (b : List ℕ). AllByRecursion (StandsIn b c.file c.at) (occurrences_from c.file c.at es)) (sym is.split) (stand_from c.file c.at es is.whole))
