-- How a channel stands on its disk once a part of a store is there.
use Rattle.std.proofs.Common.{◌≡◌, ℕ, ◌+◌, ◌-◌, Bool, true, false, cond, List, [], ◌∷◌, length, take, drop, map, Option, Some, None, is_some, option_map, IfSome, refl, sym, ap, subst, ◌∙◌}
use Rattle.std.specs.Prelude.{nat_eq}
use Rattle.std.specs.List.{AllByRecursion}
use Rattle.std.specs.Option.{option_or}
use Rattle.std.specs.Ordering.{nat_cmp}
use Rattle.std.specs.FinMap.{FinMap, get}
use Rattle.graph_model.specs.Ids.{has}
use Rattle.graph_model.specs.Graph.{entity_of, entity_size, ids, or_else, put_all}
use Rattle.graph_model.specs.declared.entity.Entity.{Entity}
use Rattle.graph_model.specs.declared.entity.Record.{Record}
use Rattle.graph_model.proofs.Graphs.{entity_of_put_all, has_ids}
use Rattle.graph_model.proofs.Rising.{rises_put_all}
use Rattle.channel_files.specs.declared.place.Place.{Place}
use Rattle.channel_files.specs.Heads.{chunk_of}
use Rattle.channel_files.specs.Table.{IsSameTable, Occurrence, table_of, with_chunk}
use Rattle.channel_files.specs.Whole.{HasWholeChunks, header_of}
use Rattle.channel_files.proofs.FoundEntities.{found_there, length_told}
use Rattle.entity_index.specs.declared.row.Row.{Row}
use Rattle.channel.specs.Core.{bytes_at, table_in}
use Rattle.channel.specs.Entities.{chunk_for, entity_in, header_for}
use Rattle.channel.specs.OnDisk.{Stands, row_before}
use Rattle.channel.specs.Parts.{IsPart, IsRightRecord}
use Rattle.channel.specs.Taking.{rows_behind, slot_for}
use Rattle.channel.proofs.Spelled.{entity_spelled, header_spelled, spelled}
use Rattle.channel.proofs.Tables.{entity_of_table, entity_under, same_table, table_rises}
use Rattle.channel.proofs.PartRows.{Spot, before_of, entity_of_spot, get_rows_behind, spot_id, spot_of, spot_row}
use Rattle.channel.proofs.Chunks.{last_in_chunk, occurrence_at}
use Rattle.channel.proofs.OnDisks.{bytes_again, stands_again}

-- a row whose entity has these bytes, and where they stand
pub record StandsAs (reads : ℕ → List ℕ) (number id : ℕ) (row : Row) (bytes : List ℕ) : Type 0 where
  pub stands : Stands reads number id row
  pub bytes_are : bytes_at reads row ≡ bytes

-- in whole chunks the bytes of a table's entity stand where the table says
pub stands_as : (reads : ℕ → List ℕ) (number id : ℕ) (row : Row) (bytes : List ℕ) → HasWholeChunks reads
    → table_of reads number id ≡ Some (record { id = id; file = row.file; at = row.at; bytes = bytes }) → header_of bytes ≡ row.header → StandsAs reads number id row bytes
stands_as reads number id row bytes whole is header =
    let o : Occurrence = record { id = id; file = row.file; at = row.at; bytes = bytes } in
    let there = found_there reads number id o whole is in
    let len : row.header.length ≡ length bytes = sym (ap (λ h. h.length) header) ∙ length_told bytes there.entity in
    let same : bytes_at reads row ≡ bytes = ap (λ (n : ℕ). take n (drop row.at (reads row.file))) len ∙ there.same in
    record {
      stands = record {
        last = is ∙ ap (λ (b : List ℕ). Some (record { id = id; file = row.file; at = row.at; bytes = b })) (sym same);
        header = ap header_of same ∙ header;
      };
      bytes_are = same;
    }

-- a row stands as it did where the table says the same of its id
stands_still : (old new : ℕ → List ℕ) (last number id : ℕ) (row : Row) → HasWholeChunks new → Stands old last id row → table_of new number id ≡ table_of old last id
    → StandsAs new number id row (bytes_at old row)
stands_still old new last number id row whole stood same = record {
  stands = stands_again old new last number id row stood whole same;
  bytes_are = bytes_again old new last number id row
      stood whole same;
}

pub spot_right : (at : ℕ) (rs : List Record) (x : ℕ) (s : Spot) → AllByRecursion IsRightRecord rs → spot_of at rs x ≡ Some s → IsRightRecord s.of
spot_right at [] x s all is = absurd cc
spot_right at (r ∷ rs) x s all is = (elim (nat_eq x r.id) as (λ (b : Bool). cond b (Some (record { at = at; of = r })) (spot_of (at + entity_size r.entity) rs x) ≡ Some s → IsRightRecord s.of) [
  | true ↦ λ here. subst IsRightRecord (of_same (record { at = at; of = r }) s here) all.0
  | false ↦ λ later. spot_right (at + entity_size r.entity) rs x s all.1 later
]) is
  where
    of_same : (a b : Spot) → ◌≡◌ {A = Option Spot} (Some a) (Some b) → a.of ≡ b.of
    of_same a b e = cc

module _ (odd : Bool) (old new : ℕ → List ℕ) (last number : ℕ) (place : Place) (rs : List Record) (part : IsPart rs) (rows : FinMap nat_cmp Row)
    (stood : (id : ℕ) (row : Row) → get rows id ≡ Some row → Stands old last id row) (whole : HasWholeChunks new)
    (table : IsSameTable (with_chunk (chunk_of number place (chunk_for rs)) (table_of old last)) (table_of new number)) where
  abbrev new_rows : FinMap nat_cmp Row
  new_rows = rows_behind odd place.file place.at (map header_for rs) rows

  abbrev spot : ℕ → Option Spot
  spot id = spot_of place.at rs id

  row_now : (id : ℕ) (o : Option Spot) → spot id ≡ o → get new_rows id ≡ option_or (option_map (spot_row odd place.file) o) (get rows id)
  row_now id o is = get_rows_behind odd place.file place.at rs rows id part.ordered ∙ ap (λ (o : Option Spot). option_or (option_map (spot_row odd place.file) o) (get rows id)) is

  table_now : (id : ℕ) (o : Option Spot) → spot id ≡ o → table_of new number id ≡ option_or (option_map (occurrence_at place.file) o) (table_of old last id)
  table_now id o is =
      table id ∙ ap (λ (o : Option Occurrence). option_or o (table_of old last id)) (last_in_chunk number place rs id part.entities part.ordered)
      ∙ ap (λ (o : Option Spot). option_or (option_map (occurrence_at place.file) o) (table_of old last id)) is

  -- a record of the part stands where its row says
  record_stands : (id : ℕ) (s : Spot) → spot id ≡ Some s → StandsAs new number id (spot_row odd place.file s) (spelled s.of)
  record_stands id s is =
      let right = spot_right place.at rs id s part.entities is in
      stands_as new number id (spot_row odd place.file s) (spelled s.of) whole
      (table_now id (Some s) is ∙ ap (λ (n : ℕ). Some (record { id = n; file = place.file; at = s.at; bytes = spelled s.of })) (spot_id place.at rs id s is))
      (header_spelled s.of right)

  -- and every other row as it did
  other_stands : (id : ℕ) (row : Row) → spot id ≡ None → get rows id ≡ Some row → StandsAs new number id row (bytes_at old row)
  other_stands id row none is = stands_still old new last number id row whole (stood id row is) (table_now id None none)

  pub rows_stand : (id : ℕ) (row : Row) → get new_rows id ≡ Some row → Stands new number id row
  rows_stand id row is = (elim (spot id) as (λ (o : Option Spot). spot id ≡ o → Stands new number id row) [
    | None ↦ λ none. (other_stands id row none (sym (row_now id None none) ∙ is)).stands
    | Some s ↦ λ some.
        let same : spot_row odd place.file s ≡ row = some_same (spot_row odd place.file s) row (sym (row_now id (Some s) some) ∙ is) in
        subst (Stands new number id) same (record_stands id s some).stands
  ]) refl
    where
      some_same : (a b : Row) → ◌≡◌ {A = Option Row} (Some a) (Some b) → a ≡ b
      some_same a b e = cc

  -- at the number before, each row of before stands as it did
  pub before_stands : IsSameTable (table_of old last) (table_of new (number - 1)) → (id : ℕ) (row : Row) → get new_rows id ≡ Some row
      → IfSome (row_before (map (slot_for rows) rs) id row) (Stands new (number - 1) id)
  before_stands table_before id row is =
      subst (λ (o : Option Row). IfSome o (Stands new (number - 1) id)) (sym (before_of place.at rs rows id row part.ordered))
      ((elim (spot id) as (λ (o : Option Spot). spot id ≡ o → IfSome (cond (has id (ids rs)) (get rows id) (Some row)) (Stands new (number - 1) id)) [
        | None ↦ λ none. subst (λ (b : Bool). IfSome (cond b (get rows id) (Some row)) (Stands new (number - 1) id)) (sym (listed id None none)) (still row (sym (row_now id None none) ∙ is))
        | Some s ↦ λ some. subst (λ (b : Bool). IfSome (cond b (get rows id) (Some row)) (Stands new (number - 1) id)) (sym (listed id (Some s) some)) (if_some (get rows id) still)
      ]) refl)
    where
      still : (row : Row) → get rows id ≡ Some row → Stands new (number - 1) id row
      still row is = (stands_still old new last (number - 1) id row whole (stood id row is) (table_before id)).stands

      if_some : (o : Option Row) → ((row : Row) → o ≡ Some row → Stands new (number - 1) id row) → IfSome o (Stands new (number - 1) id)
      if_some None each = tt
      if_some (Some row) each = each row refl

      mapped : (o : Option Spot) → is_some (option_map (λ (s : Spot). s.of.entity) o) ≡ is_some o
      mapped None = refl
      mapped (Some s) = refl

      listed : (id : ℕ) (o : Option Spot) → spot id ≡ o → has id (ids rs) ≡ is_some o
      listed id o is = has_ids rs id ∙ ap (λ (o : Option Entity). is_some o) (entity_of_spot place.at rs id ∙ ap (λ (o : Option Spot). option_map (λ (s : Spot). s.of.entity) o) is) ∙ mapped o

  -- the table has the part's records over those of before
  pub table_stored : table_in new new_rows ≡ put_all rs (table_in old rows)
  table_stored =
      same_table (table_in new new_rows) (put_all rs (table_in old rows)) (table_rises new new_rows) (rises_put_all rs (table_in old rows) (table_rises old rows))
      (λ id. entity_of_table new new_rows id ∙ at id ∙ sym (entity_of_put_all rs (table_in old rows) id))
    where
      others : (id : ℕ) (o : Option Row) → get rows id ≡ o → spot id ≡ None → option_map (entity_under new) o ≡ option_map (entity_under old) o
      others id None is none = refl
      others id (Some row) is none = ap (λ (b : List ℕ). Some (entity_in b)) (other_stands id row none is).bytes_are

      at : (id : ℕ) → option_map (entity_under new) (get new_rows id) ≡ or_else (entity_of rs id) (entity_of (table_in old rows) id)
      at id = (elim (spot id) as (λ (o : Option Spot). spot id ≡ o → option_map (entity_under new) (get new_rows id) ≡ or_else (entity_of rs id) (entity_of (table_in old rows) id)) [
        | None ↦ λ none.
            ap (λ (o : Option Row). option_map (entity_under new) o) (row_now id None none) ∙ others id (get rows id) refl none
            ∙ sym (entity_of_table old rows id)
            ∙ sym (ap (λ (o : Option Entity). or_else o (entity_of (table_in old rows) id)) (entity_of_spot place.at rs id ∙ ap (λ (o : Option Spot). option_map (λ (s : Spot). s.of.entity) o) none))
        | Some s ↦ λ some.
            ap (λ (o : Option Row). option_map (entity_under new) o) (row_now id (Some s) some)
            ∙ ap (λ (b : List ℕ). Some (entity_in b)) (record_stands id s some).bytes_are
            ∙ ap (λ (e : Entity). Some e) (entity_spelled s.of (spot_right place.at rs id s part.entities some))
            ∙ sym (ap (λ (o : Option Entity). or_else o (entity_of (table_in old rows) id)) (entity_of_spot place.at rs id ∙ ap (λ (o : Option Spot). option_map (λ (s : Spot). s.of.entity) o) some))
      ]) refl
