-- What each image has of a channel after a part of a store, whatever was answered.
use Rattle.std.proofs.Common.{◌≡◌, ◌⊎◌, ℕ, ◌+◌, Bool, List, [], ◌∷◌, ◌++◌, length, Option, Some, None, Result, option_map, IsTrue, IfSome, inl, inr, refl, sym, ap, subst, ◌∙◌, arith}
use Rattle.std.specs.Option.{option_or}
use Rattle.std.specs.FinMap.{get}
use Rattle.gated_log.specs.State.{LogState}
use Rattle.gated_log.specs.Log.{Each, IsLogOf, payloads_of}
use Rattle.graph_model.specs.Graph.{entity_of, or_else, put_all}
use Rattle.graph_model.specs.declared.entity.Entity.{Entity}
use Rattle.graph_model.specs.declared.entity.Record.{Record}
use Rattle.graph_model.proofs.Graphs.{entity_of_put_all}
use Rattle.transactions_file.specs.Inventory.{State}
use Rattle.channel_files.specs.declared.fault.FilesFault.{FilesFault}
use Rattle.channel_files.specs.declared.place.Place.{Place}
use Rattle.channel_files.specs.Channel.{Channel}
use Rattle.channel_files.specs.Chunks.{content_of}
use Rattle.channel_files.specs.Heads.{chunk_of}
use Rattle.channel_files.specs.Images.{EachAsRead}
use Rattle.channel_files.specs.Outcomes.{FileStays, IsStored, next_place}
use Rattle.channel_files.specs.Shows.{HasStored, HasTables, Shows}
use Rattle.channel_files.specs.Table.{Occurrence, table_of, with_chunk}
use Rattle.channel_files.specs.Whole.{HasWholeChunks}
use Rattle.channel_files.proofs.WholeChunks.{whole_same, whole_with}
use Rattle.entity_index.specs.declared.row.Row.{Row}
use Rattle.channel.specs.Core.{bytes_at, core_of, last_part, log_next_id, table_in, types_kept}
use Rattle.channel.specs.Entities.{chunk_for, entity_in}
use Rattle.channel.specs.OnDisk.{AgreesWithImages, HasAll, HoldsChannel, HoldsPart, IsOnDisk, entity_at}
use Rattle.channel.specs.Parts.{IsPart}
use Rattle.channel.specs.State.{ChannelState}
use Rattle.channel.proofs.Chunks.{chunk_is_whole, last_in_chunk, occurrence_at}
use Rattle.channel.proofs.Images.{each_log, holds_shown, mapped_from, types_in}
use Rattle.channel.proofs.OnDisks.{bytes_again}
use Rattle.channel.proofs.PartRows.{Spot, entity_of_spot, spot_of}
use Rattle.channel.proofs.Spelled.{entity_spelled}
use Rattle.channel.proofs.Stored.{spot_right}
use Rattle.channel.proofs.Tables.{entity_of_table, entity_under, table_read_same}

one_state : (a b : State) → ◌≡◌ {A = Option State} (Some a) (Some b) → a ≡ b
one_state a b e = cc

module _ {D : Type 0} (tells : Bool) (reads : D → ℕ → List ℕ) (leaves : D → ℕ → List ℕ → Bool) (c : ChannelState D) (files : Channel D) (number next : ℕ) (rs : List Record)
    (result : Result Place FilesFault)
    (on : IsOnDisk reads c) (part : IsPart rs) (stored : IsStored tells reads leaves c.files files number (chunk_for rs) next result) (told : IsTrue tells) (agrees : AgreesWithImages reads leaves c)
    (number_is : number ≡ last_part c + 1) (image : ℕ → List ℕ) (left : (file : ℕ) → IsTrue (leaves files.disk file (image file))) where
  abbrev old : ℕ → List ℕ
  old = reads c.files.disk

  abbrev place : Place
  place = next_place c.files (length (chunk_for rs))

  abbrev ShowsOld : Type 0
  ShowsOld = Shows c.files.transactions.log.header (last_part c) (log_next_id c) 0 0 (content_of old) image

  abbrev ShowsNew : Type 0
  ShowsNew = Shows c.files.transactions.log.header number next number (log_next_id c) (content_of old ++ chunk_of number place (chunk_for rs) ∷ []) image

  abbrev HasOld : Type 0
  HasOld = HasTables (last_part c) (table_of old) image

  abbrev HasNew : Type 0
  HasNew = HasStored number (table_of old (last_part c)) (with_chunk (chunk_of number place (chunk_for rs)) (table_of old (last_part c))) image

  shows : ShowsOld ⊎ ShowsNew
  shows = stored.shows told agrees.files image left

  tables : HasOld ⊎ HasNew
  tables = stored.tables told agrees.files image left

  -- at the last number the image's table is as it was
  table_last : (id : ℕ) → table_of image (last_part c) id ≡ table_of old (last_part c) id
  table_last id = elim tables [
    | inl has ↦ has.same (last_part c) id
    | inr has ↦ ap (λ (n : ℕ). table_of image n id) (omega (arith, number_is)) ∙ has.earlier id
  ]

  whole : HasWholeChunks image
  whole = elim shows [
    | inl shown ↦ whole_same (content_of old) (content_of image) on.whole shown.content
    | inr shown ↦ whole_with (content_of old) (content_of image) (chunk_of number place (chunk_for rs)) on.whole (chunk_is_whole rs part.entities) shown.content
  ]

  bytes_same : (id : ℕ) (row : Row) → get c.rows id ≡ Some row → bytes_at image row ≡ bytes_at old row
  bytes_same id row is = bytes_again old image (last_part c) (last_part c) id row (on.rows id row is) whole (table_last id)

  -- the rows tell of the same entities
  pub table_same_there : table_in image c.rows ≡ table_in old c.rows
  table_same_there = table_read_same old image c.rows bytes_same

  entity_of_row : (n id : ℕ) (e : Entity) → entity_of (core_of reads c).table id ≡ Some e → table_of image n id ≡ table_of old (last_part c) id → entity_at image n id ≡ Some e
  entity_of_row n id e is same =
      let row = mapped_from (entity_under old) (get c.rows id) e (sym (entity_of_table old c.rows id) ∙ is) in
      ap (λ (o : Option Occurrence). option_map (λ (o : Occurrence). entity_in o.bytes) o) (same ∙ (on.rows id row.of row.is).last) ∙ ap (λ (e : Entity). Some e) row.gives

  has_last : HasAll image (last_part c) (core_of reads c).table
  has_last id e is = entity_of_row (last_part c) id e is (table_last id)

  -- with the part stored, the table at its number has the part's records over those of before
  has_stored : HasNew → HasAll image number (put_all rs (core_of reads c).table)
  has_stored has id e is = (elim (spot_of place.at rs id) as (λ (o : Option Spot). spot_of place.at rs id ≡ o → entity_at image number id ≡ Some e) [
    | None ↦ λ none. entity_of_row number id e (sym (given None none) ∙ is) (there None none)
    | Some s ↦ λ some.
        ap (λ (o : Option Occurrence). option_map (λ (o : Occurrence). entity_in o.bytes) o) (there (Some s) some)
        ∙ ap (λ (e : Entity). Some e) (entity_spelled s.of (spot_right place.at rs id s part.entities some)) ∙ sym (given (Some s) some) ∙ is
  ]) refl
    where
      there : (o : Option Spot) → spot_of place.at rs id ≡ o → table_of image number id ≡ option_or (option_map (occurrence_at place.file) o) (table_of old (last_part c) id)
      there o at =
          has.now.same id ∙ ap (λ (o : Option Occurrence). option_or o (table_of old (last_part c) id)) (last_in_chunk number place rs id part.entities part.ordered)
          ∙ ap (λ (o : Option Spot). option_or (option_map (occurrence_at place.file) o) (table_of old (last_part c) id)) at

      given : (o : Option Spot) → spot_of place.at rs id ≡ o
          → entity_of (put_all rs (core_of reads c).table) id ≡ or_else (option_map (λ (s : Spot). s.of.entity) o) (entity_of (core_of reads c).table id)
      given o at =
          entity_of_put_all rs (core_of reads c).table id
          ∙ ap (λ (o : Option Entity). or_else o (entity_of (core_of reads c).table id)) (entity_of_spot place.at rs id ∙ ap (λ (o : Option Spot). option_map (λ (s : Spot). s.of.entity) o) at)

  module _ (file_one : FileStays 1 (reads c.files.disk) (reads files.disk) (leaves c.files.disk) (leaves files.disk)) where
    types_there : IfSome c.types (λ log. IsLogOf log.header (types_kept reads c) (image 1))
    types_there =
        types_in c.types (old 1) (image 1) on.types
        (each_log c.types (leaves c.files.disk 1) (old 1) (image 1) agrees.types (subst (λ (l : List ℕ → Bool). IsTrue (l (image 1))) file_one.leaves (left 1)))

    -- a stored part's image has not the tables of before alone
    apart : ShowsNew → HasOld → ⊥
    apart shown has = absurd (omega (arith, number_is, shown.last_is, has.last_is, ap (λ (s : State). s.last) (one_state shown.state has.state (sym shown.inventory ∙ has.inventory))))

    holds_part : ShowsNew → HasNew → HoldsPart reads c number next rs image
    holds_part shown has = record {
      now = record { state = shown.state; inventory = shown.inventory; last_is = shown.last_is; next_id_is = shown.next_id_is; all = has_stored has };
      before = has_last;
      types = types_there;
    }

    -- the image has what the channel stood for, or this and the part
    pub holds_either : HoldsChannel reads c image ⊎ HoldsPart reads c number next rs image
    holds_either = elim shows [
      | inl shown ↦ inl (holds_shown reads c on image (types_kept reads c) shown types_there)
      | inr shown ↦ inr (elim tables [ inl has ↦ absurd (apart shown has) | inr has ↦ holds_part shown has ])
    ]

-- ---- what the calls' clauses say

pub holds_if : {D : Type 0} (reads : D → ℕ → List ℕ) (c : ChannelState D) (number next : ℕ) (rs : List Record) (o : Option (List Record)) (image : ℕ → List ℕ) → o ≡ Some rs
    → HoldsChannel reads c image ⊎ HoldsPart reads c number next rs image → HoldsChannel reads c image ⊎ IfSome o (λ part. HoldsPart reads c number next part image)
holds_if reads c number next rs o image is (inl holds) = inl holds
holds_if reads c number next rs o image is (inr holds) = inr (subst (λ (o : Option (List Record)). IfSome o (λ part. HoldsPart reads c number next part image)) (sym is) holds)

-- the channel still agrees with each image, where its own log does
pub agrees_with : {D : Type 0} (reads : D → ℕ → List ℕ) (leaves : D → ℕ → List ℕ → Bool) (old new : ChannelState D) → AgreesWithImages reads leaves old → new.types ≡ old.types
    → EachAsRead new.files.transactions (reads new.files.disk) (leaves new.files.disk) → FileStays 1 (reads old.files.disk) (reads new.files.disk) (leaves old.files.disk)
    (leaves new.files.disk) → AgreesWithImages reads leaves new
agrees_with reads leaves old new agrees types files file_one = record {
  files = files;
  types =
      subst (λ (o : Option LogState). IfSome o (λ log. Each (leaves new.files.disk 1) (IsLogOf log.header (payloads_of (reads new.files.disk 1))))) (sym types)
      (subst (λ (bytes : List ℕ). IfSome old.types (λ log. Each (leaves new.files.disk 1) (IsLogOf log.header (payloads_of bytes)))) (sym file_one.reads)
      (subst (λ (l : List ℕ → Bool). IfSome old.types (λ log. Each l (IsLogOf log.header (payloads_of (reads old.files.disk 1))))) (sym file_one.leaves) agrees.types));
}

pub for_some : {A : Type 0} (P : A → Type 0) (o : Option A) (a : A) → o ≡ Some a → P a → IfSome o P
for_some P o a is holds = subst (λ o. IfSome o P) (sym is) holds

-- after a refusal the channel stands for the same channel of the core
pub core_refused : {D : Type 0} (tells : Bool) (reads : D → ℕ → List ℕ) (leaves : D → ℕ → List ℕ
    → Bool) (c : ChannelState D) (files : Channel D) (number next : ℕ) (rs : List Record) (result : Result Place FilesFault)
    → IsOnDisk reads c → IsPart rs → IsStored tells reads leaves c.files files number (chunk_for rs) next result → IsTrue tells → AgreesWithImages reads leaves c → number ≡ last_part c + 1
    → ((file : ℕ) → IsTrue (leaves files.disk file (reads files.disk file))) → files.transactions.inventory.state.last ≡ last_part c → files.confirmed ≡ c.files.confirmed
    → core_of reads (record c { files = files }) ≡ core_of reads c
core_refused tells reads leaves c files number next rs result on part stored told agrees number_is left last confirmed =
    let table = table_same_there tells reads leaves c files number next rs result on part stored told agrees number_is (reads files.disk) left in
    cc (table, last, confirmed)
