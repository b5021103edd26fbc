-- What an image that shows a channel's chunks has of the channel.
use Rattle.std.proofs.Common.{◌≡◌, ◌≢◌, ℕ, ◌-◌, Bool, IsTrue, List, Option, Some, None, option_map, IfSome, refl, sym, ap, subst, ◌∙◌, arith}
use Rattle.std.specs.FinMap.{get}
use Rattle.std.proofs.lemmas.List.{take_all}
use Rattle.gated_log.specs.State.{LogState}
use Rattle.store_io.specs.Whole.{EachImage}
use Rattle.gated_log.specs.Log.{Each, IsLogOf, payloads_of}
use Rattle.gated_log.specs.Of.{IsOf}
use Rattle.graph_model.specs.declared.entity.Entity.{Entity}
use Rattle.transactions_file.specs.Inventory.{State, inventory_of}
use Rattle.channel_files.specs.Chunks.{Chunk, content_of}
use Rattle.channel_files.specs.Shows.{Shows}
use Rattle.channel_files.specs.Table.{Occurrence, table_at, table_of}
use Rattle.channel_files.proofs.Appended.{each_shows}
use Rattle.entity_index.specs.declared.row.Row.{Row}
use Rattle.channel.specs.Entities.{entity_in}
use Rattle.channel.specs.State.{ChannelState}
use Rattle.channel.specs.Core.{bytes_at, core_of, last_part, log_next_id, payloads_kept, types_kept}
use Rattle.channel.specs.OnDisk.{AgreesWithImages, HasAll, HoldsWith, IsOnDisk, Stands, WasThere, entity_at}
use Rattle.channel.proofs.Tables.{entity_of_table, entity_under}

-- what an option was mapped from
pub record IsFrom {A B : Type 0} (f : A → B) (o : Option A) (b : B) : Type 0 where
  pub of : A
  pub is : o ≡ Some of
  pub gives : f of ≡ b

pub mapped_from : {A B : Type 0} (f : A → B) (o : Option A) (b : B) → option_map f o ≡ Some b → IsFrom f o b
mapped_from f None b e = absurd cc
mapped_from f (Some a) b e = record { of = a; is = refl; gives = cc }

-- type records that are all kept
pub kept_in : (o : Option LogState) (bytes : List ℕ) → IfSome o (λ log. IsOf log bytes) → IfSome o (λ log. payloads_kept bytes o ≡ payloads_of bytes)
kept_in None bytes is = tt
kept_in (Some log) bytes is = take_all log.count (payloads_of bytes) (omega (arith, is.count))

pub types_in : (o : Option LogState) (bytes image : List ℕ) → IfSome o (λ log. IsOf log bytes) → IfSome o (λ log. IsLogOf log.header (payloads_of bytes) image)
    → IfSome o (λ log. IsLogOf log.header (payloads_kept bytes o) image)
types_in None bytes image is log = tt
types_in (Some log) bytes image is there = subst (λ (ps : List (List ℕ)). IsLogOf log.header ps image) (sym (kept_in (Some log) bytes is)) there

-- a log that each image has
pub each_log : (o : Option LogState) (leaves : List ℕ → Bool) (bytes image : List ℕ) → IfSome o (λ log. Each leaves (IsLogOf log.header (payloads_of bytes))) → IsTrue (leaves image)
    → IfSome o (λ log. IsLogOf log.header (payloads_of bytes) image)
each_log None leaves bytes image each left = tt
each_log (Some log) leaves bytes image each left = each image left

-- what is read of a log is that log
pub types_read : (o : Option LogState) (bytes : List ℕ) → IfSome o (λ log. IsOf log bytes) → IfSome o (λ log. IsLogOf log.header (payloads_of bytes) bytes)
types_read None bytes is = tt
types_read (Some log) bytes is = is.is

module _ {D : Type 0} (reads : D → ℕ → List ℕ) (c : ChannelState D) (on : IsOnDisk reads c) (image : ℕ → List ℕ) (content : content_of image ≡ content_of (reads c.files.disk)) where
  abbrev r : ℕ → List ℕ
  r = reads c.files.disk

  pub same_at : (number id : ℕ) → table_of image number id ≡ table_of r number id
  same_at number id = ap (λ (l : List Chunk). table_at number l id) content

  found_at : (number id : ℕ) (row : Row) → Stands r number id row → entity_at image number id ≡ Some (entity_in (bytes_at r row))
  found_at number id row s = ap (λ (o : Option Occurrence). option_map (λ (o : Occurrence). entity_in o.bytes) o) (same_at number id ∙ s.last)

  pub has_table : HasAll image (last_part c) (core_of reads c).table
  has_table id e is =
      let row = mapped_from (entity_under r) (get c.rows id) e (sym (entity_of_table r c.rows id) ∙ is) in
      found_at (last_part c) id row.of (on.rows id row.of row.is) ∙ ap (λ (e : Entity). Some e) row.gives

  was_there : c.files.confirmed ≢ last_part c → (id : ℕ) (e : Entity) → WasThere reads c id e → entity_at image (last_part c - 1) id ≡ Some e
  was_there unconfirmed id e was =
      let stood : IfSome (Some was.before) (Stands r (last_part c - 1) id) = subst (λ (o : Option Row). IfSome o (Stands r (last_part c - 1) id)) was.was (on.before unconfirmed id was.row was.now) in
      found_at (last_part c - 1) id was.before stood ∙ ap (λ (e : Entity). Some e) was.entity

  pub holds : (types : List (List ℕ)) (state : State) → inventory_of (payloads_of (image 0)) ≡ Some state → state.last ≡ last_part c → state.next_id ≡ log_next_id c
      → IfSome c.types (λ log. IsLogOf log.header types (image 1)) → HoldsWith reads c types image
  holds types state inventory last next there = record {
    now = record { state = state; inventory = inventory; last_is = last; next_id_is = next; all = has_table };
    before = was_there;
    types = there;
  }

-- the image shows the channel's last store, next id and chunks
pub holds_shown : {D : Type 0} {header : List ℕ} {newest before : ℕ} (reads : D → ℕ → List ℕ) (c : ChannelState D) (on : IsOnDisk reads c) (image : ℕ → List ℕ) (types : List (List ℕ))
    → Shows header (last_part c) (log_next_id c) newest before (content_of (reads c.files.disk)) image → IfSome c.types (λ log. IsLogOf log.header types (image 1)) → HoldsWith reads c types image
holds_shown reads c on image types shows there = holds reads c on image shows.content types shows.state shows.inventory shows.last_is shows.next_id_is there

-- what is read has what the channel stands for
pub holds_read : {D : Type 0} (reads : D → ℕ → List ℕ) (c : ChannelState D) → IsOnDisk reads c → HoldsWith reads c (types_kept reads c) (reads c.files.disk)
holds_read reads c on =
    let bytes = reads c.files.disk 1 in
    holds reads c on (reads c.files.disk) refl (types_kept reads c) c.files.transactions.inventory.state on.of_disk.kept.inventory refl refl (types_in c.types bytes bytes on.types
    (types_read c.types bytes on.types))

-- so has each image that a stop may leave
pub holds_left : {D : Type 0} (reads : D → ℕ → List ℕ) (leaves : D → ℕ → List ℕ → Bool) (c : ChannelState D) → IsOnDisk reads c → AgreesWithImages reads leaves c
    → EachImage (leaves c.files.disk) (HoldsWith reads c (types_kept reads c))
holds_left reads leaves c on agrees image left =
    let r = reads c.files.disk in
    holds_shown reads c on image (types_kept reads c) (each_shows c.files.transactions r (leaves c.files.disk) on.of_disk agrees.files image left)
    (types_in c.types (r 1) (image 1) on.types (each_log c.types (leaves c.files.disk 1) (r 1) (image 1) agrees.types (left 1)))
