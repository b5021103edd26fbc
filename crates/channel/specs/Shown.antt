-- What an image of a channel's disk shows at a store's number.
use Rattle.std.specs.Prelude.{◌≡◌, ◌⊎◌, ℕ, ◌+◌, ◌-◌, List, option_map, Option}
use Rattle.graph_model.specs.Graph.{entity_of, or_else}
use Rattle.graph_model.specs.declared.entity.Entity.{Entity}
use Rattle.graph_model.specs.declared.entity.Record.{Record}
use Rattle.transactions_file.specs.Inventory.{State}
use Rattle.channel_files.specs.Chunks.{Chunk, content_of}
use Rattle.channel_files.specs.Shows.{newest_of}
use Rattle.channel_files.specs.Table.{Occurrence, table_at}
use Rattle.channel.specs.Entities.{entity_in}
use Rattle.channel.specs.Images.{HasLog, Image, next_at, state_of}
use Rattle.channel.specs.ChunkRule.{HasRightChunks}
use Rattle.channel.specs.OnDisk.{entity_at}
use Rattle.channel.specs.State.{ChannelState}
use Rattle.channel.specs.Core.{last_part, log_next_id, next_before}

-- what the disk of a channel holds at a store's number: an entity of each id, and the next id
pub record DiskTable : Type 0 where
  pub entities : ℕ → Option Entity
  pub next_id : ℕ

-- the table with these records in it, in the stead of those of the same ids
abbrev pub put_over : List Record → (ℕ → Option Entity) → ℕ → Option Entity
put_over part tables x = or_else (entity_of part x) (tables x)

-- the disk with these records as the part of a store with this next id
abbrev pub with_part : List Record → ℕ → DiskTable → DiskTable
with_part part next_id d = record { entities = put_over part d.entities; next_id = next_id }

-- the last store has this number, or the next and is the log's last entry
abbrev pub IsLastOrNext : ℕ → State → Type 0
IsLastOrNext m s = (s.last ≡ m) ⊎ ((s.last ≡ m + 1) × (newest_of s.entry ≡ s.last))

-- at the number m the image of channel j of n has this table and this next id, each of its chunks keeps the rule with ids below `next`,
-- and m is the number of its last store, or the one before, where that store is the log's last entry
pub record ShowsAt (n j m next : ℕ) (d : DiskTable) (image : Image) : Type 0 where
  pub log : HasLog n j image
  pub agrees : IsLastOrNext m (state_of image)
  pub next_id : next_at m image ≡ d.next_id
  pub chunks : HasRightChunks n j next m image
  pub entities : (x : ℕ) → entity_at image m x ≡ d.entities x

-- the image ends at the number m
pub record EndsAt (n j m next : ℕ) (d : DiskTable) (image : Image) : Type 0 where
  pub last : (state_of image).last ≡ m
  pub shows : ShowsAt n j m next d image

-- the image has this part of the store m + 1, behind the table of the number m
pub record HasPart (n j m next : ℕ) (part : List Record) (part_next : ℕ) (d : DiskTable) (image : Image) : Type 0 where
  pub before : ShowsAt n j m next d image
  pub now : EndsAt n j (m + 1) part_next (with_part part part_next d) image

-- what chunks give at the number m
abbrev pub disk_in : ℕ → List Chunk → ℕ → DiskTable
disk_in m chunks next_id = record { entities = λ (x : ℕ). option_map (λ (o : Occurrence). entity_in o.bytes) (table_at m chunks x); next_id = next_id }

-- what an image holds at the number m
abbrev pub disk_at : ℕ → Image → DiskTable
disk_at m image = record { entities = λ (x : ℕ). entity_at image m x; next_id = next_at m image }

-- what the disk of a channel holds at its last part
abbrev pub disk_held : {D : Type 0} → (D → ℕ → List ℕ) → ChannelState D → DiskTable
disk_held reads c = disk_in (last_part c) (content_of (reads c.files.disk)) (log_next_id c)

-- and at the number before
abbrev pub disk_before : {D : Type 0} → (D → ℕ → List ℕ) → ChannelState D → DiskTable
disk_before reads c = disk_in (last_part c - 1) (content_of (reads c.files.disk)) (next_before c)
