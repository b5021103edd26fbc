-- What an image shows of a channel: the last store, the next id, the chunks in log order, and the table.
use Rattle.std.specs.Prelude.{◌≡◌, ℕ, ◌-◌, ◌≤◌, List, length, Option, Some, None}
use Rattle.gated_log.specs.Log.{IsLogOf, payloads_of}
use Rattle.tx_entry.specs.declared.entry.Entry.{Entry}
use Rattle.tx_entry.specs.declared.entry.Entry.TheVariants.{Creation, Store, Transfer, Truncation, Deletion}
use Rattle.transactions_file.specs.Files.{length_in}
use Rattle.transactions_file.specs.Inventory.{State, inventory_of}
use Rattle.channel_files.specs.Chunks.{Chunk, content_of}
use Rattle.channel_files.specs.Table.{Occurrence, table_of, IsSameTable}

-- the number of the last entry where it is a store; 0 of every other
abbrev pub newest_of : Option Entry → ℕ
newest_of (Some (Store number file at len next_id)) = number
newest_of (Some (Creation file)) = 0
newest_of (Some (Transfer source file at len)) = 0
newest_of (Some (Truncation file n d)) = 0
newest_of (Some (Deletion file)) = 0
newest_of None = 0

-- The log is whole and its entries give an inventory with this last store and this next id. The chunks are these, in live files that are long enough.
-- newest is the number of the store that is the last entry, and before the next id in front of it; newest 0 says nothing of the last entry.
pub record Shows (header : List ℕ) (last next_id newest before : ℕ) (chunks : List Chunk) (image : ℕ → List ℕ) : Type 0 where
  pub state : State
  pub is_log : IsLogOf header (payloads_of (image 0)) (image 0)
  pub inventory : inventory_of (payloads_of (image 0)) ≡ Some state
  pub last_is : state.last ≡ last
  pub next_id_is : state.next_id ≡ next_id
  pub newest_is : 1 ≤ newest → newest_of state.entry ≡ newest
  pub before_is : 1 ≤ newest → state.next_id_before ≡ before
  pub content : content_of image ≡ chunks
  pub long : (f : ℕ) → length_in state.files f ≤ length (image f)

-- the image's last store is this one, and its table at each number is the one given for it
pub record HasTables (last : ℕ) (tables : ℕ → ℕ → Option Occurrence) (image : ℕ → List ℕ) : Type 0 where
  pub state : State
  pub inventory : inventory_of (payloads_of (image 0)) ≡ Some state
  pub last_is : state.last ≡ last
  pub same : (number : ℕ) → IsSameTable (tables number) (table_of image number)

-- the image's last store is this one, and its table at that number is this one
pub record HasTable (last : ℕ) (table : ℕ → Option Occurrence) (image : ℕ → List ℕ) : Type 0 where
  pub state : State
  pub inventory : inventory_of (payloads_of (image 0)) ≡ Some state
  pub last_is : state.last ≡ last
  pub same : IsSameTable table (table_of image last)

-- the image's last store is this one, which gave it its table; at the number before it still has the table of before
pub record HasStored (number : ℕ) (before after : ℕ → Option Occurrence) (image : ℕ → List ℕ) : Type 0 where
  pub now : HasTable number after image
  pub earlier : IsSameTable before (table_of image (number - 1))
