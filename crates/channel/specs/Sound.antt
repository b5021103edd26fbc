-- What holds of each channel, whether or not its disk tells what it reads.
use Rattle.std.specs.Prelude.{◌≡◌, ℕ, ◌<◌, ◌≤◌, ◌↔◌, Bool, true, false, IsTrue, IsSome, IfSome, List, length, Some}
use Rattle.std.specs.FinMap.{get}
use Rattle.transactions_file.specs.Files.{is_live}
use Rattle.entity_form.specs.Spelling.{IsHeaderOf}
use Rattle.channel_files.specs.Channel.{IsInRange}
use Rattle.channel_files.specs.Heads.{lacks_room}
use Rattle.entity_index.specs.declared.row.Row.{Row}
use Rattle.channel.specs.Stages.{FitsStage}
use Rattle.channel.specs.State.{ChannelState}
use Rattle.channel.specs.OnDisk.{IsOnDisk}

-- the row is in a live file, and has the header of an entity of its id
pub record IsRightRow {D : Type 0} (c : ChannelState D) (id : ℕ) (row : Row) : Type 0 where
  pub live : is_live c.files.transactions.inventory.state.files row.file ≡ true
  pub id_is : row.header.id ≡ id
  pub header : IsHeaderOf row.header row.header.length
  -- on an Idle channel no row is marked, grey or left
  pub fits : FitsStage c.phase row

pub record IsSound {D : Type 0} (tells : Bool) (reads : D → ℕ → List ℕ) (c : ChannelState D) : Type 0 where
  pub number : c.number < c.channels
  pub channels : c.channels ≤ 64
  pub sizes : IsInRange c.files.sizes
  pub rows : (id : ℕ) (row : Row) → get c.rows id ≡ Some row → IsRightRow c id row
  pub types : (c.number ≡ 0) ↔ IsSome c.types
  pub types_file : IfSome c.types (λ log. log.file ≡ 1)
  -- a channel whose disk failed makes no further call of it
  pub on_disk : IsTrue tells → c.failed ≡ false → IsOnDisk reads c

-- there is room for the part that is prepared: for its rows, and for a file where it may need one
pub record HasRoom {D : Type 0} (c : ChannelState D) (spare : ℕ) : Type 0 where
  pub rows : IfSome c.prepared (λ part. length part ≤ spare)
  pub files : IsSome c.prepared → c.failed ≡ false → lacks_room c.files.transactions.inventory.state c.files.sizes.maximum ≡ true → 1 ≤ c.files.transactions.inventory.spare
