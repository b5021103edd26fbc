-- The indexes of all channels, as their chunks were read.
use Rattle.std.specs.Prelude.{◌≡◌, ℕ, ◌<◌, true, List, length, slice_get, Some}
use Rattle.store_io.specs.Disk.{Only}
use Rattle.transactions_file.specs.Files.{is_live}
use Rattle.oid_table.specs.Table.{Table}
use Rattle.entity_index.specs.declared.row.Row.{Row}
use Rattle.channel.specs.Images.{Image, state_of}
use Rattle.recovery.specs.Images.{image_at}
use Rattle.disk_opening.specs.Indexes.{HasRowsOfIds, IsIndexAt}
use Rattle.disk_opening.specs.RowTables.{rows_at, rows_in}
use Rattle.store_opening.specs.Damage.{HaveChunksBelow}
use Rattle.store_opening.specs.Left.{Leaves, leaves_at}

-- each index is that of the image of its channel at the store m
abbrev pub AreIndexesAt : ℕ → List Image → List (Table Row) → Type 0
AreIndexesAt m images indexes = (j : ℕ) (index : Table Row) → slice_get indexes j ≡ Some index → IsIndexAt m (image_at images j) index.contents

-- each row of each index is one of an id
abbrev pub HaveRowsOfIds : List (Table Row) → Type 0
HaveRowsOfIds indexes = (j : ℕ) → HasRowsOfIds (rows_at (rows_in indexes) j)

-- the chunks of all channels are right up to the store m, and these are their indexes there
pub record AreIndexed (images : List Image) (indexes : List (Table Row)) (m next : ℕ) : Type 0 where
  pub right : HaveChunksBelow images m next (length images)
  pub indexes_are : AreIndexesAt m images indexes

-- a stop leaves each live file of this image as it is read
abbrev pub AreLiveFilesSynced : Image → Leaves → Type 0
AreLiveFilesSynced image leaves = (file : ℕ) → is_live (state_of image).files file ≡ true → Only (image file) (leaves file)

-- so it is with each disk below n
abbrev pub HaveLiveFilesSynced : ℕ → List Image → List Leaves → Type 0
HaveLiveFilesSynced n images leaves = (j : ℕ) → j < n → AreLiveFilesSynced (image_at images j) (leaves_at leaves j)
