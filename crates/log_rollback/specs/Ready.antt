-- What a channel is made with, once its log was taken back.
use Rattle.std.specs.Prelude.{◌≡◌, ℕ, ◌≤◌}
use Rattle.store_io.specs.Disk.{Only}
use Rattle.gated_log.specs.Log.{payloads_of}
use Rattle.transactions_file.specs.Transactions.{Transactions}
use Rattle.channel_files.specs.Channel.{IsOfDisk}
use Rattle.channel_files.specs.Chunks.{content_of}
use Rattle.channel_files.specs.Images.{EachAsRead}
use Rattle.channel_files.specs.Whole.{HasWholeChunks}
use Rattle.channel.specs.ChunkRule.{AreRightTo, HasRightChunks}
use Rattle.channel.specs.Images.{HasLog, Image, log_header, state_of}
use Rattle.store_opening.specs.IndexesRead.{AreLiveFilesSynced}
use Rattle.store_opening.specs.Left.{Leaves}
use Rattle.log_rollback.specs.Finished.{HasHeader, IsFinished, IsOpenAt}

-- the disk of channel j of n, which read as the old image, now reads as the new one
pub record IsRolledBack (n j next m : ℕ) (old new : Image) (leaves : Leaves) (t : Transactions) : Type 0 where
  -- what was found when it was read
  pub has : HasLog n j old
  pub chunks : HasRightChunks n j next m old
  pub files_synced : AreLiveFilesSynced old leaves
  -- its log was taken back to the store m, and is synced and open; the data files are as they were
  pub finished : IsFinished (log_header n j) m (state_of old) (payloads_of (old 0)) (new 0)
  pub synced : Only (new 0) (leaves 0)
  pub files : (f : ℕ) → 2 ≤ f → new f ≡ old f
  pub header : HasHeader (log_header n j) t
  pub open_ : IsOpenAt m (new 0) t

-- the log is that of the disk, m is its last store, its chunks are whole and keep their rule, and a stop leaves what is read
pub record IsReadyToStart (n j next m : ℕ) (reads : Image) (leaves : Leaves) (t : Transactions) : Type 0 where
  pub header : t.log.header ≡ log_header n j
  pub last : t.inventory.state.last ≡ m
  pub of_disk : IsOfDisk t reads
  pub whole : HasWholeChunks reads
  pub right : AreRightTo n j next m (content_of reads)
  pub as_read : EachAsRead t reads leaves
