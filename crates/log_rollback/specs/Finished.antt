-- What a log is once what a stop left unfinished in it was taken back.
use Rattle.std.specs.Prelude.{◌≡◌, ◌⊎◌, ℕ, ◌+◌, ◌<◌, ◌≤◌, true, IsTrue, List, slice_get, Some}
use Rattle.gated_log.specs.Log.{IsLogOf, payloads_of}
use Rattle.gated_log.specs.Reading.{IsReading}
use Rattle.store_io.specs.Disk.{OthersStay}
use Rattle.tx_entry.specs.declared.entry.Entry.{Entry}
use Rattle.tx_entry.specs.declared.entry.Entry.TheVariants.{Truncation}
use Rattle.transactions_file.specs.Inventory.{State, inventory_of, is_store_at}
use Rattle.transactions_file.specs.Transactions.{IsKept, Transactions}
use Rattle.channel.specs.Images.{Image, IsLogFile, log_header, state_of}
use Rattle.recovery.specs.Images.{image_at}
use Rattle.disk_opening.specs.declared.logs.ChannelLog.{ChannelLog}
use Rattle.store_opening.specs.Left.{Leaves, leaves_at}
use Rattle.store_opening.specs.TakenBack.{IsTakenBack, IsTruncated}

-- the log was read to its end from a file of these bytes
pub record IsReadFrom (l : ChannelLog) (file : List ℕ) : Type 0 where
  pub reading : IsReading l.opening file
  pub is_log : IsLogFile l.opening.header file
  pub inventory : inventory_of (payloads_of file) ≡ Some l.inventory.state

-- the entry is the Truncation of the last store, which is the last entry
pub record IsTruncationOf (s : State) (e : Entry) : Type 0 where
  pub file : ℕ
  pub at : ℕ
  pub entry : e ≡ Truncation file at s.last
  pub last : is_store_at s.entry file at s.last ≡ true

-- The file has the header, and these payloads, which give this inventory, where their last store is m; where it is the one behind, these with its
-- Truncation.
pub record IsFinished (header : List ℕ) (m : ℕ) (s : State) (payloads : List (List ℕ)) (file : List ℕ) : Type 0 where
  pub is_log : IsLogOf header (payloads_of file) file
  pub same : ((s.last ≡ m) × (payloads_of file ≡ payloads)) ⊎ ((s.last ≡ m + 1) × IsTruncated s payloads (payloads_of file))

-- a transactions log, in the file of transactions logs, with this header
pub record HasHeader (header : List ℕ) (t : Transactions) : Type 0 where
  pub file : t.log.file ≡ 0
  pub header_is : t.log.header ≡ header

-- the log is that of a file of these bytes, and m is its last store
pub record IsOpenAt (m : ℕ) (file : List ℕ) (t : Transactions) : Type 0 where
  pub kept : IsKept t file
  pub last : t.inventory.state.last ≡ m

-- the file is a log with this header, or too short to have one, and has the payloads of the old one
pub record HasSamePayloads (header old file : List ℕ) : Type 0 where
  pub is_log : IsLogFile header file
  pub same : payloads_of file ≡ payloads_of old

-- ALL CHANNELS

-- each of the logs has the header of its channel, of n
abbrev pub HaveHeaders : ℕ → List Transactions → Type 0
HaveHeaders n logs = (j : ℕ) (t : Transactions) → slice_get logs j ≡ Some t → HasHeader (log_header n j) t

-- each of the logs is that of its disk, and m is its last store
abbrev pub AreOpenAt : ℕ → List Image → List Transactions → Type 0
AreOpenAt m images logs = (j : ℕ) (t : Transactions) → slice_get logs j ≡ Some t → IsOpenAt m (image_at images j 0) t

-- below j the logs of the old images were finished
abbrev pub AreFinishedBelow : (n m j : ℕ) → (old new : List Image) → Type 0
AreFinishedBelow n m j old new = (i : ℕ) → i < j → IsFinished (log_header n i) m (state_of (image_at old i)) (payloads_of (image_at old i 0)) (image_at new i 0)

-- of each disk a stop leaves the log that was read, or this taken back to the store m
abbrev pub AreTakenBackOrNot : (n m : ℕ) → List Image → List Leaves → Type 0
AreTakenBackOrNot n m images leaves = (j : ℕ) → j < n → (bytes : List ℕ) → IsTrue (leaves_at leaves j 0 bytes)
    → IsTakenBack (log_header n j) m (state_of (image_at images j)) (payloads_of (image_at images j 0)) bytes

-- of each disk the other files are as they were
abbrev pub AllOthersStay : (file : ℕ) → (old new : List Image) → (old_leaves new_leaves : List Leaves) → Type 0
AllOthersStay file old new old_leaves new_leaves = (j : ℕ) → OthersStay file (image_at old j) (image_at new j) (leaves_at old_leaves j) (leaves_at new_leaves j)

-- the disks from j on are as they were
abbrev pub AreUntouchedFrom : {D : Type 0} → ℕ → (old new : List D) → Type 0
AreUntouchedFrom j old new = (i : ℕ) → j ≤ i → slice_get new i ≡ slice_get old i
