-- What the disks of all channels are once what a stop left unfinished was taken back, or some of it.
use Rattle.std.specs.Prelude.{◌≡◌, ◌⊎◌, ℕ, ◌+◌, ◌<◌, true, List, [], ◌∷◌, ◌++◌, length, Ok}
use Rattle.gated_log.specs.Log.{payloads_of}
use Rattle.tx_entry.specs.declared.entry.Entry.TheVariants.{Truncation}
use Rattle.tx_entry.specs.Entries.{entry_of, spelling}
use Rattle.transactions_file.specs.Files.{is_live}
use Rattle.transactions_file.specs.Inventory.{State, is_store_at}
use Rattle.channel.specs.Images.{Image, IsLogFile, log_header, state_of}
use Rattle.recovery.specs.Images.{image_at, types_header}

-- behind the payloads, which give this inventory, stands the Truncation of the store that is their last entry
pub record IsTruncated (s : State) (payloads more : List (List ℕ)) : Type 0 where
  pub file : ℕ
  pub at : ℕ
  pub dropped : ℕ
  pub last : is_store_at s.entry file at dropped ≡ true
  pub again : entry_of (spelling (Truncation file at dropped)) ≡ Ok (Truncation file at dropped)
  pub split : more ≡ payloads ++ spelling (Truncation file at dropped) ∷ []

-- the file is a log of these payloads or, where their last store is the one behind m, of these with its Truncation
pub record IsTakenBack (header : List ℕ) (m : ℕ) (s : State) (payloads : List (List ℕ)) (file : List ℕ) : Type 0 where
  pub is_log : IsLogFile header file
  pub same : (payloads_of file ≡ payloads) ⊎ ((s.last ≡ m + 1) × IsTruncated s payloads (payloads_of file))

-- of channel j of n: its log is taken back to the store m, or not yet, and its live files are as they were
pub record IsAfter (n j m : ℕ) (old new : Image) : Type 0 where
  pub log : IsTakenBack (log_header n j) m (state_of old) (payloads_of (old 0)) (new 0)
  pub files : (f : ℕ) → is_live (state_of old).files f ≡ true → new f ≡ old f

-- so it is with each channel; and the dictionary has the records that it had
pub record AreAfter (m : ℕ) (old new : List Image) : Type 0 where
  pub many : length new ≡ length old
  pub each : (j : ℕ) → j < length old → IsAfter (length old) j m (image_at old j) (image_at new j)
  pub types_file : IsLogFile (types_header (length old)) (image_at new 0 1)
  pub types : payloads_of (image_at new 0 1) ≡ payloads_of (image_at old 0 1)
