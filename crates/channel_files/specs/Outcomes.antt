-- What the calls that write give. `tells`, `reads` and `leaves` are the disk's.
use Rattle.std.specs.Prelude.{◌≡◌, ◌⊎◌, ℕ, ◌+◌, ◌-◌, Bool, IsTrue, List, [], ◌∷◌, ◌++◌, length, take, Option, None, Result, IsErr, IsErrOf, IfOk, IfErr, IfSome, OnOk}
use Rattle.store_io.specs.Disk.{Only, OthersStay}
use Rattle.store_io.specs.Whole.{EachImage}
use Rattle.gated_log.specs.State.{LogState}
use Rattle.gated_log.specs.Log.{payloads_of, IsLogOf, IsBeforeOrAfter, Each}
use Rattle.tx_entry.specs.declared.entry.Entry.TheVariants.{Store}
use Rattle.transactions_file.specs.Inventory.{after}
use Rattle.channel_files.specs.declared.fault.FilesFault.{FilesFault}
use Rattle.channel_files.specs.declared.fault.FilesFault.TheVariants.{Fault, Full}
use Rattle.channel_files.specs.declared.place.Place.{Place}
use Rattle.channel_files.specs.Chunks.{content_of}
use Rattle.channel_files.specs.Table.{Occurrence, table_of, with_chunk, IsSameTable}
use Rattle.channel_files.specs.Channel.{Channel, IsOfDisk}
use Rattle.channel_files.specs.Images.{EachAsRead}
use Rattle.channel_files.specs.Shows.{Shows, newest_of, HasTables, HasTable, HasStored}
use Rattle.channel_files.specs.Heads.{with_new_head, with_head, heads_made, place_of, chunk_of, full_record, full_at_first, full_behind_creation}
use Rattle.channel_files.specs.Stores.{drops_to}
use Rattle.channel_files.specs.Faults.{IsFaultOrFull, UnlessFault}

-- the place of a chunk of this length in the next store
abbrev pub next_place : {D : Type 0} → Channel D → ℕ → Place
next_place old len = place_of (with_head old.transactions.inventory.state old.sizes.maximum len) len

-- each image agrees with what is read
abbrev pub AgreesWithImages : {D : Type 0} → (D → ℕ → List ℕ) → (D → ℕ → List ℕ → Bool) → Channel D → Type 0
AgreesWithImages reads leaves c = EachAsRead c.transactions (reads c.disk) (leaves c.disk)

-- the table of what is read, at the last store's number
abbrev pub table_read : {D : Type 0} → (D → ℕ → List ℕ) → Channel D → ℕ → Option Occurrence
table_read reads c = table_of (reads c.disk) c.transactions.inventory.state.last

-- a store was asked for, with this answer
pub record IsStored {D : Type 0} (tells : Bool) (reads : D → ℕ → List ℕ) (leaves : D → ℕ → List ℕ → Bool) (old new : Channel D) (number : ℕ) (chunk : List ℕ) (next_id : ℕ) (result : Result Place FilesFault) : Type 0 where
  -- at `Ok` the store's entry is the inventory's last one, and its chunk the last one of what is read
  pub place : IfOk result (λ p. p ≡ next_place old (length chunk))
  pub state : IfOk result (λ p. new.transactions.inventory.state ≡ after (with_head old.transactions.inventory.state old.sizes.maximum (length chunk)) (Store number p.file p.at (length chunk) next_id))
  pub room : OnOk result (new.transactions.inventory.spare + heads_made old.transactions.inventory.state old.sizes.maximum (length chunk) ≡ old.transactions.inventory.spare)
  pub content : IsTrue tells → IfOk result (λ p. content_of (reads new.disk) ≡ content_of (reads old.disk) ++ chunk_of number p chunk ∷ [])
  -- at its number each id then has its last occurrence, the new chunk included; at the number before the table is as it was
  pub table : IsTrue tells → IfOk result (λ p. IsSameTable (with_chunk (chunk_of number p chunk) (table_read reads old)) (table_of (reads new.disk) number))
  pub table_before : IsTrue tells → OnOk result (IsSameTable (table_read reads old) (table_of (reads new.disk) (number - 1)))
  -- and so it is in each image
  pub durable : IsTrue tells → AgreesWithImages reads leaves old
      → IfOk result (λ p. EachImage (leaves new.disk) (HasStored number (table_read reads old) (with_chunk (chunk_of number p chunk) (table_read reads old))))
  -- whatever was answered, each image has the chunks of before, or these and the new one
  pub shows : IsTrue tells → AgreesWithImages reads leaves old
      → EachImage (leaves new.disk) (λ image. Shows old.transactions.log.header old.transactions.inventory.state.last old.transactions.inventory.state.next_id 0 0 (content_of (reads old.disk)) image
      ⊎ Shows old.transactions.log.header number next_id number old.transactions.inventory.state.next_id (content_of (reads old.disk) ++ chunk_of number (next_place old (length chunk)) chunk ∷ []) image)
  -- and its table is the old or the new one, its last number with it
  pub tables : IsTrue tells → AgreesWithImages reads leaves old
      → EachImage (leaves new.disk) (λ image. HasTables old.transactions.inventory.state.last (table_of (reads old.disk)) image
      ⊎ HasStored number (table_read reads old) (with_chunk (chunk_of number (next_place old (length chunk)) chunk) (table_read reads old)) image)
  -- `Full` before anything is written
  pub full : IfSome (full_at_first old.transactions.inventory.state old.transactions.log.length old.sizes.maximum number (length chunk)) (λ n. IsErrOf result (Full n) × (new ≡ old))
  -- `Full` behind a Creation, which stays
  pub full_behind : full_at_first old.transactions.inventory.state old.transactions.log.length old.sizes.maximum number (length chunk) ≡ None
      → IfSome (full_behind_creation old.transactions.inventory.state old.transactions.log.length old.sizes.maximum (length chunk))
      (λ n. IsErr result × IfErr result (IsFaultOrFull (λ m. (m ≡ n) × (new.transactions.inventory.state ≡ with_new_head old.transactions.inventory.state))))
  -- and in no other case
  pub not_full : full_at_first old.transactions.inventory.state old.transactions.log.length old.sizes.maximum number (length chunk) ≡ None
      → full_behind_creation old.transactions.inventory.state old.transactions.log.length old.sizes.maximum (length chunk) ≡ None → IfErr result (λ e. e ≡ Fault)
  pub content_kept : IsTrue tells → IfErr result (IsFaultOrFull (λ n. content_of (reads new.disk) ≡ content_of (reads old.disk)))
  -- after each answer but `Fault` the files may be used on
  pub of_disk : IsTrue tells → UnlessFault result (IsOfDisk new.transactions (reads new.disk))
  pub as_read : IsTrue tells → AgreesWithImages reads leaves old → UnlessFault result (AgreesWithImages reads leaves new)

-- the last store was to be dropped, with this answer
pub record IsDropped {D A : Type 0} (tells : Bool) (reads : D → ℕ → List ℕ) (leaves : D → ℕ → List ℕ → Bool) (old new : Channel D) (result : Result A FilesFault) : Type 0 where
  pub state : OnOk result (new.transactions.inventory.state ≡ drops_to old.transactions.inventory.state)
  pub number : IsTrue tells → old.transactions.inventory.state.last ≡ old.transactions.inventory.state.last_before + 1
  pub content : IsTrue tells → OnOk result (content_of (reads new.disk) ≡ take (length (content_of (reads old.disk)) - 1) (content_of (reads old.disk)))
  -- the table is that of the store before, in what is read and in each image
  pub table : IsTrue tells → OnOk result (IsSameTable (table_of (reads old.disk) old.transactions.inventory.state.last_before) (table_of (reads new.disk) old.transactions.inventory.state.last_before))
  pub durable : IsTrue tells → AgreesWithImages reads leaves old
      → OnOk result (EachImage (leaves new.disk) (HasTable old.transactions.inventory.state.last_before (table_of (reads old.disk) old.transactions.inventory.state.last_before)))
  -- whatever was answered, each image has the chunks of before, or these without the last store
  pub shows : IsTrue tells → AgreesWithImages reads leaves old
      → EachImage (leaves new.disk) (λ image. Shows old.transactions.log.header old.transactions.inventory.state.last old.transactions.inventory.state.next_id (newest_of old.transactions.inventory.state.entry) old.transactions.inventory.state.next_id_before (content_of (reads old.disk)) image
      ⊎ Shows old.transactions.log.header old.transactions.inventory.state.last_before old.transactions.inventory.state.next_id_before 0 0 (take (length (content_of (reads old.disk)) - 1) (content_of (reads old.disk))) image)
  -- and the table with or without it
  pub tables : IsTrue tells → AgreesWithImages reads leaves old
      → EachImage (leaves new.disk) (λ image. HasTables old.transactions.inventory.state.last (table_of (reads old.disk)) image
      ⊎ HasTable old.transactions.inventory.state.last_before (table_of (reads old.disk) old.transactions.inventory.state.last_before) image)
  pub full : IfSome (full_record old.transactions.log.length) (λ n. IsErrOf result (Full n) × (new ≡ old))
  pub not_full : full_record old.transactions.log.length ≡ None → IfErr result (λ e. e ≡ Fault)
  pub of_disk : IsTrue tells → OnOk result (IsOfDisk new.transactions (reads new.disk))
  pub as_read : IsTrue tells → AgreesWithImages reads leaves old → OnOk result (AgreesWithImages reads leaves new)

-- a payload was to be appended to the log of file 1, with this answer
pub record IsAppended {D A : Type 0} (tells : Bool) (reads : D → ℕ → List ℕ) (leaves : D → ℕ → List ℕ → Bool) (old new : D) (log : LogState) (text : List ℕ) (result : Result A FilesFault) : Type 0 where
  pub added : IsTrue tells → OnOk result (payloads_of (reads new 1) ≡ payloads_of (reads old 1) ++ text ∷ [])
  pub synced : IsTrue tells → OnOk result (Only (reads new 1) (leaves new 1))
  -- whatever was answered, each image has the payloads of before, or these and the new one
  pub stop : IsTrue tells → Each (leaves old 1) (IsLogOf log.header (payloads_of (reads old 1))) → Each (leaves new 1) (IsBeforeOrAfter log.header (payloads_of (reads old 1)) text)
  pub others : IsTrue tells → OthersStay 1 (reads old) (reads new) (leaves old) (leaves new)
  pub full : IfSome (full_record log.length) (λ n. IsErrOf result (Full n) × (new ≡ old))
  pub not_full : full_record log.length ≡ None → IfErr result (λ e. e ≡ Fault)

-- what the channel has on the disk stays
pub record Stays {D : Type 0} (tells : Bool) (reads : D → ℕ → List ℕ) (leaves : D → ℕ → List ℕ → Bool) (old new : Channel D) : Type 0 where
  pub transactions : new.transactions ≡ old.transactions
  pub sizes : new.sizes ≡ old.sizes
  pub confirmed : new.confirmed ≡ old.confirmed
  pub of_disk : IsTrue tells → IsOfDisk new.transactions (reads new.disk)
  pub content : IsTrue tells → content_of (reads new.disk) ≡ content_of (reads old.disk)
  pub table : IsTrue tells → (number : ℕ) → IsSameTable (table_of (reads old.disk) number) (table_of (reads new.disk) number)
  pub as_read : IsTrue tells → AgreesWithImages reads leaves old → AgreesWithImages reads leaves new
  pub tables : IsTrue tells → AgreesWithImages reads leaves old → EachImage (leaves new.disk) (HasTables old.transactions.inventory.state.last (table_of (reads old.disk)))

-- what a file reads, and what a stop may leave of it, stay
pub record FileStays (file : ℕ) (old_reads new_reads : ℕ → List ℕ) (old_leaves new_leaves : ℕ → List ℕ → Bool) : Type 0 where
  pub reads : new_reads file ≡ old_reads file
  pub leaves : new_leaves file ≡ old_leaves file
