-- Where each image agrees with what is read.
use Rattle.std.specs.Prelude.{◌≡◌, ℕ, ◌≤◌, Bool, List, [], ◌∷◌, ◌++◌, length, take, map}
use Rattle.store_io.specs.Whole.{EachImage}
use Rattle.gated_log.specs.Log.{IsLogOf, payloads_of}
use Rattle.tx_entry.specs.declared.entry.Entry.{Entry}
use Rattle.tx_entry.specs.Entries.{spelling}
use Rattle.transactions_file.specs.Files.{length_in}
use Rattle.transactions_file.specs.Inventory.{files_after}
use Rattle.transactions_file.specs.Transactions.{Transactions}
use Rattle.channel_files.specs.Chunks.{Chunk, chunk_at, chunks_in, content_of, ranges_of, ranges_after}

-- below these lengths the image has the base's bytes
pub record AgreesBelow (files : List (ℕ × ℕ)) (base image : ℕ → List ℕ) : Type 0 where
  pub long : (f : ℕ) → length_in files f ≤ length (image f)
  pub same : (f : ℕ) → take (length_in files f) (image f) ≡ take (length_in files f) (base f)

-- the log that is read, and below the inventory's lengths the bytes that are read
pub record IsAsRead (t : Transactions) (reads image : ℕ → List ℕ) : Type 0 where
  pub is_log : IsLogOf t.log.header (payloads_of (reads 0)) (image 0)
  pub agrees : AgreesBelow t.inventory.state.files reads image

abbrev pub EachAsRead : Transactions → (ℕ → List ℕ) → (ℕ → List ℕ → Bool) → Type 0
EachAsRead t reads leaves = EachImage leaves (IsAsRead t reads)

-- the chunks once this entry is appended
abbrev pub content_after : (ℕ → List ℕ) → Entry → List Chunk
content_after reads e = map (chunk_at reads) (ranges_after (ranges_of (payloads_of (reads 0))) e)

-- the log has these payloads, their chunks are these, and each live file is at least as long as the inventory says
pub record IsHeld (header : List ℕ) (payloads : List (List ℕ)) (files : List (ℕ × ℕ)) (chunks : List Chunk) (image : ℕ → List ℕ) : Type 0 where
  pub is_log : IsLogOf header payloads (image 0)
  pub content : chunks_in image payloads ≡ chunks
  pub long : (f : ℕ) → length_in files f ≤ length (image f)

-- the image has the log and the chunks that are read
abbrev pub HoldsRead : Transactions → (ℕ → List ℕ) → (ℕ → List ℕ) → Type 0
HoldsRead t reads image = IsHeld t.log.header (payloads_of (reads 0)) t.inventory.state.files (content_of reads) image

-- the image has these with one more entry
abbrev pub HoldsAfter : Transactions → (ℕ → List ℕ) → Entry → (ℕ → List ℕ) → Type 0
HoldsAfter t reads e image =
    IsHeld t.log.header (payloads_of (reads 0) ++ spelling e ∷ []) (files_after t.inventory.state e) (content_after reads e) image
