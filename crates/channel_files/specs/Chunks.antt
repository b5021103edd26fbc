-- The chunks of a channel, in the order of its log.
use Rattle.std.specs.Prelude.{ℕ, ◌-◌, ◌==◌, not, Bool, List, [], ◌∷◌, ◌++◌, length, take, drop, map, filter, Result, Ok, Err}
use Rattle.std.specs.List.{fold}
use Rattle.gated_log.specs.Log.{payloads_of}
use Rattle.tx_entry.specs.declared.entry.Entry.{Entry}
use Rattle.tx_entry.specs.declared.entry.Entry.TheVariants.{Creation, Store, Transfer, Truncation, Deletion}
use Rattle.tx_entry.specs.declared.entry.BadEntry.{BadEntry}
use Rattle.tx_entry.specs.Entries.{entry_of}

-- where a chunk stands, and the number of its store; 0 for a chunk that was transferred
pub record Range : Type 0 where
  pub number : ℕ
  pub file : ℕ
  pub at : ℕ
  pub length : ℕ

-- a chunk and its bytes
pub record Chunk : Type 0 where
  pub number : ℕ
  pub file : ℕ
  pub at : ℕ
  pub bytes : List ℕ

abbrev pub stands_elsewhere : ℕ → Range → Bool
stands_elsewhere file r = not (r.file == file)

-- An entry's chunk comes last; a Truncation takes the last one back, a Deletion those of its file.
abbrev pub ranges_after : List Range → Entry → List Range
ranges_after ranges (Creation file) = ranges
ranges_after ranges (Store number file at len next_id) = ranges ++ (record { number = number; file = file; at = at; length = len }) ∷ []
ranges_after ranges (Transfer source file at len) = ranges ++ (record { number = 0; file = file; at = at; length = len }) ∷ []
ranges_after ranges (Truncation file new_length dropped) = take (length ranges - 1) ranges
ranges_after ranges (Deletion file) = filter (stands_elsewhere file) ranges

abbrev pub ranges_with : List Range → Result Entry BadEntry → List Range
ranges_with ranges (Ok e) = ranges_after ranges e
ranges_with ranges (Err bad) = ranges

abbrev pub ranges_step : List Range → List ℕ → List Range
ranges_step ranges payload = ranges_with ranges (entry_of payload)

-- the chunks of the stores that are not dropped and of all transfers, those in live files, in the order of the log
abbrev pub ranges_of : List (List ℕ) → List Range
ranges_of payloads = fold ranges_step [] payloads

abbrev pub chunk_at : (ℕ → List ℕ) → Range → Chunk
chunk_at image r = record { number = r.number; file = r.file; at = r.at; bytes = take r.length (drop r.at (image r.file)) }

-- the chunks of a log of these payloads, as they stand in the image
abbrev pub chunks_in : (ℕ → List ℕ) → List (List ℕ) → List Chunk
chunks_in image payloads = map (chunk_at image) (ranges_of payloads)

-- the chunks of an image, whose log is its file 0
abbrev pub content_of : (ℕ → List ℕ) → List Chunk
content_of image = chunks_in image (payloads_of (image 0))
