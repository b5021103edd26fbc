-- The table of an image at a number.
use Rattle.std.specs.Prelude.{◌≡◌, ℕ, ◌+◌, ◌==◌, nat_le, if◌then◌else◌, List, [], ◌∷◌, length, filter, unwrap_or, Option, Some, None}
use Rattle.std.specs.List.{flat_map}
use Rattle.std.specs.Option.{option_or}
use Rattle.field_bytes.specs.Fields.{number_at}
use Rattle.data_file.specs.Chunks.{entities_of}
use Rattle.channel_files.specs.Chunks.{Chunk, content_of}

-- an entity where it stands
pub record Occurrence : Type 0 where
  pub id : ℕ
  pub file : ℕ
  pub at : ℕ
  pub bytes : List ℕ

abbrev pub occurrence : ℕ → ℕ → List ℕ → Occurrence
occurrence file at bytes = record { id = unwrap_or (number_at 8 bytes 16) 0; file = file; at = at; bytes = bytes }

-- entities that stand one behind another, from this place on
abbrev pub occurrences_from : ℕ → ℕ → List (List ℕ) → List Occurrence
occurrences_from file at [] = []
occurrences_from file at (entity ∷ entities) = occurrence file at entity ∷ occurrences_from file (at + length entity) entities

abbrev pub occurrences_of : Chunk → List Occurrence
occurrences_of c = occurrences_from c.file c.at (entities_of c.bytes)

-- the last occurrence of an id
abbrev pub last_of : ℕ → List Occurrence → Option Occurrence
last_of id [] = None
last_of id (o ∷ os) = option_or (last_of id os) (if o.id == id then Some o else None)

-- the chunks of stores up to this number, and of all transfers
abbrev pub up_to : ℕ → List Chunk → List Chunk
up_to number chunks = filter (λ c. nat_le c.number number) chunks

-- each id has its last occurrence in the chunks up to this number
abbrev pub table_at : ℕ → List Chunk → ℕ → Option Occurrence
table_at number chunks id = last_of id (flat_map occurrences_of (up_to number chunks))

-- the table of an image at a number
abbrev pub table_of : (ℕ → List ℕ) → ℕ → ℕ → Option Occurrence
table_of image number id = table_at number (content_of image) id

-- a table once a chunk came last: its entities replace those of the same ids
abbrev pub with_chunk : Chunk → (ℕ → Option Occurrence) → ℕ → Option Occurrence
with_chunk c table id = option_or (last_of id (occurrences_of c)) (table id)

-- the same table
abbrev pub IsSameTable : (ℕ → Option Occurrence) → (ℕ → Option Occurrence) → Type 0
IsSameTable old new = (id : ℕ) → new id ≡ old id
