-- Chunks of whole entities, and the header that an entity begins with.
use Rattle.std.specs.Prelude.{ℕ, List, All, unwrap_or}
use Rattle.field_bytes.specs.Fields.{number_at}
use Rattle.entity_form.specs.declared.places.Header.{Header}
use Rattle.data_file.specs.Chunks.{IsChunk}
use Rattle.channel_files.specs.Chunks.{Chunk, content_of}

-- each of the chunks is whole entities one after another
abbrev pub AreWhole : List Chunk → Type 0
AreWhole chunks = All (λ (c : Chunk). IsChunk c.bytes) chunks

-- so is each chunk of an image
abbrev pub HasWholeChunks : (ℕ → List ℕ) → Type 0
HasWholeChunks image = AreWhole (content_of image)

-- the four numbers that the bytes begin with; 0 for one that does not end within them
abbrev pub header_of : List ℕ → Header
header_of bytes = record {
  length = unwrap_or (number_at 8 bytes 0) 0;
  type_id = unwrap_or (number_at 8 bytes 8) 0;
  id = unwrap_or (number_at 8 bytes 16) 0;
  count = unwrap_or (number_at 8 bytes 24) 0;
}
