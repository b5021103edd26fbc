-- The entity that bytes spell, and the header that an entity is spelled with.
use Rattle.std.specs.Prelude.{◌≡◌, ℕ, zero, suc, ◌+◌, ◌*◌, List, [], ◌∷◌, length, drop}
use Rattle.std.specs.List.{flat_map}
use Rattle.byteorder.specs.Endian.{little_number}
use Rattle.graph_model.specs.Graph.{entity_size}
use Rattle.graph_model.specs.declared.entity.Entity.{Entity}
use Rattle.graph_model.specs.declared.entity.Record.{Record}
use Rattle.entity_form.specs.declared.places.Header.{Header}
use Rattle.entity_form.specs.Spelling.{IsEntity, entity_bytes}
use Rattle.channel_files.specs.Whole.{header_of}

-- so many numbers of eight bytes each, the lowest byte first
abbrev pub numbers_in : ℕ → List ℕ → List ℕ
numbers_in zero bytes = []
numbers_in (suc n) bytes = little_number 8 bytes ∷ numbers_in n (drop 8 bytes)

-- the entity that the bytes spell: as many references as the header says, and then the plain bytes
abbrev pub entity_in : List ℕ → Entity
entity_in bytes = record {
  type_id = (header_of bytes).type_id;
  refs = numbers_in (header_of bytes).count (drop 32 bytes);
  plain = drop (32 + 8 * (header_of bytes).count) bytes;
}

-- the numbers that a record's bytes begin with
abbrev pub header_for : Record → Header
header_for r = record { length = entity_size r.entity; type_id = r.entity.type_id; id = r.id; count = length r.entity.refs }

-- the bytes of records, one after another
abbrev pub chunk_for : List Record → List ℕ
chunk_for records = flat_map (λ (r : Record). entity_bytes (r.id, r.entity)) records

-- this is an entity that has a spelling under this id, and the bytes are that
pub record AreBytesOf (id : ℕ) (e : Entity) (bytes : List ℕ) : Type 0 where
  pub entity : IsEntity (id, e)
  pub spelled : bytes ≡ entity_bytes (id, e)

-- the bytes spell an entity of this id
abbrev pub IsSpelling : ℕ → List ℕ → Type 0
IsSpelling id bytes = (e : Entity) × AreBytesOf id e bytes
