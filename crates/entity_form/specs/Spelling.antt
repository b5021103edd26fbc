-- The bytes of an entity. An entity with its id is a pair.
use Rattle.std.specs.Prelude.{◌≡◌, ℕ, ◌+◌, ◌*◌, ◌<◌, ◌≤◌, ◌^◌, List, ◌∷◌, ◌++◌, length}
use Rattle.std.specs.List.{flat_map, AllByRecursion}
use Rattle.field_bytes.specs.Fields.{bytes_of}
use Rattle.graph_model.specs.Limits.{entity_limit}
use Rattle.graph_model.specs.Graph.{entity_size}
use Rattle.graph_model.specs.declared.entity.Entity.{Entity}
use Rattle.entity_form.specs.declared.places.Header.{Header}

-- what has a spelling: the ids are at least 1, all numbers fit their fields, and it has at most 1 MiB
pub record IsEntity (r : ℕ × Entity) : Type 0 where
  pub id : (1 ≤ r.0) × (r.0 < 2 ^ 64)
  pub type_id : (1 ≤ r.1.type_id) × (r.1.type_id < 2 ^ 64)
  pub refs : AllByRecursion (λ x. x < 2 ^ 64) r.1.refs
  pub plain : AllByRecursion (λ b. b < 256) r.1.plain
  pub size : entity_size r.1 ≤ entity_limit

-- its length, its type id, its id, the number of its references, and these
abbrev pub numbers_of : ℕ × Entity → List ℕ
numbers_of r = entity_size r.1 ∷ r.1.type_id ∷ r.0 ∷ length r.1.refs ∷ r.1.refs

-- numbers of eight bytes each, the lowest byte first
abbrev pub numbers_bytes : List ℕ → List ℕ
numbers_bytes numbers = flat_map (bytes_of 8) numbers

-- the numbers, and then the plain bytes
unfoldable pub entity_bytes : ℕ × Entity → List ℕ
entity_bytes r = numbers_bytes (numbers_of r) ++ r.1.plain

-- the numbers that an entity of so many bytes may begin with
abbrev pub IsHeaderOf : Header → ℕ → Type 0
IsHeaderOf h size = (h.length ≡ size) × (size ≤ entity_limit) × (1 ≤ h.type_id) × (1 ≤ h.id) × (32 + 8 * h.count ≤ size)
