-- The records that a part of a store has, by their headers and bytes.
use Rattle.std.specs.Prelude.{◌≡◌, ◌≤◌, ℕ, true, List, [], ◌∷◌, length, take, drop, map}
use Rattle.std.specs.List.{AllByRecursion}
use Rattle.graph_model.specs.Limits.{entity_limit, store_limit}
use Rattle.graph_model.specs.Ids.{rises}
use Rattle.graph_model.specs.Graph.{entity_size, ids}
use Rattle.graph_model.specs.declared.entity.Record.{Record}
use Rattle.entity_form.specs.declared.places.Header.{Header}
use Rattle.entity_form.specs.Spelling.{IsEntity}
use Rattle.channel.specs.Entities.{entity_in, header_for, chunk_for}
use Rattle.channel.specs.declared.part.Slot.{Slot}

-- what has a spelling as one of a store's entities
pub record IsStorable (r : Record) : Type 0 where
  pub some_id : 1 ≤ r.id
  pub some_type : 1 ≤ r.entity.type_id
  pub most : entity_size r.entity ≤ entity_limit

-- the records whose bytes stand one after another, as long as their headers say
abbrev pub records_in : List Header → List ℕ → List Record
records_in [] bytes = []
records_in (h ∷ headers) bytes = record { id = h.id; entity = entity_in (take h.length bytes) } ∷ records_in headers (drop h.length bytes)

abbrev pub headers_in : List Slot → List Header
headers_in slots = map (λ (s : Slot). s.header) slots

abbrev pub IsRightRecord : Record → Type 0
IsRightRecord r = IsEntity (r.id, r.entity)

-- records that may be a part of a store: by rising id, each an entity, of at most 16 MiB together
pub record IsPart (records : List Record) : Type 0 where
  pub ordered : rises (ids records) ≡ true
  pub entities : AllByRecursion IsRightRecord records
  pub most : length (chunk_for records) ≤ store_limit

-- headers and bytes of a part
pub record IsSpelled (headers : List Header) (bytes : List ℕ) (records : List Record) : Type 0 where
  pub part : IsPart records
  pub headers_are : headers ≡ map header_for records
  pub bytes_are : bytes ≡ chunk_for records
