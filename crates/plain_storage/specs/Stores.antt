-- The plain log: whole stores, one payload each. Each has its number, its next id, and its entities by rising id.
use Rattle.std.specs.Prelude.{◌≡◌, ℕ, ◌+◌, ◌≤◌, ◌<◌, ◌^◌, true, List, [], ◌∷◌, ◌++◌, length}
use Rattle.std.specs.List.{flat_map, AllByRecursion}
use Rattle.graph_model.specs.declared.entity.Record.{Record}
use Rattle.graph_model.specs.declared.entity.StoreOp.{StoreOp}
use Rattle.graph_model.specs.Graph.{ids}
use Rattle.graph_model.specs.Ids.{rises}
use Rattle.graph_model.specs.Stores.{is_good_id}
use Rattle.entity_form.specs.Spelling.{IsEntity, numbers_bytes, entity_bytes}
use Rattle.plain_storage.specs.Logs.{IsLogFile}

-- what a file with the plain log of a session begins with: ESP1, version 2
abbrev pub plain_header : List ℕ
plain_header = 69 ∷ 83 ∷ 80 ∷ 49 ∷ 2 ∷ 0 ∷ 1 ∷ 0 ∷ []

-- the bytes of a record
abbrev pub record_bytes : Record → List ℕ
record_bytes r = entity_bytes (r.id, r.entity)

-- a store as the log has it: its number, its next id, and its entities
abbrev pub payload_of : ℕ → StoreOp → List ℕ
payload_of number op = numbers_bytes (number ∷ op.next_id ∷ []) ++ flat_map record_bytes op.records

-- the payloads of stores, of which the first has this number
abbrev pub payloads_of_stores : ℕ → List StoreOp → List (List ℕ)
payloads_of_stores number [] = []
payloads_of_stores number (op ∷ ops) = payload_of number op ∷ payloads_of_stores (number + 1) ops

-- what has a spelling, with the id 1 or one from 1024 to below the next id
abbrev pub IsObject : ℕ → Record → Type 0
IsObject next_id r = IsEntity (r.id, r.entity) × (is_good_id next_id r.id ≡ true)

-- a store that may follow one with the next id `before`: one or more objects by rising id
pub record MayFollow (before : ℕ) (op : StoreOp) : Type 0 where
  pub some : 0 < length op.records
  pub order : rises (ids op.records) ≡ true
  pub objects : AllByRecursion (IsObject op.next_id) op.records
  pub no_less : before ≤ op.next_id
  pub most : op.next_id ≤ 2 ^ 48

-- each store may follow the one before
abbrev pub AllMayFollow : ℕ → List StoreOp → Type 0
AllMayFollow before [] = Unit {0}
AllMayFollow before (op ∷ ops) = MayFollow before op × AllMayFollow op.next_id ops

-- the image is the log of these stores, of which each may follow the one before
pub record HoldsStores (image : List ℕ) (stores : List StoreOp) : Type 0 where
  pub follow : AllMayFollow 1024 stores
  pub log : IsLogFile plain_header (payloads_of_stores 1 stores) image
