-- What a plain storage keeps in memory, beside its disk and beside the storage that it is.
use Rattle.std.specs.Prelude.{◌≡◌, ◌⊎◌, ◌≤◌, ◌<◌, ◌^◌, ℕ, ◌+◌, true, Some, List, [], ◌∷◌, ◌++◌, length}
use Rattle.std.specs.List.{AllByRecursion}
use Rattle.graph_model.specs.Graph.{Graph, entity_of, entity_size, ids, lists, put_all}
use Rattle.graph_model.specs.Ids.{rises}
use Rattle.graph_model.specs.Served.{Storage}
use Rattle.graph_model.specs.Stores.{is_good_id, is_valid_store, total_size}
use Rattle.graph_model.specs.declared.ask.Ask.{Ask}
use Rattle.graph_model.specs.declared.ask.Ask.TheVariants as asks
use Rattle.graph_model.specs.declared.entity.Entity.{Entity}
use Rattle.graph_model.specs.declared.entity.StoreOp.{StoreOp}
use Rattle.gated_log.specs.State.{LogState}
use Rattle.type_desc.specs.declared.desc.TypeDesc.{TypeDesc}
use Rattle.type_dictionary.specs.Records.{IsNextRecord, IsRecorded}
use Rattle.plain_storage.specs.Held.{IsPlainStored, IsSoundGraph, PlainHeld}
use Rattle.plain_storage.specs.Logs.{IsOpen, IsOverLimit}
use Rattle.plain_storage.specs.Stores.{plain_header}
use Rattle.plain_storage.specs.Types.{types_header}

-- the graph, the held ids, the next id of the last store, and both logs
pub record Plain : Type 0 where
  pub graph : Graph
  pub held : List ℕ
  pub next_id : ℕ
  pub stores_log : LogState
  pub types_log : LogState

-- the storage that it is, with these type records
abbrev pub storage_of : Plain → List (List ℕ) → Storage
storage_of p types = record { graph = p.graph; held = p.held; number = p.stores_log.count; next_id = p.next_id; types = types }

-- what it holds with these types
abbrev pub held_in : Plain → List TypeDesc → PlainHeld
held_in p types = record { types = types; graph = p.graph; number = p.stores_log.count; next_id = p.next_id }

-- both logs are open on a disk that reads so
pub record AreOpen (p : Plain) (reads : ℕ → List ℕ) : Type 0 where
  pub stores : IsOpen 0 plain_header p.stores_log (reads 0)
  pub types : IsOpen 1 types_header p.types_log (reads 1)

-- and the disk holds what is in memory, with these types
pub record Keeps (p : Plain) (types : List TypeDesc) (reads : ℕ → List ℕ) : Type 0 where
  pub are_open : AreOpen p reads
  pub stored : IsPlainStored (reads 0) (reads 1) (held_in p types)

-- ---- where it begins

-- nothing is held, and types, ids, forms and sizes are right
pub record IsStart (p : Plain) (types : List TypeDesc) : Type 0 where
  pub none_held : p.held ≡ []
  pub few : length types ≤ 65536
  pub recorded : AllByRecursion IsRecorded types
  pub low : 1024 ≤ p.next_id
  pub high : p.next_id ≤ 2 ^ 48
  pub order : rises (ids p.graph) ≡ true
  pub good_ids : (x : ℕ) → lists p.graph x ≡ true → is_good_id p.next_id x ≡ true
  pub sizes : (x : ℕ) (entity : Entity) → entity_of p.graph x ≡ Some entity → entity_size entity ≤ 1048576
  pub sound : IsSoundGraph types p.graph

-- ---- what it is asked

-- a store that may be made, and that is one payload
pub record MayKeep (p : Plain) (op : StoreOp) : Type 0 where
  pub some : 0 < length op.records
  pub valid : is_valid_store p.graph p.held p.next_id op ≡ true
  pub fits : total_size op.records ≤ 1048560

-- when an ask may be asked
abbrev pub MayServe : Plain → Ask → Type 0
MayServe p (asks.Look x) = lists p.graph x ≡ true
MayServe p (asks.Store op) = MayKeep p op
MayServe p (asks.KeepType bytes) = (1 ≤ length bytes) × (length bytes ≤ 1048576)
MayServe p (asks.Hold xs) = Unit {0}
MayServe p (asks.Release xs) = Unit {0}
MayServe p asks.Collect = Unit {0}
MayServe p asks.Tidy = Unit {0}

-- the type records behind an ask
abbrev pub types_with : Ask → List (List ℕ) → List (List ℕ)
types_with (asks.KeepType bytes) types = types ++ bytes ∷ []
types_with _ types = types

-- the store leaves a sound graph, and the next store has the next number
pub record IsWithStore (op : StoreOp) (held next : PlainHeld) : Type 0 where
  pub sound : IsSoundGraph held.types (put_all op.records held.graph)
  pub next_is : next ≡ record held { graph = put_all op.records held.graph; number = held.number + 1; next_id = op.next_id }

-- the bytes are the record of one more type
pub record IsWithType (bytes : List ℕ) (held next : PlainHeld) : Type 0 where
  pub desc : TypeDesc
  pub record_ : IsNextRecord held.types bytes desc
  pub next_is : next ≡ record held { types = held.types ++ desc ∷ [] }

-- what is held once the ask is served
abbrev pub IsNext : Ask → PlainHeld → PlainHeld → Type 0
IsNext (asks.Store op) held next = IsWithStore op held next
IsNext (asks.KeepType bytes) held next = IsWithType bytes held next
IsNext _ held next = next ≡ held

-- the images hold what was there before, or what is there behind
abbrev pub HoldsEither : PlainHeld → PlainHeld → List ℕ → List ℕ → Type 0
HoldsEither held next image0 image1 = IsPlainStored image0 image1 held ⊎ IsPlainStored image0 image1 next

-- what is asked is to be kept in a log that is over its limit: a store in file 0, a type in file 1
abbrev pub IsOverFull : Ask → (ℕ → List ℕ) → Type 0
IsOverFull (asks.Store op) reads = IsOverLimit (reads 0)
IsOverFull (asks.KeepType bytes) reads = IsOverLimit (reads 1)
IsOverFull _ reads = ⊥
