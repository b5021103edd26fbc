-- What a session keeps, beside the storage that it asks and the model's state.
use Rattle.std.specs.Prelude.{◌≡◌, ◌≤◌, ◌<◌, ℕ, ◌+◌, Bool, true, false, List, length}
use Rattle.graph_model.specs.Graph.{lists}
use Rattle.graph_model.specs.Served.{Storage, SameIds}
use Rattle.type_desc.specs.Grammar.{record_text}
use Rattle.type_desc.specs.declared.desc.TypeDesc.{TypeDesc}
use Rattle.type_dictionary.specs.Records.{records_from}
use Rattle.session_model.specs.Instances.{held_ids}
use Rattle.session_model.specs.Answer.{State}
use Rattle.session_model.specs.Sound.{IsSound, IsRightType}
use Rattle.object_registry.specs.Bindings.{SameNames}
use Rattle.session_lines.specs.declared.memory.Memory.{Memory}

-- the test of type records lets the next record of each right type pass
abbrev pub Admits : (List (List ℕ) → List ℕ → Bool) → Type 0
Admits is_next_type = (types : List TypeDesc) (desc : TypeDesc) → length types < 65536 → IsRightType desc
    → is_next_type (records_from 16 types) (record_text (16 + length types, desc)) ≡ true

-- the session and the storage are at this state of the model; of the held ids nothing is said
pub record Stands (memory : Memory) (storage : Storage) (state : State) : Type 0 where
  pub types : memory.types ≡ state.types
  pub pairs : memory.table ≡ state.pairs
  pub names : SameNames memory.registry.names state.names
  pub instances : memory.registry.instances ≡ state.instances
  pub next_id : memory.next_id ≡ state.next_id
  pub started : memory.started ≡ state.started
  pub rooted : state.started ≡ false → memory.rooted ≡ lists state.graph 1
  pub sound : IsSound state
  pub graph : storage.graph ≡ state.graph
  pub number : storage.number ≡ state.number
  -- the storage learns of the next id with each store
  pub stored_next : storage.next_id ≤ state.next_id
  pub records : storage.types ≡ records_from 16 state.types

-- and exactly the saved objects are held
pub record IsAtState (memory : Memory) (storage : Storage) (state : State) : Type 0 where
  pub stands : Stands memory storage state
  pub held : SameIds storage.held (held_ids state.instances)
