-- What the two files of a session's disk hold: types in file 1, and stores in file 0.
use Rattle.std.specs.Prelude.{◌≡◌, ℕ, true, Some, List, [], length}
use Rattle.graph_model.specs.declared.entity.Entity.{Entity}
use Rattle.graph_model.specs.declared.entity.StoreOp.{StoreOp}
use Rattle.graph_model.specs.Graph.{Graph, entity_of, has_edge, lists, after}
use Rattle.type_desc.specs.declared.desc.TypeDesc.{TypeDesc}
use Rattle.session_model.specs.WellFormed.{IsWellFormed}
use Rattle.plain_storage.specs.Types.{AreTypesHeld}
use Rattle.plain_storage.specs.Stores.{HoldsStores}
use Rattle.graph_model.specs.Stores.{next_after}

pub record PlainHeld : Type 0 where
  pub types : List TypeDesc
  pub graph : Graph
  pub number : ℕ
  pub next_id : ℕ

-- each entity has its form, and what an edge names is there
pub record IsSoundGraph (types : List TypeDesc) (graph : Graph) : Type 0 where
  pub forms : (x : ℕ) (entity : Entity) → entity_of graph x ≡ Some entity → IsWellFormed types x entity
  pub whole : (x y : ℕ) → has_edge graph x y ≡ true → lists graph y ≡ true

-- the images of file 0 and of file 1 hold this: types, and stores of sound entities that make the graph
pub record IsPlainStored (image0 image1 : List ℕ) (held : PlainHeld) : Type 0 where
  pub types : AreTypesHeld image1 held.types
  pub stores : List StoreOp
  pub log : HoldsStores image0 stores
  pub graph : held.graph ≡ after [] stores
  pub number : held.number ≡ length stores
  pub next_id : held.next_id ≡ next_after 1024 stores
  pub sound : IsSoundGraph held.types held.graph

-- the images hold nothing
abbrev pub IsPlainFault : List ℕ → List ℕ → Type 0
IsPlainFault image0 image1 = (held : PlainHeld) → ¬ (IsPlainStored image0 image1 held)
