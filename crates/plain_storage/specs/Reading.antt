-- What reading the log of stores gives: of the objects of a store, of one payload, and of all.
use Rattle.std.specs.Prelude.{◌≡◌, ℕ, ◌≤◌, ◌^◌, true, Some, List, [], ◌∷◌}
use Rattle.std.specs.List.{flat_map, AllByRecursion}
use Rattle.graph_model.specs.Graph.{Graph, after, edges, entity_of, entity_size, ids, lists, put, put_all}
use Rattle.graph_model.specs.Ids.{has, rises_from}
use Rattle.graph_model.specs.Stores.{is_good_id}
use Rattle.graph_model.specs.declared.entity.Entity.{Entity}
use Rattle.graph_model.specs.declared.entity.Record.{Record}
use Rattle.graph_model.specs.declared.entity.StoreOp.{StoreOp}
use Rattle.type_desc.specs.declared.desc.TypeDesc.{TypeDesc}
use Rattle.session_model.specs.WellFormed.{IsWellFormed}
use Rattle.plain_storage.specs.Stores.{HoldsStores, record_bytes, payload_of, payloads_of_stores, IsObject, MayFollow, AllMayFollow}
use Rattle.graph_model.specs.Stores.{next_after}

-- the records, put one after another
abbrev pub put_each : List Record → Graph → Graph
put_each [] g = g
put_each (r ∷ rs) g = put_each rs (put r g)

-- the bytes are objects by rising id, above `last`; put into the old graph they make the new one
pub record AreObjects (last next_id : ℕ) (bytes : List ℕ) (old new : Graph) : Type 0 where
  pub records : List Record
  pub order : rises_from last (ids records) ≡ true
  pub objects : AllByRecursion (IsObject next_id) records
  pub spelled : bytes ≡ flat_map record_bytes records
  pub made : new ≡ put_each records old

-- the payload is a store of this number that may follow, with this next id; it makes the new graph of the old one
pub record IsStorePayload (number before : ℕ) (payload : List ℕ) (next_id : ℕ) (old new : Graph) : Type 0 where
  pub store : StoreOp
  pub follows : MayFollow before store
  pub spelled : payload ≡ payload_of number store
  pub next_is : next_id ≡ store.next_id
  pub made : new ≡ put_all store.records old

-- the payloads are stores that may follow, the first of this number; the last leaves this next id and the new graph
pub record AreStores (number before : ℕ) (payloads : List (List ℕ)) (next_id : ℕ) (old new : Graph) : Type 0 where
  pub stores : List StoreOp
  pub follow : AllMayFollow before stores
  pub spelled : payloads ≡ payloads_of_stores number stores
  pub next_is : next_id ≡ next_after before stores
  pub made : new ≡ after old stores

-- the image is the log of stores that leave this next id and this graph
pub record AreStoresHeld (image : List ℕ) (next_id : ℕ) (graph : Graph) : Type 0 where
  pub stores : List StoreOp
  pub log : HoldsStores image stores
  pub next_is : next_id ≡ next_after 1024 stores
  pub made : graph ≡ after [] stores

-- the next id, the ids below it and the sizes of entities are those that stores leave
pub record IsRightGraph (next_id : ℕ) (graph : Graph) : Type 0 where
  pub low : 1024 ≤ next_id
  pub high : next_id ≤ 2 ^ 48
  pub good_ids : (x : ℕ) → lists graph x ≡ true → is_good_id next_id x ≡ true
  pub sizes : (x : ℕ) (entity : Entity) → entity_of graph x ≡ Some entity → entity_size entity ≤ 1048576

-- the entity has its form, and what its edges name is there
pub record IsSoundEntity (types : List TypeDesc) (graph : Graph) (x : ℕ) (entity : Entity) : Type 0 where
  pub form : IsWellFormed types x entity
  pub whole : (y : ℕ) → has y (edges entity) ≡ true → lists graph y ≡ true
