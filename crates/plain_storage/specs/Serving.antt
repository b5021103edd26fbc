-- What the parts of serving an ask promise.
use Rattle.std.specs.Prelude.{◌≡◌, ◌+◌, ◌≤◌, ◌<◌, ◌^◌, ℕ, true, List, length, ◌↔◌}
use Rattle.std.specs.List.{AllByRecursion}
use Rattle.entity_form.specs.Spelling.{IsEntity}
use Rattle.gated_log.specs.declared.log.AppendFault.{AppendFault}
use Rattle.gated_log.specs.declared.log.AppendFault.TheVariants as appending
use Rattle.graph_model.specs.Graph.{Graph, entity_size, ids}
use Rattle.graph_model.specs.Ids.{has, rises}
use Rattle.graph_model.specs.Served.{IsKept}
use Rattle.graph_model.specs.Stores.{is_good_id, total_size}
use Rattle.graph_model.specs.declared.ask.StorageFault.{StorageFault}
use Rattle.graph_model.specs.declared.ask.StorageFault.TheVariants as asking
use Rattle.graph_model.specs.declared.entity.Record.{Record}
use Rattle.graph_model.specs.declared.entity.StoreOp.{StoreOp}
use Rattle.plain_storage.specs.Keeping.{Plain}
use Rattle.plain_storage.specs.Stores.{MayFollow, payload_of}
use Rattle.graph_model.specs.Stores.{next_after}

-- n is how many ids of the graph are reached from the root and the held ids
pub record IsKeptCount (graph : Graph) (held : List ℕ) (n : ℕ) : Type 0 where
  pub kept : List ℕ
  pub order : rises kept ≡ true
  pub exact : (x : ℕ) → (has x kept ≡ true) ↔ IsKept graph held x
  pub count : n ≡ length kept

-- an id, a type, and at most 1 MiB
pub record IsGoodRecord (r : Record) : Type 0 where
  pub id : 1 ≤ r.id
  pub type_id : 1 ≤ r.entity.type_id
  pub size : entity_size r.entity ≤ 1048576

-- the record has a spelling
abbrev pub HasSpelling : Record → Type 0
HasSpelling r = IsEntity (r.id, r.entity)

-- one or more good records by rising id, of which a payload has the room; each id is the root's or below the next id
pub record IsGoodStore (op : StoreOp) : Type 0 where
  pub some : 0 < length op.records
  pub order : rises (ids op.records) ≡ true
  pub good : AllByRecursion IsGoodRecord op.records
  pub good_ids : AllByRecursion (λ r. is_good_id op.next_id r.id ≡ true) op.records
  pub fits : total_size op.records ≤ 1048560
  pub most : op.next_id ≤ 2 ^ 48

-- the payload is that of a store that may follow these, with the next number
pub record IsNextStore (stores : List StoreOp) (payload : List ℕ) (op : StoreOp) : Type 0 where
  pub follows : MayFollow (next_after 1024 stores) op
  pub spelled : payload ≡ payload_of (1 + length stores) op

-- a fault of a log is one of the storage; a full log is told by the number of the store that is due
abbrev pub asked_fault : ℕ → AppendFault → StorageFault
asked_fault number appending.Fault = asking.Fault
asked_fault number (appending.Full at) = asking.Full number

-- all but the held ids is as it was
pub record OnlyHeldChanges (old new : Plain) : Type 0 where
  pub graph : new.graph ≡ old.graph
  pub next_id : new.next_id ≡ old.next_id
  pub stores_log : new.stores_log ≡ old.stores_log
  pub types_log : new.types_log ≡ old.types_log
