-- When what is gathered is a store that may be made.
use Rattle.std.specs.Prelude.{◌≡◌, ℕ, ◌≤◌, Bool, true, false, nat_eq, not, ◌&&◌, ◌||◌, Some, List}
use Rattle.std.specs.List.{flat_map}
use Rattle.graph_model.specs.Limits.{id_limit}
use Rattle.graph_model.specs.Ids.{has}
use Rattle.graph_model.specs.Graph.{Graph, has_edge, lists}
use Rattle.graph_model.specs.Stores.{is_good_id, is_valid_store}
use Rattle.graph_model.specs.declared.entity.StoreOp.{StoreOp}
use Rattle.entity_form.specs.Values.{refs_of}
use Rattle.session_model.specs.Instances.{Instance, Instances, has_instance, held_ids, instance_at}

-- y, which the instance of id x names, is in memory, or x is saved or the root and names y in the graph already
abbrev pub may_name : Graph → Instances → ℕ → Instance → ℕ → Bool
may_name g instances x i y = has_instance instances y || ((i.saved || nat_eq x 1) && has_edge g x y)

-- the instance of id x may be stored: its id is good, the graph lacks it if it was never stored and is not the root, and each reference other than 0 may be named
pub record MayBeStored (g : Graph) (next_id : ℕ) (instances : Instances) (x : ℕ) (i : Instance) : Type 0 where
  pub good_id : is_good_id next_id x ≡ true
  pub new : (i.saved || (not (lists g x) || nat_eq x 1)) ≡ true
  pub names : (y : ℕ) → has y (flat_map refs_of i.object.values) ≡ true → nat_eq y 0 ≡ false → may_name g instances x i y ≡ true

-- the next id does not fall and is at most 2^48, the saved instances are the held ids, and each that is gathered may be stored
pub record MayGather (g : Graph) (held : List ℕ) (next next_id : ℕ) (instances : Instances) (gathered : List ℕ) : Type 0 where
  pub after : next ≤ next_id
  pub within : next_id ≤ id_limit
  pub saved_are_held : (x : ℕ) → has x held ≡ has x (held_ids instances)
  pub each : (x : ℕ) (i : Instance) → has x gathered ≡ true → instance_at instances x ≡ Some i → MayBeStored g next_id instances x i

-- in every graph with which these may be gathered, the store may be made
abbrev pub IsValidStore : Instances → List ℕ → StoreOp → Type 0
IsValidStore instances gathered op =
    (g : Graph) (held : List ℕ) (next : ℕ) → MayGather g held next op.next_id instances gathered → is_valid_store g held next op ≡ true
