-- The objects in memory, and the walks over them.
use Rattle.std.specs.Prelude.{ℕ, zero, suc, ◌==◌, not, Bool, false, if◌then◌else◌, Option, Some, None, is_some, nat_lt, List, [], ◌∷◌, map, length}
use Rattle.std.specs.List.{filter, flat_map}
use Rattle.graph_model.specs.Ids.{has, add_all}
use Rattle.graph_model.specs.Graph.{Graph, entity_of, edges_of}
use Rattle.entity_form.specs.declared.value.Object.{Object}
use Rattle.entity_form.specs.declared.value.Value.{Value}
use Rattle.entity_form.specs.declared.value.Value.TheVariants.{Int, Text, Bytes, Ref, Lazy, Refs}
use Rattle.entity_form.specs.Values.{refs_of}

-- an object, whether it was loaded or stored, and whether it was set since
pub record Instance : Type 0 where
  pub object : Object
  pub saved : Bool
  pub changed : Bool

pub record Held : Type 0 where
  pub id : ℕ
  pub instance : Instance

-- by rising id
abbrev pub Instances : Type 0
Instances = List Held

abbrev pub instance_at : Instances → ℕ → Option Instance
instance_at [] id = None
instance_at (h ∷ hs) id = if h.id == id then Some h.instance else instance_at hs id

abbrev pub has_instance : Instances → ℕ → Bool
has_instance instances id = is_some (instance_at instances id)

abbrev pub put_instance : ℕ → Instance → Instances → Instances
put_instance id instance [] = record { id = id; instance = instance } ∷ []
put_instance id instance (h ∷ hs) =
    if nat_lt h.id id then h ∷ put_instance id instance hs
    else (if h.id == id then record { id = id; instance = instance } ∷ hs else record { id = id; instance = instance } ∷ (h ∷ hs))

-- the ids of saved instances
abbrev pub held_ids : Instances → List ℕ
held_ids instances = map (λ (h : Held). h.id) (filter (λ (h : Held). h.instance.saved) instances)

-- ---- walks

-- what is reached in n steps: the ids, and the edges of what was reached in one step less
abbrev pub reached_in : ℕ → Graph → List ℕ → List ℕ
reached_in zero g ids = ids
reached_in (suc n) g ids = reached_in n g (add_all (flat_map (λ id. edges_of (entity_of g id)) ids) ids)

-- the ids that walks from the starts reach, by rising id: no walk that meets no id twice has more steps than the graph has entities
abbrev pub reached : Graph → List ℕ → List ℕ
reached g starts = reached_in (length g) g (add_all starts [])

-- the graph of the instances with these edges
abbrev pub graph_of : (Instance → List ℕ) → Instances → Graph
graph_of edges instances = map (λ (h : Held). record { id = h.id; entity = record { type_id = h.instance.object.type_id; refs = edges h.instance; plain = [] } }) instances

-- what a value names along `ref` and `refs`
abbrev pub eager_refs_of : Value → List ℕ
eager_refs_of (Int n) = []
eager_refs_of (Text t) = []
eager_refs_of (Bytes b) = []
eager_refs_of (Ref id) = id ∷ []
eager_refs_of (Lazy id) = []
eager_refs_of (Refs ids) = ids

abbrev pub is_unsaved : Option Instance → Bool
is_unsaved None = false
is_unsaved (Some instance) = not instance.saved

-- the lazy storer gathers the start, and from each gathered instance every unsaved one that it names
abbrev pub gathered_lazily : Instances → ℕ → List ℕ
gathered_lazily instances start = reached (graph_of (λ i. filter (λ id. is_unsaved (instance_at instances id)) (flat_map refs_of i.object.values)) instances) (start ∷ [])

-- the eager one every instance that it names
abbrev pub gathered_eagerly : Instances → ℕ → List ℕ
gathered_eagerly instances start = reached (graph_of (λ i. filter (has_instance instances) (flat_map refs_of i.object.values)) instances) (start ∷ [])

-- what a change keeps: an instance that was set keeps its lazy targets too
abbrev pub kept_refs : Instance → List ℕ
kept_refs i = if i.changed then flat_map refs_of i.object.values else flat_map eager_refs_of i.object.values

-- the instances that `forget` keeps: those that walks from the bound ids reach
abbrev pub kept_instances : Instances → List ℕ → Instances
kept_instances instances bound = let kept = reached (graph_of kept_refs instances) bound in filter (λ (h : Held). has h.id kept) instances
