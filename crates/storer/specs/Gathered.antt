-- What is gathered for a store.
use Rattle.std.specs.Prelude.{◌≡◌, ℕ, Bool, Option, Some, None, is_some, IsSomeAnd, List, [], ◌∷◌}
use Rattle.std.specs.List.{filter, flat_map}
use Rattle.graph_model.specs.Graph.{Graph}
use Rattle.graph_model.specs.declared.entity.Record.{Record}
use Rattle.type_dictionary.specs.declared.dictionary.Dictionary.{Dictionary}
use Rattle.type_dictionary.specs.Latest.{desc_of}
use Rattle.entity_form.specs.Values.{AreOf, entity_of, kinds_of, refs_of}
use Rattle.entity_form.specs.declared.value.Object.{Object}
use Rattle.session_model.specs.Instances.{Instance, Instances, graph_of, instance_at, is_unsaved, reached}
use Rattle.storer.specs.declared.gathering.Gathering.{Gathering}
use Rattle.storer.specs.declared.gathering.Gathering.TheVariants.{Lazy, Eager}

-- whether what an id stands for is gathered, where a gathered instance names it
abbrev pub is_taken : Gathering → Option Instance → Bool
is_taken Lazy instance = is_unsaved instance
is_taken Eager instance = is_some instance

-- the ids among these that are gathered
abbrev pub taken : Gathering → Instances → List ℕ → List ℕ
taken gathering instances ids = filter (λ id. is_taken gathering (instance_at instances id)) ids

-- the graph that the walk goes along
abbrev pub gathering_graph : Gathering → Instances → Graph
gathering_graph gathering instances = graph_of (λ i. taken gathering instances (flat_map refs_of i.object.values)) instances

abbrev pub gathered_ids : Gathering → Instances → ℕ → List ℕ
gathered_ids gathering instances start = reached (gathering_graph gathering instances) (start ∷ [])

-- the record of an instance, none where there is no instance
abbrev pub records_of : ℕ → Option Instance → List Record
records_of id None = []
records_of id (Some i) = record { id = id; entity = entity_of i.object } ∷ []

-- the records of the instances of these ids, in their order
abbrev pub records_at : Instances → List ℕ → List Record
records_at instances ids = flat_map (λ id. records_of id (instance_at instances id)) ids

-- the object's type is known, and its values are of that type's kinds
abbrev pub IsKnown : Dictionary → Object → Type 0
IsKnown types object = IsSomeAnd (desc_of types object.type_id) (λ desc. AreOf (kinds_of desc) object.values)

abbrev pub AreKnown : Dictionary → Instances → Type 0
AreKnown types instances = (id : ℕ) (i : Instance) → instance_at instances id ≡ Some i → IsKnown types i.object
