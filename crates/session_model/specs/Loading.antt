-- What becomes of a stored entity in memory, and the closure that is loaded with an id.
use Rattle.std.specs.Prelude.{ℕ, not, true, false, if◌then◌else◌, Option, Some, None, Result, Ok, Err, List, [], ◌∷◌, codes, map}
use Rattle.std.specs.List.{filter, flat_map}
use Rattle.graph_model.specs.Ids.{has}
use Rattle.graph_model.specs.Graph.{Graph}
use Rattle.graph_model.specs.declared.entity.Entity.{Entity}
use Rattle.graph_model.specs.declared.entity.Record.{Record}
use Rattle.type_desc.specs.declared.desc.TypeDesc.{TypeDesc}
use Rattle.type_dictionary.specs.Latest.{desc_of, latest_of}
use Rattle.entity_form.specs.Reading.{values_at}
use Rattle.entity_form.specs.Values.{kinds_of}
use Rattle.entity_form.specs.declared.value.Object.{Object}
use Rattle.entity_form.specs.declared.value.Value.{Value}
use Rattle.refactor_table.specs.declared.name.Pair.{Pair}
use Rattle.legacy_mapping.specs.Conversion.{converted}
use Rattle.session_model.specs.Types.{latest_desc, target_name, sources_of, all_of_kinds}
use Rattle.session_model.specs.Instances.{Instances, put_instance, has_instance, eager_refs_of, reached}

-- an object of the latest type; or why there is none
pub data Converted : Type 0 where
  Loaded : Object → Converted
  -- the target name has no type
  NoType : Converted
  -- a member and its source are of two kinds
  WrongKind : Converted

abbrev pub values_in : Result (List Value) ℕ → List Value
values_in (Ok values) = values
values_in (Err at) = []

-- an entity that has its type's form, as an object of the type with this id
abbrev pub converted_to : List Pair → Entity → TypeDesc → ℕ → TypeDesc → Converted
converted_to pairs entity old id new =
    if all_of_kinds pairs old new new.members
    then Loaded (record { type_id = id; values = converted (values_in (values_at (kinds_of old) 0 entity.refs entity.plain)) (kinds_of new) (sources_of pairs old new new.members) })
    else WrongKind

abbrev pub converted_if : List Pair → Entity → TypeDesc → Option ℕ → Option TypeDesc → Converted
converted_if pairs entity old (Some id) (Some new) = converted_to pairs entity old id new
converted_if pairs entity old _ _ = NoType

-- an entity of an old type becomes an object of the latest type of the target name
abbrev pub converted_from : List TypeDesc → List Pair → Entity → Option TypeDesc → Converted
converted_from types pairs entity None = NoType
converted_from types pairs entity (Some old) =
    let name = target_name pairs old.name in converted_if pairs entity old (latest_of types name) (latest_desc types name)

abbrev pub conversion : List TypeDesc → List Pair → Entity → Converted
conversion types pairs entity = converted_from types pairs entity (desc_of types entity.type_id)

abbrev pub eager_refs : Converted → List ℕ
eager_refs (Loaded object) = flat_map eager_refs_of object.values
eager_refs NoType = []
eager_refs WrongKind = []

-- The graph that loading walks: from each entity along `ref` and `refs` of the converted object, to ids without an instance. From an entity that cannot be converted no way leads on.
abbrev pub loading_graph : List TypeDesc → List Pair → Instances → Graph → Graph
loading_graph types pairs instances g =
    map (λ (r : Record). record { id = r.id; entity = record { type_id = r.entity.type_id; refs = filter (λ id. not (has_instance instances id)) (eager_refs (conversion types pairs r.entity)); plain = [] } }) g

-- the entities that are loaded with an id, by rising id
abbrev pub closure_of : List TypeDesc → List Pair → Instances → Graph → ℕ → Graph
closure_of types pairs instances g id =
    let ids = reached (loading_graph types pairs instances g) (id ∷ []) in filter (λ (r : Record). has r.id ids) g

abbrev pub then_load : ℕ → Converted → Result Instances (List ℕ) → Result Instances (List ℕ)
then_load id (Loaded object) (Ok instances) = Ok (put_instance id (record { object = object; saved = true; changed = false }) instances)
then_load id (Loaded object) (Err code) = Err code
then_load id NoType loaded = Err (codes "no-type")
then_load id WrongKind loaded = Err (codes "wrong-kind")

-- the instances with these entities too; or the code of the one with the least id that cannot be converted
abbrev pub load_all : List TypeDesc → List Pair → Graph → Instances → Result Instances (List ℕ)
load_all types pairs [] instances = Ok instances
load_all types pairs (r ∷ records) instances = then_load r.id (conversion types pairs r.entity) (load_all types pairs records instances)

abbrev pub load : List TypeDesc → List Pair → Graph → Instances → ℕ → Result Instances (List ℕ)
load types pairs g instances id = load_all types pairs (closure_of types pairs instances g id) instances
