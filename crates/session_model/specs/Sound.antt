-- What holds of every state that a script comes to: its types, its graph and the objects in memory agree.
use Rattle.std.specs.Prelude.{◌≡◌, ◌⊎◌, ◌≤◌, ℕ, Bool, true, false, nat_eq, is_none, not, ◌&&◌, ◌||◌, Some, List, [], ◌∷◌, length, map, slice_get, IsUtf8, FitsSigned, codes}
use Rattle.std.specs.List.{flat_map, list_all}
use Rattle.std.specs.Int.{w64}
use Rattle.graph_model.specs.Limits.{entity_limit, first_id, id_limit}
use Rattle.graph_model.specs.declared.entity.Entity.{Entity}
use Rattle.graph_model.specs.Ids.{has, rises}
use Rattle.graph_model.specs.Graph.{Graph, entity_of, entity_size, lists, has_edge, ids}
use Rattle.graph_model.specs.Stores.{any_edge, is_good_id}
use Rattle.type_desc.specs.Grammar.{IsDesc}
use Rattle.type_desc.specs.declared.desc.TypeDesc.{TypeDesc}
use Rattle.type_dictionary.specs.Latest.{desc_of}
use Rattle.entity_form.specs.Values.{kinds_of, AreOf, refs_of}
use Rattle.entity_form.specs.declared.value.Value.{Value}
use Rattle.entity_form.specs.declared.value.Value.TheVariants.{Int, Text, Bytes, Ref, Lazy, Refs}
use Rattle.refactor_table.specs.declared.name.Pair.{Pair}
use Rattle.refactor_table.specs.Names.{AreOfOneForm}
use Rattle.refactor_table.specs.Pairs.{AreSound}
use Rattle.session_model.specs.Commands as cmd
use Rattle.session_model.specs.Commands.{Command}
use Rattle.session_model.specs.Types.{is_root_type, repeats_member, type_in}
use Rattle.session_model.specs.WellFormed.{IsWellFormed}
use Rattle.session_model.specs.Instances.{Instance, Instances, Held, instance_at, has_instance, eager_refs_of}
use Rattle.session_model.specs.Answer.{State, Binding, id_in}

-- ---- types

-- a type that may be recorded
pub record IsRightType (desc : TypeDesc) : Type 0 where
  pub spelled : IsDesc desc
  pub no_repeat : repeats_member desc.members ≡ false
  pub not_root : is_root_type desc.name ≡ false

pub record AreTypes (types : List TypeDesc) : Type 0 where
  pub most : length types ≤ 65536
  pub each : (i : ℕ) (desc : TypeDesc) → slice_get types i ≡ Some desc → IsRightType desc

-- a pair of names that leaves the root's type alone
abbrev pub spares_root : Pair → Bool
spares_root pair = not (is_root_type (type_in pair.old) || is_root_type (type_in pair.new))

-- ---- the graph

-- ids by rising number, each 1 or from 1024 to below the next id; each entity is well-formed, of at most 1 MiB; and nothing that is named is missing
pub record IsRightGraph (types : List TypeDesc) (next_id : ℕ) (g : Graph) : Type 0 where
  pub order : rises (ids g) ≡ true
  pub good_ids : (x : ℕ) → lists g x ≡ true → is_good_id next_id x ≡ true
  pub forms : (x : ℕ) (entity : Entity) → entity_of g x ≡ Some entity → IsWellFormed types x entity
  pub sizes : (x : ℕ) (entity : Entity) → entity_of g x ≡ Some entity → entity_size entity ≤ entity_limit
  pub whole : (x y : ℕ) → lists g x ≡ true → has_edge g x y ≡ true → lists g y ≡ true

-- ---- names

-- no name is bound twice
abbrev pub are_distinct : List Binding → Bool
are_distinct [] = true
are_distinct (b ∷ bs) = is_none (id_in bs b.name) && are_distinct bs

-- ---- objects in memory

-- a number of 64 bits, and a text of UTF-8
abbrev pub IsProper : Value → Type 0
IsProper (Int n) = FitsSigned w64 n
IsProper (Text text) = IsUtf8 text
IsProper (Bytes bytes) = Unit {0}
IsProper (Ref id) = Unit {0}
IsProper (Lazy id) = Unit {0}
IsProper (Refs ids) = Unit {0}

abbrev pub all_refs : Instance → List ℕ
all_refs i = flat_map refs_of i.object.values

abbrev pub eager_refs_in : Instance → List ℕ
eager_refs_in i = flat_map eager_refs_of i.object.values

-- the id stands for an instance
abbrev pub IsHere : Instances → ℕ → Type 0
IsHere instances x = (i : Instance) × (instance_at instances x ≡ Some i)

-- the instance of id x among the others, beside the graph
pub record IsRightInstance (types : List TypeDesc) (next_id : ℕ) (g : Graph) (instances : Instances) (x : ℕ) (i : Instance) : Type 0 where
  pub good_id : is_good_id next_id x ≡ true
  pub desc : TypeDesc
  pub known : desc_of types i.object.type_id ≡ Some desc
  pub kinds : AreOf (kinds_of desc) i.object.values
  pub root : nat_eq i.object.type_id 1 ≡ nat_eq x 1
  pub proper : (at : ℕ) (value : Value) → slice_get i.object.values at ≡ Some value → IsProper value
  -- what is saved is in the graph, and what is not saved is not there
  pub saved : lists g x ≡ i.saved
  -- along `ref` and `refs` every object that it names is in memory
  pub eager : (y : ℕ) → has y (eager_refs_in i) ≡ true → (y ≡ 0) ⊎ IsHere instances y
  -- along `lazy` it is in memory, or its entity in the graph names it too
  pub lazy : (y : ℕ) → has y (all_refs i) ≡ true → (y ≡ 0) ⊎ (IsHere instances y ⊎ (has_edge g x y ≡ true))
  -- what was not set names no more than its entity in the graph
  pub same : i.changed ≡ false → (y : ℕ) → has y (all_refs i) ≡ true → (y ≡ 0) ⊎ (has_edge g x y ≡ true)

-- ---- the state

pub record IsSound (state : State) : Type 0 where
  pub types : AreTypes state.types
  pub pairs : AreSound state.pairs
  pub root_spared : list_all spares_root state.pairs ≡ true
  pub low : first_id ≤ state.next_id
  pub high : state.next_id ≤ id_limit
  pub graph : IsRightGraph state.types state.next_id state.graph
  pub order : rises (map (λ (h : Held). h.id) state.instances) ≡ true
  pub each : (x : ℕ) (i : Instance) → instance_at state.instances x ≡ Some i → IsRightInstance state.types state.next_id state.graph state.instances x i
  pub distinct : are_distinct state.names ≡ true
  pub root_name : id_in state.names (codes "root") ≡ Some 1
  -- once the script has begun each bound name stands for an object in memory; before, no object is there
  pub bound : state.started ≡ true → (name : List ℕ) (x : ℕ) → id_in state.names name ≡ Some x → IsHere state.instances x
  pub root : state.started ≡ true → IsHere state.instances 1
  pub unstarted : state.started ≡ false → state.instances ≡ []
  pub unbound : state.started ≡ false → (name : List ℕ) (x : ℕ) → id_in state.names name ≡ Some x → x ≡ 1

-- ---- commands

-- what a line of UTF-8 spells: a type that has a record, two types or two members to refactor, and as the rest of a `set` line a text of UTF-8
abbrev pub IsProperCommand : Command → Type 0
IsProperCommand (cmd.DeclareType desc) = IsDesc desc
IsProperCommand (cmd.Refactor old new) = AreOfOneForm old new
IsProperCommand (cmd.SetMember name member rest) = IsUtf8 rest
IsProperCommand _ = Unit {0}

-- ---- loads

-- an id whose closure a script loads: the root where the script begins, or later what an object in memory names in the graph and what is not there yet
abbrev pub IsToLoad : State → ℕ → Type 0
IsToLoad state y = ((y ≡ 1) × (state.instances ≡ []) × (lists state.graph 1 ≡ true))
    ⊎ ((has_instance state.instances y ≡ false) × ((x : ℕ) × IsHere state.instances x × (has_edge state.graph x y ≡ true)))

-- each id is named in the graph by one of those before it
abbrev pub AreNamedInTurn : Graph → (before ids : List ℕ) → Type 0
AreNamedInTurn g before [] = Unit {0}
AreNamedInTurn g before (x ∷ xs) = (any_edge g before x ≡ true) × AreNamedInTurn g (x ∷ before) xs

-- the lines that change which ids are held, once the script has begun
abbrev pub changes_held : Command → Bool
changes_held (cmd.Store name) = true
changes_held (cmd.StoreAll name) = true
changes_held (cmd.Follow name member new) = true
changes_held cmd.Forget = true
changes_held _ = false
