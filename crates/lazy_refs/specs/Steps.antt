-- What a loading promises of the graph whose entities it is given.
use Rattle.std.specs.Prelude.{◌≡◌, ◌⊎◌, ℕ, ◌≤◌, ◌||◌, true, false, if◌then◌else◌, List, [], ◌∷◌, ◌++◌, Option, Some, None, option_and_then, Ok, Err, codes}
use Rattle.graph_model.specs.Ids.{has, rises}
use Rattle.graph_model.specs.Graph.{Graph, entity_of, has_edge, ids, lists, IsReached}
use Rattle.graph_model.specs.declared.entity.Entity.{Entity}
use Rattle.type_desc.specs.declared.desc.TypeDesc.{TypeDesc}
use Rattle.entity_form.specs.declared.value.Object.{Object}
use Rattle.refactor_table.specs.declared.name.Pair.{Pair}
use Rattle.session_model.specs.Instances.{Instances}
use Rattle.session_model.specs.WellFormed.{IsWellFormed}
use Rattle.session_model.specs.Loading.{Converted, conversion, load, loading_graph}
use Rattle.object_registry.specs.Registered.{put_loaded}
use Rattle.lazy_refs.specs.Mappings.{AreTypedIn}
use Rattle.lazy_refs.specs.Walks.{Progress, loaded_ids, object_at, refused_as}
use Rattle.lazy_refs.specs.declared.step.LoadStep.{LoadStep}
use Rattle.lazy_refs.specs.declared.step.LoadStep.TheVariants as steps
use Rattle.lazy_refs.specs.declared.step.Reason.{Reason}
use Rattle.lazy_refs.specs.declared.step.Reason.TheVariants as reasons
use Rattle.lazy_refs.specs.declared.step.Refused.{Refused}

-- ---- what becomes of an id

abbrev pub object_of : Converted → Option Object
object_of (Converted.Loaded object) = Some object
object_of Converted.NoType = None
object_of Converted.WrongKind = None

abbrev pub reason_of : Converted → Option Reason
reason_of (Converted.Loaded object) = None
reason_of Converted.NoType = Some reasons.NoType
reason_of Converted.WrongKind = Some reasons.WrongKind

-- the object that the graph's entity of an id becomes
abbrev pub object_in : List TypeDesc → List Pair → Graph → ℕ → Option Object
object_in types pairs g x = option_and_then (λ (e : Entity). object_of (conversion types pairs e)) (entity_of g x)

-- why it becomes none
abbrev pub reason_in : List TypeDesc → List Pair → Graph → ℕ → Option Reason
reason_in types pairs g x = option_and_then (λ (e : Entity). reason_of (conversion types pairs e)) (entity_of g x)

-- ---- outward order

-- one of these ids names y
abbrev pub IsNamedIn : Graph → List ℕ → ℕ → Type 0
IsNamedIn g before y = (x : ℕ) × (has x before ≡ true) × (has_edge g x y ≡ true)

-- each is named by one of those before or by an earlier one
abbrev pub EachNamed : Graph → List ℕ → List ℕ → Type 0
EachNamed g before [] = Unit {0}
EachNamed g before (y ∷ ys) = IsNamedIn g before y × EachNamed g (y ∷ before) ys

-- the first is the start, and each other one is named by an earlier one
abbrev pub IsOutward : Graph → ℕ → List ℕ → Type 0
IsOutward g start [] = ⊥
IsOutward g start (x ∷ xs) = (x ≡ start) × EachNamed g (x ∷ []) xs

-- ---- the walk

-- of the done ids that cannot be converted, this is the least
abbrev pub IsLeast : List TypeDesc → List Pair → Graph → List ℕ → Option Refused → Type 0
IsLeast types pairs g done None = (x : ℕ) → has x done ≡ true → reason_in types pairs g x ≡ None
IsLeast types pairs g done (Some r) = (has r.id done ≡ true) × (reason_in types pairs g r.id ≡ Some r.reason)
    × ((x : ℕ) (reason : Reason) → has x done ≡ true → reason_in types pairs g x ≡ Some reason → r.id ≤ x)

-- a walk along the loading graph, with these ids open
pub record IsWalked (types : List TypeDesc) (pairs : List Pair) (instances : Instances) (g : Graph) (start : ℕ) (p : Progress) (open_ids : List ℕ) : Type 0 where
  -- the start and the edges of what is done are done or open; these are reached
  pub start_known : (has start p.done || has start open_ids) ≡ true
  pub edges_known : (x y : ℕ) → has x p.done ≡ true → has_edge (loading_graph types pairs instances g) x y ≡ true → (has y p.done || has y open_ids) ≡ true
  pub reached : (x : ℕ) → (has x p.done || has x open_ids) ≡ true → IsReached (loading_graph types pairs instances g) (start ∷ []) x
  pub order : rises p.done ≡ true
  -- the graph has what is done; what of it can be converted is loaded, and of the others the least is known
  pub listed : (x : ℕ) → has x p.done ≡ true → lists g x ≡ true
  pub loads : (x : ℕ) → object_at p.loaded x ≡ (if has x p.done then object_in types pairs g x else None)
  pub least : IsLeast types pairs g p.done p.refused
  -- what is loaded stands in outward order, and leads to what is open
  pub outward : (loaded_ids p.loaded ≡ []) ⊎ IsOutward (loading_graph types pairs instances g) start (loaded_ids p.loaded)
  pub named : (y : ℕ) → has y open_ids ≡ true → (y ≡ start) ⊎ IsNamedIn (loading_graph types pairs instances g) (loaded_ids p.loaded) y

-- the walk from the start over a graph by rising ids: the asked id is open, and new
pub record IsLoading (types : List TypeDesc) (pairs : List Pair) (instances : Instances) (g : Graph) (start : ℕ) (p : Progress) : Type 0 where
  pub graph : rises (ids g) ≡ true
  pub walked : IsWalked types pairs instances g start p (p.waiting ++ p.asked ∷ [])
  pub fresh : has p.asked p.done ≡ false

-- ---- the steps

-- what is given is the entity of the asked id
abbrev pub IsGiven : Graph → Progress → Option Entity → Type 0
IsGiven g p None = Unit {0}
IsGiven g p (Some entity) = entity_of g p.asked ≡ Some entity

-- the model loads these objects, and they stand in outward order
pub record IsReady (types : List TypeDesc) (pairs : List Pair) (instances : Instances) (g : Graph) (start : ℕ) (all : List (ℕ × Object)) : Type 0 where
  pub loads : load types pairs g instances start ≡ Ok (put_loaded all instances)
  pub outward : IsOutward (loading_graph types pairs instances g) start (loaded_ids all)

-- the model refuses with the code, and of the reached ids that cannot be converted this is the least
pub record IsRefusal (types : List TypeDesc) (pairs : List Pair) (instances : Instances) (g : Graph) (start : ℕ) (code : List ℕ) (r : Refused) : Type 0 where
  pub refuses : load types pairs g instances start ≡ Err code
  pub reached : IsReached (loading_graph types pairs instances g) (start ∷ []) r.id
  pub reason : reason_in types pairs g r.id ≡ Some r.reason
  pub least : (x : ℕ) (reason : Reason) → IsReached (loading_graph types pairs instances g) (start ∷ []) x → reason_in types pairs g x ≡ Some reason → r.id ≤ x

-- another id is asked for, and the walk is as before; or it has ended
abbrev pub IsStep : List TypeDesc → List Pair → Instances → Graph → ℕ → Progress → LoadStep → Type 0
IsStep types pairs instances g start p (steps.Want id) = (p.asked ≡ id) × IsLoading types pairs instances g start p
IsStep types pairs instances g start p (steps.Ready all) = IsReady types pairs instances g start all
IsStep types pairs instances g start p (steps.NoType id) = IsRefusal types pairs instances g start (codes "no-type") (refused_as id reasons.NoType)
IsStep types pairs instances g start p (steps.WrongKind id) = IsRefusal types pairs instances g start (codes "wrong-kind") (refused_as id reasons.WrongKind)
IsStep types pairs instances g start p (steps.Broken id) = Unit {0}

-- the given entity is not well-formed exactly where the asked id is broken
abbrev pub IsBrokenAtAsked : List TypeDesc → Progress → Option Entity → LoadStep → Type 0
IsBrokenAtAsked types p None (steps.Broken id) = ⊥
IsBrokenAtAsked types p None step = Unit {0}
IsBrokenAtAsked types p (Some entity) (steps.Broken id) = (id ≡ p.asked) × ¬ (IsWellFormed types p.asked entity)
IsBrokenAtAsked types p (Some entity) step = IsWellFormed types p.asked entity

-- the objects that are loaded so far, or all of them, are typed
abbrev pub IsTypedStep : List TypeDesc → Progress → LoadStep → Type 0
IsTypedStep types p (steps.Want id) = AreTypedIn types p.loaded
IsTypedStep types p (steps.Ready all) = AreTypedIn types all
IsTypedStep types p step = Unit {0}
