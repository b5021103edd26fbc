-- How far a loading has come, and what one call changes.
use Rattle.std.specs.Prelude.{◌≡◌, ℕ, true, false, not, ◌||◌, nat_eq, nat_lt, if◌then◌else◌, List, [], ◌∷◌, ◌++◌, map, Option, Some, None}
use Rattle.std.specs.List.{filter}
use Rattle.graph_model.specs.Ids.{has, insert}
use Rattle.graph_model.specs.declared.entity.Entity.{Entity}
use Rattle.type_desc.specs.declared.desc.TypeDesc.{TypeDesc}
use Rattle.entity_form.specs.declared.value.Object.{Object}
use Rattle.refactor_table.specs.declared.name.Pair.{Pair}
use Rattle.session_model.specs.Instances.{Instances, has_instance}
use Rattle.session_model.specs.Loading.{Converted, eager_refs}
use Rattle.session_model.specs.WellFormed.{IsWellFormed}
use Rattle.lazy_refs.specs.Forms.{IsObjectAt}
use Rattle.lazy_refs.specs.Mappings.{Becomes, seen}
use Rattle.lazy_refs.specs.declared.mapping.Mapping.{Mapping}
use Rattle.lazy_refs.specs.declared.mapping.Outcome.{Outcome}
use Rattle.lazy_refs.specs.declared.step.LoadStep.{LoadStep}
use Rattle.lazy_refs.specs.declared.step.LoadStep.TheVariants as steps
use Rattle.lazy_refs.specs.declared.step.Reason.{Reason}
use Rattle.lazy_refs.specs.declared.step.Reason.TheVariants as reasons
use Rattle.lazy_refs.specs.declared.step.Refused.{Refused}

-- the id that is asked for, the ids that are done by rising number, those that wait, the loaded objects in order, the least id that was refused, and the mappings of the types that were met
pub record Progress : Type 0 where
  pub asked : ℕ
  pub done : List ℕ
  pub waiting : List ℕ
  pub loaded : List (ℕ × Object)
  pub refused : Option Refused
  pub mappings : List (ℕ × Mapping)

-- nothing but the start is asked for
abbrev pub begun : ℕ → Progress
begun start = record { asked = start; done = []; waiting = []; loaded = []; refused = None; mappings = [] }

-- the ids that are other than 0 and have no instance
abbrev pub wanted : Instances → List ℕ → List ℕ
wanted instances xs = filter (λ (x : ℕ). not (nat_eq x 0)) (filter (λ (x : ℕ). not (has_instance instances x)) xs)

-- the first object of an id
abbrev pub object_at : List (ℕ × Object) → ℕ → Option Object
object_at [] x = None
object_at (p ∷ ps) x = if nat_eq x p.0 then Some p.1 else object_at ps x

abbrev pub loaded_ids : List (ℕ × Object) → List ℕ
loaded_ids ps = map (λ p. p.0) ps

-- ---- what one entity adds

abbrev pub refused_as : ℕ → Reason → Refused
refused_as id reason = record { id = id; reason = reason }

-- the refusal with the lesser id
abbrev pub lower_of : Option Refused → Refused → Option Refused
lower_of None new = Some new
lower_of (Some old) new = if nat_lt old.id new.id then Some old else Some new

abbrev pub loads_with : ℕ → Converted → List (ℕ × Object)
loads_with id (Converted.Loaded object) = (id, object) ∷ []
loads_with id Converted.NoType = []
loads_with id Converted.WrongKind = []

abbrev pub refuses_with : ℕ → Converted → Option Refused → Option Refused
refuses_with id (Converted.Loaded object) old = old
refuses_with id Converted.NoType old = lower_of old (refused_as id reasons.NoType)
refuses_with id Converted.WrongKind old = lower_of old (refused_as id reasons.WrongKind)

abbrev pub of_reason : Reason → Converted
of_reason reasons.NoType = Converted.NoType
of_reason reasons.WrongKind = Converted.WrongKind

-- the asked id is done: its entity became this
pub record Takes (instances : Instances) (converted : Converted) (old new : Progress) : Type 0 where
  pub asked : new.asked ≡ old.asked
  pub done : has old.asked old.done ≡ false → new.done ≡ insert old.asked old.done
  pub waiting : new.waiting ≡ old.waiting ++ wanted instances (eager_refs converted)
  pub loaded : new.loaded ≡ old.loaded ++ loads_with old.asked converted
  pub refused : new.refused ≡ refuses_with old.asked converted old.refused

-- nothing but the mappings changed
abbrev pub IsAsFar : Progress → Progress → Type 0
IsAsFar old new = new ≡ record old { mappings = new.mappings }

-- ---- which id is next

-- all are done
abbrev pub AreKnown : List ℕ → List ℕ → Type 0
AreKnown done waiting = (x : ℕ) → has x waiting ≡ true → has x done ≡ true

-- an id that is not done; with it the same ids wait or are done as before
pub record IsNext (done old new : List ℕ) (id : ℕ) : Type 0 where
  pub fresh : has id done ≡ false
  pub known : (x : ℕ) → has x old ≡ true → (has x done || has x (new ++ id ∷ [])) ≡ true
  pub within : (x : ℕ) → has x (new ++ id ∷ []) ≡ true → has x old ≡ true

-- with nothing left the walk ends, and the least refusal decides
abbrev pub Ends : Progress → LoadStep → Type 0
Ends p (steps.Want id) = ⊥
Ends p (steps.Ready all) = (p.refused ≡ None) × (all ≡ p.loaded)
Ends p (steps.NoType id) = p.refused ≡ Some (refused_as id reasons.NoType)
Ends p (steps.WrongKind id) = p.refused ≡ Some (refused_as id reasons.WrongKind)
Ends p (steps.Broken id) = ⊥

-- the next id is asked for
pub record AsksFor (old new : Progress) (id : ℕ) : Type 0 where
  pub asked : new.asked ≡ id
  pub next : IsNext old.done old.waiting new.waiting id
  pub done : new.done ≡ old.done
  pub loaded : new.loaded ≡ old.loaded
  pub refused : new.refused ≡ old.refused

abbrev pub IsNextStep : Progress → Progress → LoadStep → Type 0
IsNextStep old new (steps.Want id) = AsksFor old new id
IsNextStep old new (steps.Ready all) = AreKnown old.done old.waiting × Ends old (steps.Ready all)
IsNextStep old new (steps.NoType id) = AreKnown old.done old.waiting × Ends old (steps.NoType id)
IsNextStep old new (steps.WrongKind id) = AreKnown old.done old.waiting × Ends old (steps.WrongKind id)
IsNextStep old new (steps.Broken id) = ⊥

-- the asked id is done, and the walk goes on
pub record Turns (instances : Instances) (converted : Converted) (old new : Progress) (step : LoadStep) : Type 0 where
  pub between : Progress
  pub takes : Takes instances converted old between
  pub goes_on : IsNextStep between new step

-- the asked id's entity holds the object
pub record TurnsBy (types : List TypeDesc) (pairs : List Pair) (instances : Instances) (object : Object) (old new : Progress) (step : LoadStep) : Type 0 where
  pub outcome : Outcome
  pub becomes : Becomes types pairs object outcome
  pub turns : Turns instances (seen outcome) old new step

-- the asked id's entity is this
abbrev pub TurnsWith : List TypeDesc → List Pair → Instances → Entity → Progress → Progress → LoadStep → Type 0
TurnsWith types pairs instances entity old new (steps.Broken id) = (id ≡ old.asked) × ¬ (IsWellFormed types old.asked entity)
TurnsWith types pairs instances entity old new step = (object : Object) × IsObjectAt types old.asked entity object × TurnsBy types pairs instances object old new step
