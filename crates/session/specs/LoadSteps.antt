-- What the steps of a loading come to, and the names that follow a reference.
use Rattle.std.specs.Prelude.{◌≡◌, ℕ, false, List, None, Result, Ok, Err, codes}
use Rattle.graph_model.specs.Graph.{Graph}
use Rattle.graph_model.specs.Served.{Storage}
use Rattle.entity_form.specs.declared.value.Object.{Object}
use Rattle.session_model.specs.Instances.{has_instance}
use Rattle.session_model.specs.Loading.{load}
use Rattle.session_model.specs.Answer.{State, Turn, id_in, loaded_turn, with_loaded}
use Rattle.session_model.specs.Sound.{IsToLoad}
use Rattle.type_desc.specs.declared.desc.TypeDesc.{TypeDesc}
use Rattle.lazy_refs.specs.Mappings.{AreMappings, AreTypedIn}
use Rattle.lazy_refs.specs.Steps.{IsReady, IsStep}
use Rattle.lazy_refs.specs.Walks.{Progress}
use Rattle.lazy_refs.specs.declared.step.LoadStep.{LoadStep}
use Rattle.lazy_refs.specs.declared.step.LoadStep.TheVariants as steps
use Rattle.session_lines.specs.declared.memory.Memory.{Memory}
use Rattle.session_lines.specs.declared.outcome.Outcome.{Outcome}
use Rattle.session_lines.specs.declared.outcome.Outcome.TheVariants as outcomes
use Rattle.session_lines.specs.declared.outcome.Phase.TheVariants as phases
use Rattle.session_lines.specs.declared.outcome.Purpose.{Purpose}
use Rattle.session_lines.specs.declared.refusal.Refusal.TheVariants.{NoType, WrongKind}
use Rattle.session_lines.specs.declared.refusal.Stop.{Stop}
use Rattle.session_lines.specs.Loads.{LoadsFor}
use Rattle.session_lines.specs.Refusals.{IsRefusal, refused_text}
use Rattle.session_lines.specs.Stands.{IsAtState}
use Rattle.session_lines.specs.Steps.{phase_steps, purpose_steps}

-- a start is loaded for the purpose, at a state of the model
pub record IsLoadedFor (purpose : Purpose) (memory : Memory) (storage : Storage) (turn : Turn) : Type 0 where
  pub state : State
  pub stands : IsAtState memory storage state
  pub start : ℕ
  pub loads : LoadsFor purpose state start turn

-- the entity that was given has its type's form
abbrev pub IsWhole : LoadStep → Type 0
IsWhole (steps.Broken id) = ⊥
IsWhole _ = Unit {0}

-- the loading comes to this step
pub record TakesStep (purpose : Purpose) (loading : Progress) (step : LoadStep) (memory : Memory) (storage : Storage) (turn : Turn) : Type 0 where
  pub loaded_for : IsLoadedFor purpose memory storage turn
  pub step_is : IsStep loaded_for.state.types loaded_for.state.pairs loaded_for.state.instances loaded_for.state.graph loaded_for.start loading step
  pub whole : IsWhole step
  pub mappings : AreMappings memory.types memory.table loading.mappings

-- these are all the objects that are loaded
pub record TakesAll (purpose : Purpose) (all : List (ℕ × Object)) (memory : Memory) (storage : Storage) (turn : Turn) : Type 0 where
  pub loaded_for : IsLoadedFor purpose memory storage turn
  pub ready : IsReady loaded_for.state.types loaded_for.state.pairs loaded_for.state.instances loaded_for.state.graph loaded_for.start all

-- no id is asked for any more
abbrev pub IsLast : LoadStep → Type 0
IsLast (steps.Want id) = ⊥
IsLast _ = Unit {0}

-- nothing is loaded
abbrev pub IsFailed : LoadStep → Type 0
IsFailed (steps.Want id) = ⊥
IsFailed (steps.Ready all) = ⊥
IsFailed _ = Unit {0}

-- all objects that are loaded are of known types, with values of their kinds
abbrev pub IsTypedEnd : List TypeDesc → LoadStep → Type 0
IsTypedEnd types (steps.Ready all) = AreTypedIn types all
IsTypedEnd types _ = Unit {0}

-- the outcome tells why
abbrev pub IsFailure : LoadStep → Outcome → Type 0
IsFailure (steps.NoType id) outcome = outcome ≡ outcomes.Answer (refused_text NoType)
IsFailure (steps.WrongKind id) outcome = outcome ≡ outcomes.Answer (refused_text WrongKind)
IsFailure (steps.Broken id) outcome = outcome ≡ outcomes.Broken id
IsFailure _ outcome = ⊥

-- what the model loads, or the code by which it refuses
abbrev pub IsEnd : State → ℕ → LoadStep → Type 0
IsEnd state start (steps.Want id) = ⊥
IsEnd state start (steps.Ready all) = IsReady state.types state.pairs state.instances state.graph start all
IsEnd state start (steps.NoType id) = load state.types state.pairs state.graph state.instances start ≡ Err (codes "no-type")
IsEnd state start (steps.WrongKind id) = load state.types state.pairs state.graph state.instances start ≡ Err (codes "wrong-kind")
IsEnd state start (steps.Broken id) = ⊥

-- the loading ends by this step
pub record EndsBy (purpose : Purpose) (step : LoadStep) (memory : Memory) (storage : Storage) (turn : Turn) : Type 0 where
  pub loaded_for : IsLoadedFor purpose memory storage turn
  pub end_is : IsEnd loaded_for.state loaded_for.start step

-- how many replies and prints the line still takes behind the last step
abbrev pub last_steps : LoadStep → Purpose → Graph → ℕ
last_steps (steps.Want id) purpose g = 0
last_steps (steps.Ready all) purpose g = purpose_steps purpose g
last_steps (steps.NoType id) purpose g = 1
last_steps (steps.WrongKind id) purpose g = 1
last_steps (steps.Broken id) purpose g = 0

-- and behind any step
abbrev pub step_steps : LoadStep → Progress → Purpose → Graph → ℕ
step_steps (steps.Want id) loading purpose g = phase_steps (phases.Looking loading purpose) g
step_steps (steps.Ready all) loading purpose g = purpose_steps purpose g
step_steps (steps.NoType id) loading purpose g = 1
step_steps (steps.WrongKind id) loading purpose g = 1
step_steps (steps.Broken id) loading purpose g = 0

-- the turn binds the free name once the id has an object, which may be loaded where it is not in memory
pub record IsFollowed (new : List ℕ) (id : ℕ) (state : State) (turn : Turn) : Type 0 where
  pub free : id_in state.names new ≡ None
  pub to_load : has_instance state.instances id ≡ false → IsToLoad state id
  pub turn_is : turn ≡ loaded_turn state new id (with_loaded state id)

-- the turn follows the reference to the id, or is the refusal
abbrev pub IsFollowing : List ℕ → Result ℕ Stop → State → Turn → Type 0
IsFollowing new (Ok id) state turn = IsFollowed new id state turn
IsFollowing new (Err stop) state turn = IsRefusal state turn stop
