-- Objects that are being loaded, and what is due once they are in memory.
use Rattle.std.specs.Prelude.{◌≡◌, ℕ, true, false, Some, None, List}
use Rattle.graph_model.specs.Graph.{lists}
use Rattle.graph_model.specs.Served.{Storage}
use Rattle.graph_model.specs.declared.entity.Entity.{Entity}
use Rattle.session_model.specs.Answer.{State, Turn, bound, command_turn, id_in, loaded_turn, ok, started_turn}
use Rattle.session_model.specs.Loading.{load}
use Rattle.session_model.specs.Sound.{IsProperCommand, IsSound, IsToLoad}
use Rattle.lazy_refs.specs.Mappings.{AreMappings}
use Rattle.lazy_refs.specs.Steps.{IsGiven, IsLoading}
use Rattle.lazy_refs.specs.Walks.{Progress}
use Rattle.script_text.specs.Meaning.{meant}
use Rattle.script_text.specs.declared.command.Command.{Command}
use Rattle.session_lines.specs.declared.memory.Memory.{Memory}
use Rattle.session_lines.specs.declared.outcome.Purpose.{Purpose}
use Rattle.session_lines.specs.declared.outcome.Purpose.TheVariants as purposes
use Rattle.session_lines.specs.Limits.{most_bytes}
use Rattle.session_lines.specs.Stands.{IsAtState}

-- a command as a line spells it
abbrev pub IsRead : Command → Type 0
IsRead command = IsProperCommand (meant command)

-- the script begins with the command once the root and what it leads to are loaded
pub record LoadsToStart (command : Command) (state : State) (start : ℕ) (turn : Turn) : Type 0 where
  pub read : IsRead command
  pub unstarted : state.started ≡ false
  pub start_is : start ≡ 1
  pub rooted : lists state.graph 1 ≡ true
  pub turn_is : turn ≡ started_turn most_bytes state (meant command) (load state.types state.pairs state.graph state.instances 1)

-- the name is bound once the id has an object
pub record LoadsToFollow (new : List ℕ) (id : ℕ) (state : State) (start : ℕ) (turn : Turn) : Type 0 where
  pub started : state.started ≡ true
  pub start_is : start ≡ id
  pub to_load : IsToLoad state id
  pub free : id_in state.names new ≡ None
  pub sound : IsSound turn.state
  pub turn_is : turn ≡ loaded_turn state new id (load state.types state.pairs state.graph state.instances id)

abbrev pub LoadsFor : Purpose → State → ℕ → Turn → Type 0
LoadsFor (purposes.Start command) state start turn = LoadsToStart command state start turn
LoadsFor (purposes.Follow new id) state start turn = LoadsToFollow new id state start turn

-- the walk is under way from a start, in the graph of the state
pub record IsLoadingFor (purpose : Purpose) (loading : Progress) (memory : Memory) (storage : Storage) (turn : Turn) : Type 0 where
  pub state : State
  pub stands : IsAtState memory storage state
  pub start : ℕ
  pub walk : IsLoading state.types state.pairs state.instances state.graph start loading
  pub mappings : AreMappings memory.types memory.table loading.mappings
  pub loads : LoadsFor purpose state start turn

-- and the entity is that of the id that was asked for
pub record TakesEntity (purpose : Purpose) (loading : Progress) (entity : Entity) (memory : Memory) (storage : Storage) (turn : Turn) : Type 0 where
  pub loading_for : IsLoadingFor purpose loading memory storage turn
  pub given : IsGiven storage.graph loading (Some entity)

-- the script has begun, and the command comes
pub record ComesAfterStart (command : Command) (memory : Memory) (storage : Storage) (turn : Turn) : Type 0 where
  pub state : State
  pub stands : IsAtState memory storage state
  pub started : state.started ≡ true
  pub read : IsRead command
  pub turn_is : turn ≡ command_turn most_bytes state (meant command)

-- the id has an object, and the name is bound
pub record ComesAfterFollow (new : List ℕ) (id : ℕ) (memory : Memory) (storage : Storage) (turn : Turn) : Type 0 where
  pub state : State
  pub stands : IsAtState memory storage state
  pub free : id_in state.names new ≡ None
  pub sound : IsSound turn.state
  pub turn_is : turn ≡ ok (bound state new id)

-- the objects that were loaded are in memory
abbrev pub ComesAfterLoading : Purpose → Memory → Storage → Turn → Type 0
ComesAfterLoading (purposes.Start command) memory storage turn = ComesAfterStart command memory storage turn
ComesAfterLoading (purposes.Follow new id) memory storage turn = ComesAfterFollow new id memory storage turn
