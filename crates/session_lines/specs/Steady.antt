-- What a session keeps for itself, whatever a storage answers.
use Rattle.std.specs.Prelude.{◌<◌, ◌^◌, ℕ, Option, Some, None}
use Rattle.lazy_refs.specs.Advances.{IsAskedNext, IsUndone, IsUndoneNext}
use Rattle.lazy_refs.specs.Mappings.{AreMappings, AreTypedIn}
use Rattle.lazy_refs.specs.Steps.{IsTypedStep}
use Rattle.lazy_refs.specs.Walks.{Progress}
use Rattle.lazy_refs.specs.declared.step.LoadStep.{LoadStep}
use Rattle.storer.specs.Gathered.{AreKnown}
use Rattle.session_lines.specs.Due.{SuitsPhase}
use Rattle.session_lines.specs.Loads.{IsRead}
use Rattle.session_lines.specs.Namings.{IsUnbound}
use Rattle.session_lines.specs.declared.memory.Memory.{Memory}
use Rattle.session_lines.specs.declared.outcome.Outcome.{Outcome}
use Rattle.session_lines.specs.declared.outcome.Outcome.TheVariants as outcomes
use Rattle.session_lines.specs.declared.outcome.Phase.{Phase}
use Rattle.session_lines.specs.declared.outcome.Phase.TheVariants as phases
use Rattle.session_lines.specs.declared.outcome.Purpose.{Purpose}
use Rattle.session_lines.specs.declared.outcome.Purpose.TheVariants as purposes
use Rattle.session_lines.specs.declared.outcome.Waiting.{Waiting}
use Rattle.session_lines.specs.declared.outcome.Waiting.TheVariants as waits

-- each object in memory is of a known type and has values of its kinds
abbrev pub KnowsObjects : Memory → Type 0
KnowsObjects memory = AreKnown memory.types memory.registry.instances

-- the command was read from a line; the name is free
abbrev pub IsSteadyPurpose : Memory → Purpose → Type 0
IsSteadyPurpose memory (purposes.Start command) = IsRead command
IsSteadyPurpose memory (purposes.Follow new id) = IsUnbound memory.registry new

-- what is loaded goes by the types and the pairs in memory, and no id is asked for twice
pub record IsSteadyLoading (memory : Memory) (loading : Progress) : Type 0 where
  pub mappings : AreMappings memory.types memory.table loading.mappings
  pub typed : AreTypedIn memory.types loading.loaded
  pub undone : IsUndone loading
  pub small : loading.asked < 2 ^ 64

-- what a step of the loading leaves
pub record IsSteadyStep (memory : Memory) (loading : Progress) (step : LoadStep) (purpose : Purpose) : Type 0 where
  pub mappings : AreMappings memory.types memory.table loading.mappings
  pub typed : IsTypedStep memory.types loading step
  pub asks : IsAskedNext loading step
  pub undone : IsUndoneNext loading step
  pub steady : IsSteadyPurpose memory purpose

-- an id is asked for, a number of 64 bits
abbrev pub IsSmallId : Option ℕ → Type 0
IsSmallId None = ⊥
IsSmallId (Some id) = id < 2 ^ 64

-- what a phase keeps while its reply is waited for: an export has asked for an id
abbrev pub IsSteadyPhase : Memory → Phase → Type 0
IsSteadyPhase memory (phases.Looking loading purpose) = IsSteadyLoading memory loading × IsSteadyPurpose memory purpose
IsSteadyPhase memory (phases.Holding purpose) = IsSteadyPurpose memory purpose
IsSteadyPhase memory (phases.Exporting export) = IsSmallId export.asked
IsSteadyPhase memory _ = Unit {0}

-- what is asked is what the phase waits for, and the phase is steady
abbrev pub IsSteadyOutcome : Memory → Outcome → Type 0
IsSteadyOutcome memory (outcomes.Ask ask phase) = SuitsPhase ask phase × IsSteadyPhase memory phase
IsSteadyOutcome memory _ = Unit {0}

-- what a session keeps while it waits
abbrev pub IsSteadyWaiting : Memory → Waiting → Type 0
IsSteadyWaiting memory (waits.ForReply phase) = IsSteadyPhase memory phase
IsSteadyWaiting memory _ = Unit {0}
