-- A loading in memory is one in the state of the model.
use Rattle.std.proofs.Common.{ℕ, List, Some, sym, ap, ◌∙◌, subst}
use Rattle.graph_model.specs.Graph.{Graph, entity_of}
use Rattle.graph_model.specs.declared.entity.Entity.{Entity}
use Rattle.graph_model.specs.Served.{Storage}
use Rattle.type_desc.specs.declared.desc.TypeDesc.{TypeDesc}
use Rattle.refactor_table.specs.declared.name.Pair.{Pair}
use Rattle.session_model.specs.Instances.{Instances}
use Rattle.session_model.specs.Answer.{State, Turn}
use Rattle.session_model.specs.WellFormed.{IsWellFormed}
use Rattle.lazy_refs.specs.Mappings.{AreMappings}
use Rattle.lazy_refs.specs.Steps.{IsBrokenAtAsked, IsGiven, IsLoading, IsStep}
use Rattle.lazy_refs.specs.Walks.{Progress}
use Rattle.lazy_refs.specs.declared.step.LoadStep.{LoadStep}
use Rattle.session_lines.specs.declared.memory.Memory.{Memory}
use Rattle.session_lines.specs.declared.outcome.Purpose.{Purpose}
use Rattle.session.specs.LoadSteps.{IsLoadedFor, IsWhole, TakesStep}
use Rattle.session_lines.specs.Loads.{LoadsFor, TakesEntity}
use Rattle.session_lines.specs.Stands.{Stands, IsAtState}
use Rattle.session.proofs.LoadCounts.{whole_next}

-- what is said of the types, the pairs and the objects in memory, said of the state
in_state : (memory : Memory) (storage : Storage) (state : State) (P : List TypeDesc → List Pair → Instances → Type 0) → Stands memory storage state
    → P memory.types memory.table memory.registry.instances → P state.types state.pairs state.instances
in_state memory storage state P s h = subst (λ (types : List TypeDesc). P types state.pairs state.instances) s.types
    (subst (λ (pairs : List Pair). P memory.types pairs state.instances) s.pairs (subst (λ (hs : Instances). P memory.types memory.table hs) s.instances h))

-- and the other way round
in_memory : (memory : Memory) (storage : Storage) (state : State) (P : List TypeDesc → List Pair → Instances → Type 0) → Stands memory storage state
    → P state.types state.pairs state.instances → P memory.types memory.table memory.registry.instances
in_memory memory storage state P s h = subst (λ (types : List TypeDesc). P types memory.table memory.registry.instances) (sym s.types)
    (subst (λ (pairs : List Pair). P state.types pairs memory.registry.instances) (sym s.pairs) (subst (λ (hs : Instances). P state.types state.pairs hs) (sym s.instances) h))

-- the first step
pub takes_first : (memory : Memory) (storage : Storage) (state : State) (due : Turn) (purpose : Purpose) (id : ℕ) (new : Progress) (step : LoadStep) → IsAtState memory storage state → LoadsFor purpose state id due
    → IsStep memory.types memory.table memory.registry.instances state.graph id new step → IsWhole step → AreMappings memory.types memory.table new.mappings → TakesStep purpose new step memory storage due
takes_first memory storage state due purpose id new step at loads is whole mappings = record {
  loaded_for = record { state = state; stands = at; start = id; loads = loads };
  step_is = in_state memory storage state (λ types pairs hs. IsStep types pairs hs state.graph id new step) at.stands is;
  whole = whole;
  mappings = mappings;
}

-- the walk and the entity, as a loading in memory takes them
pub walk_goes_on : (memory : Memory) (storage : Storage) (due : Turn) (purpose : Purpose) (loading : Progress) (entity : Entity) → (t : TakesEntity purpose loading entity memory storage due)
    → IsLoading memory.types memory.table memory.registry.instances t.loading_for.state.graph t.loading_for.start loading
walk_goes_on memory storage due purpose loading entity t = let l = t.loading_for in
    in_memory memory storage l.state (λ types pairs hs. IsLoading types pairs hs l.state.graph l.start loading) l.stands.stands l.walk

pub entity_given : (memory : Memory) (storage : Storage) (due : Turn) (purpose : Purpose) (loading : Progress) (entity : Entity) → (t : TakesEntity purpose loading entity memory storage due)
    → IsGiven t.loading_for.state.graph loading (Some entity)
entity_given memory storage due purpose loading entity t = ap (λ (g : Graph). entity_of g loading.asked) (sym t.loading_for.stands.stands.graph) ∙ t.given

-- the step behind an entity
pub takes_next : (memory : Memory) (storage : Storage) (due : Turn) (purpose : Purpose) (loading new : Progress) (entity : Entity) (step : LoadStep) → (t : TakesEntity purpose loading entity memory storage due)
    → IsStep memory.types memory.table memory.registry.instances t.loading_for.state.graph t.loading_for.start new step → IsBrokenAtAsked memory.types loading (Some entity) step
    → AreMappings memory.types memory.table new.mappings → TakesStep purpose new step memory storage due
takes_next memory storage due purpose loading new entity step t is broken mappings = record {
  loaded_for = from;
  step_is = in_state memory storage from.state (λ types pairs hs. IsStep types pairs hs from.state.graph from.start new step) from.stands.stands is;
  whole = whole_next memory.types loading entity step form broken;
  mappings = mappings;
}
  where
    from : IsLoadedFor purpose memory storage due
    from = record { state = t.loading_for.state; stands = t.loading_for.stands; start = t.loading_for.start; loads = t.loading_for.loads }

    form : IsWellFormed memory.types loading.asked entity
    form = subst (λ (types : List TypeDesc). IsWellFormed types loading.asked entity) (sym from.stands.stands.types)
        (from.stands.stands.sound.graph.forms loading.asked entity (entity_given memory storage due purpose loading entity t))
