-- The asks of a loading, and what is due once each reply is there.
use Rattle.std.proofs.Common.{◌≡◌, ℕ, Bool, true, ◌||◌, List, Ok, Err, refl, sym, ap, ◌∙◌, subst}
use Rattle.graph_model.specs.Ids.{has}
use Rattle.graph_model.specs.Graph.{Graph, entity_of}
use Rattle.graph_model.specs.declared.ask.Ask.TheVariants as asks
use Rattle.graph_model.specs.declared.ask.Reply.{Reply}
use Rattle.graph_model.specs.Served.{IsKept, IsSame, MayAsk, OnlyHeldChanged, Served, Storage, may_hold_all}
use Rattle.entity_form.specs.declared.value.Object.{Object}
use Rattle.session_model.specs.Instances.{held_ids}
use Rattle.session_model.specs.Loading.{load}
use Rattle.session_model.specs.Answer.{State, Turn, loaded_turn, started_turn}
use Rattle.session_model.proofs.Asking.{ask_stays_allowed}
use Rattle.object_registry.specs.Registered.{Registered, put_loaded}
use Rattle.lazy_refs.specs.Steps.{IsStep}
use Rattle.lazy_refs.specs.Walks.{Progress, loaded_ids}
use Rattle.lazy_refs.specs.declared.step.LoadStep.{LoadStep}
use Rattle.lazy_refs.specs.declared.step.LoadStep.TheVariants as steps
use Rattle.script_text.specs.Meaning.{meant}
use Rattle.session_lines.specs.declared.memory.Memory.{Memory}
use Rattle.session_lines.specs.declared.outcome.Outcome.{Outcome}
use Rattle.session_lines.specs.declared.outcome.Outcome.TheVariants as outcomes
use Rattle.session_lines.specs.declared.outcome.Phase.TheVariants as phases
use Rattle.session_lines.specs.declared.outcome.Purpose.{Purpose}
use Rattle.session_lines.specs.declared.outcome.Purpose.TheVariants as purposes
use Rattle.session_lines.specs.declared.refusal.Refusal.{Refusal}
use Rattle.session_lines.specs.declared.refusal.Refusal.TheVariants as refusals
use Rattle.session_lines.specs.declared.refusal.Stop.TheVariants.{Refused}
use Rattle.session_lines.specs.Due.{Awaits, Meets, Replied}
use Rattle.session_lines.specs.Limits.{most_bytes}
use Rattle.session.specs.LoadSteps.{EndsBy, IsEnd, IsFailed, IsFailure, IsLast, IsLoadedFor, IsWhole, TakesAll, TakesStep}
use Rattle.session_lines.specs.Loads.{ComesAfterLoading, LoadsFor}
use Rattle.session_lines.specs.Refusals.{code_of, refused_text}
use Rattle.session_lines.specs.Stands.{IsAtState}
use Rattle.session_lines.proofs.Asks.{stands_same}
use Rattle.session.proofs.LoadWalks.{asked_is_kept, outward_may_be_held}
use Rattle.session.proofs.LoadedStates.{load_refused, loaded_sound, stands_loaded, started_sound, to_load}
use Rattle.session_lines.proofs.Told.{says_refusal}

-- the storage as the model has it
abbrev by_model : Storage → State → Storage
by_model storage state = record storage { graph = state.graph; held = held_ids state.instances }

same_by_model : (memory : Memory) (storage : Storage) (state : State) → IsAtState memory storage state → IsSame (by_model storage state) storage
same_by_model memory storage state at = record { others = record { graph = at.stands.graph; number = refl; next_id = refl; types = refl }; held = at.held }

pub look_awaits : (is_next_type : List (List ℕ) → List ℕ → Bool) (purpose : Purpose) (loading : Progress) (id : ℕ) (memory : Memory) (storage : Storage) (turn : Turn)
    → TakesStep purpose loading (steps.Want id) memory storage turn → Awaits is_next_type (asks.Look id) (phases.Looking loading purpose) memory storage turn
look_awaits is_next_type purpose loading id memory storage turn t = record { may = may; due = tt; suits = t.step_is.0; then_ = replied }
  where
    from : IsLoadedFor purpose memory storage turn
    from = t.loaded_for

    kept : IsKept from.state.graph (held_ids from.state.instances) id
    kept = subst (IsKept from.state.graph (held_ids from.state.instances)) t.step_is.0
        (asked_is_kept from.state from.start loading from.stands.stands.sound (to_load purpose from.state from.start turn from.stands.stands.sound from.loads) t.step_is.1)

    may : MayAsk is_next_type storage (asks.Look id)
    may = ask_stays_allowed is_next_type (by_model storage from.state) storage (asks.Look id) (same_by_model memory storage from.state from.stands) kept

    replied : (reply : Reply) (new : Storage) → Served storage (asks.Look id) reply new → Replied (phases.Looking loading purpose) reply memory new turn
    replied reply new served = subst (λ (r : Reply). Replied (phases.Looking loading purpose) r memory new turn) (sym served.reply_is) (record {
      loading_for = record {
        state = from.state;
        stands = stands_same memory storage new from.state from.stands served.same;
        start = from.start;
        walk = t.step_is.1;
        mappings = t.mappings;
        loads = from.loads;
      };
      given = ap (λ (g : Graph). entity_of g loading.asked) served.same.others.graph ∙ (ap (entity_of storage.graph) t.step_is.0 ∙ served.found);
    })

-- the objects are in memory and held
goes_on : (purpose : Purpose) (all : List (ℕ × Object)) (memory : Memory) (registry : Registered) (storage new : Storage) (turn : Turn) (state : State) (start : ℕ) → IsAtState memory storage state
    → LoadsFor purpose state start turn → load state.types state.pairs state.graph state.instances start ≡ Ok (put_loaded all state.instances)
    → registry.names ≡ memory.registry.names → registry.instances ≡ put_loaded all memory.registry.instances
    → OnlyHeldChanged storage new → ((x : ℕ) → has x new.held ≡ (has x (loaded_ids all) || has x storage.held))
    → ComesAfterLoading purpose (record memory { registry = registry; started = true }) new turn
goes_on (purposes.Start command) all memory registry storage new turn state start at l loads names is others held = record {
  state = record state { instances = put_loaded all state.instances; started = true };
  stands = stands_loaded memory registry storage new state all true at refl names is (started_sound state (put_loaded all state.instances) at.stands.sound l.unstarted l.rooted from_root) others held;
  started = refl;
  read = l.read;
  turn_is = l.turn_is ∙ ap (started_turn most_bytes state (meant command)) from_root;
}
  where
    from_root : load state.types state.pairs state.graph state.instances 1 ≡ Ok (put_loaded all state.instances)
    from_root = ap (load state.types state.pairs state.graph state.instances) (sym l.start_is) ∙ loads
goes_on (purposes.Follow name id) all memory registry storage new turn state start at l loads names is others held = record {
  state = record state { instances = put_loaded all state.instances };
  stands = stands_loaded memory registry storage new state all state.started at l.started names is (loaded_sound state start (put_loaded all state.instances) at.stands.sound l.started loads) others held;
  free = l.free;
  sound = l.sound;
  turn_is = l.turn_is ∙ ap (loaded_turn state name id) (ap (load state.types state.pairs state.graph state.instances) (sym l.start_is) ∙ loads);
}

pub hold_awaits : (is_next_type : List (List ℕ) → List ℕ → Bool) (purpose : Purpose) (all : List (ℕ × Object)) (ids : List ℕ) (memory : Memory) (registry : Registered) (storage : Storage) (turn : Turn)
    → TakesAll purpose all memory storage turn → ids ≡ loaded_ids all → registry.names ≡ memory.registry.names → registry.instances ≡ put_loaded all memory.registry.instances
    → Awaits is_next_type (asks.Hold ids) (phases.Holding purpose) (record memory { registry = registry; started = true }) storage turn
hold_awaits is_next_type purpose all ids memory registry storage turn t ids_are names is =
    subst (λ (xs : List ℕ). Awaits is_next_type (asks.Hold xs) (phases.Holding purpose) (record memory { registry = registry; started = true }) storage turn) (sym ids_are)
    (record { may = may; due = tt; suits = tt; then_ = replied })
  where
    from : IsLoadedFor purpose memory storage turn
    from = t.loaded_for

    allowed : may_hold_all from.state.graph (held_ids from.state.instances) (loaded_ids all) ≡ true
    allowed = outward_may_be_held from.state from.start (loaded_ids all) from.stands.stands.sound (to_load purpose from.state from.start turn from.stands.stands.sound from.loads) t.ready.outward

    may : MayAsk is_next_type storage (asks.Hold (loaded_ids all))
    may = ask_stays_allowed is_next_type (by_model storage from.state) storage (asks.Hold (loaded_ids all)) (same_by_model memory storage from.state from.stands) allowed

    replied : (reply : Reply) (new : Storage) → Served storage (asks.Hold (loaded_ids all)) reply new → Replied (phases.Holding purpose) reply (record memory { registry = registry; started = true }) new turn
    replied reply new served = subst (λ (r : Reply). Replied (phases.Holding purpose) r (record memory { registry = registry; started = true }) new turn) (sym served.reply_is)
        (goes_on purpose all memory registry storage new turn from.state from.start from.stands from.loads t.ready.loads names is served.others served.held)

-- ---- the last step

-- the refusal is what is due
refusal_met : (is_next_type : List (List ℕ) → List ℕ → Bool) (purpose : Purpose) (refusal : Refusal) (outcome : Outcome) (memory : Memory) (storage : Storage) (turn : Turn) → (from : IsLoadedFor purpose memory storage turn)
    → load from.state.types from.state.pairs from.state.graph from.state.instances from.start ≡ Err (code_of refusal) → outcome ≡ outcomes.Answer (refused_text refusal)
    → Meets is_next_type outcome memory storage turn
refusal_met is_next_type purpose refusal outcome memory storage turn from refuses is = subst (λ (o : Outcome). Meets is_next_type o memory storage turn) (sym is)
    (says_refusal (Refused refusal) memory storage from.state turn from.stands (load_refused purpose from.state from.start turn (code_of refusal) from.loads refuses))

pub failure_met : (is_next_type : List (List ℕ) → List ℕ → Bool) (purpose : Purpose) (step : LoadStep) (outcome : Outcome) (memory : Memory) (storage : Storage) (turn : Turn) → EndsBy purpose step memory storage turn
    → IsFailure step outcome → Meets is_next_type outcome memory storage turn
failure_met is_next_type purpose (steps.Want id) outcome memory storage turn e is = absurd is
failure_met is_next_type purpose (steps.Ready all) outcome memory storage turn e is = absurd is
failure_met is_next_type purpose (steps.NoType id) outcome memory storage turn e is = refusal_met is_next_type purpose refusals.NoType outcome memory storage turn e.loaded_for e.end_is is
failure_met is_next_type purpose (steps.WrongKind id) outcome memory storage turn e is = refusal_met is_next_type purpose refusals.WrongKind outcome memory storage turn e.loaded_for e.end_is is
failure_met is_next_type purpose (steps.Broken id) outcome memory storage turn e is = absurd e.end_is

-- a step that is the last ends the loading
end_of : (state : State) (start : ℕ) (loading : Progress) (step : LoadStep) → IsLast step → IsStep state.types state.pairs state.instances state.graph start loading step → IsWhole step → IsEnd state start step
end_of state start loading (steps.Want id) last is whole = absurd last
end_of state start loading (steps.Ready all) last is whole = is
end_of state start loading (steps.NoType id) last is whole = is.refuses
end_of state start loading (steps.WrongKind id) last is whole = is.refuses
end_of state start loading (steps.Broken id) last is whole = absurd whole

pub ends_by : (purpose : Purpose) (loading : Progress) (step : LoadStep) (memory : Memory) (storage : Storage) (turn : Turn) → IsLast step → TakesStep purpose loading step memory storage turn
    → EndsBy purpose step memory storage turn
ends_by purpose loading step memory storage turn last t = record { loaded_for = t.loaded_for; end_is = end_of t.loaded_for.state t.loaded_for.start loading step last t.step_is t.whole }

-- every step but one that asks for an id is the last
pub is_last : (step : LoadStep) → ((id : ℕ) → step ≡ steps.Want id → ⊥) → IsLast step
is_last (steps.Want id) other = other id refl
is_last (steps.Ready all) other = tt
is_last (steps.NoType id) other = tt
is_last (steps.WrongKind id) other = tt
is_last (steps.Broken id) other = tt

-- and fails, unless all objects are ready
pub is_failed : (step : LoadStep) → IsLast step → ((all : List (ℕ × Object)) → step ≡ steps.Ready all → ⊥) → IsFailed step
is_failed (steps.Want id) last other = last
is_failed (steps.Ready all) last other = other all refl
is_failed (steps.NoType id) last other = tt
is_failed (steps.WrongKind id) last other = tt
is_failed (steps.Broken id) last other = tt
