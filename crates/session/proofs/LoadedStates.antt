-- The state once objects are loaded: it is sound, and what is loaded is held too.
use Rattle.std.proofs.Common.{◌≡◌, ◌≤◌, ℕ, Bool, true, false, cond, ◌||◌, List, [], ◌∷◌, Some, Ok, Err, refl, sym, ap, ◌∙◌, subst}
use Rattle.std.specs.Prelude.{nat_eq}
use Rattle.graph_model.specs.Ids.{has, rises}
use Rattle.graph_model.specs.Graph.{lists}
use Rattle.graph_model.specs.Served.{OnlyHeldChanged, Storage}
use Rattle.graph_model.proofs.Places.{nat_eq-swap}
use Rattle.type_desc.specs.Root.{root_desc}
use Rattle.entity_form.specs.declared.value.Object.{Object}
use Rattle.session_model.specs.Instances.{Instances, held_ids, instance_at, put_instance}
use Rattle.session_model.specs.Loading.{load}
use Rattle.session_model.specs.Answer.{Binding, State, Turn, id_in, first_instances, fresh, loaded_turn, refused, started_turn}
use Rattle.session_model.specs.Sound.{IsSound, IsToLoad}
use Rattle.session_model.proofs.Allowing.{root_to_load}
use Rattle.session_model.proofs.Filling.{IsFilled, filled}
use Rattle.session_model.proofs.Finding.{at_put, ids_of, rises_put}
use Rattle.session_model.proofs.Holding.{held_exact, is_saved}
use Rattle.session_model.proofs.Starting.{begun_sound}
use Rattle.object_registry.specs.Registered.{Registered, loaded, put_loaded}
use Rattle.lazy_refs.specs.Walks.{loaded_ids}
use Rattle.script_text.specs.Meaning.{meant}
use Rattle.script_text.specs.declared.command.Command.{Command}
use Rattle.session_lines.specs.declared.memory.Memory.{Memory}
use Rattle.session_lines.specs.declared.outcome.Purpose.{Purpose}
use Rattle.session_lines.specs.declared.outcome.Purpose.TheVariants as purposes
use Rattle.session_lines.specs.Limits.{most_bytes}
use Rattle.session_lines.specs.Loads.{IsRead, LoadsFor}
use Rattle.session_lines.specs.Stands.{IsAtState}

-- ---- what is held

rises_put_loaded : (all : List (ℕ × Object)) (hs : Instances) → rises (ids_of hs) ≡ true → rises (ids_of (put_loaded all hs)) ≡ true
rises_put_loaded [] hs r = r
rises_put_loaded (p ∷ ps) hs r = rises_put p.0 (loaded p.1) (put_loaded ps hs) (rises_put_loaded ps hs r)

saved_put_loaded : (all : List (ℕ × Object)) (hs : Instances) (y : ℕ) → is_saved (instance_at (put_loaded all hs) y) ≡ (has y (loaded_ids all) || is_saved (instance_at hs y))
saved_put_loaded [] hs y = refl
saved_put_loaded (p ∷ ps) hs y = ap is_saved (at_put p.0 (loaded p.1) (put_loaded ps hs) y)
    ∙ (ap (λ (b : Bool). is_saved (cond b (Some (loaded p.1)) (instance_at (put_loaded ps hs) y))) (nat_eq-swap p.0 y) ∙ by (nat_eq y p.0) (saved_put_loaded ps hs y))
  where
    by : (b : Bool) → is_saved (instance_at (put_loaded ps hs) y) ≡ (has y (loaded_ids ps) || is_saved (instance_at hs y))
        → is_saved (cond b (Some (loaded p.1)) (instance_at (put_loaded ps hs) y)) ≡ ((b || has y (loaded_ids ps)) || is_saved (instance_at hs y))
    by true ih = refl
    by false ih = ih

held_put_loaded : (all : List (ℕ × Object)) (hs : Instances) (y : ℕ) → rises (ids_of hs) ≡ true → has y (held_ids (put_loaded all hs)) ≡ (has y (loaded_ids all) || has y (held_ids hs))
held_put_loaded all hs y r = held_exact (put_loaded all hs) y (rises_put_loaded all hs r)
    ∙ (saved_put_loaded all hs y ∙ ap (λ (b : Bool). has y (loaded_ids all) || b) (sym (held_exact hs y r)))

-- the objects are in memory, and the storage holds their ids
pub stands_loaded : (memory : Memory) (registry : Registered) (storage new : Storage) (state : State) (all : List (ℕ × Object)) (began : Bool) → IsAtState memory storage state → began ≡ true
    → registry.names ≡ memory.registry.names → registry.instances ≡ put_loaded all memory.registry.instances → IsSound (record state { instances = put_loaded all state.instances; started = began })
    → OnlyHeldChanged storage new → ((x : ℕ) → has x new.held ≡ (has x (loaded_ids all) || has x storage.held))
    → IsAtState (record memory { registry = registry; started = true }) new (record state { instances = put_loaded all state.instances; started = began })
stands_loaded memory registry storage new state all began at begins names is sound others held = record {
  stands = record {
    types = at.stands.types;
    pairs = at.stands.pairs;
    names = λ name. ap (λ (bs : List Binding). id_in bs name) names ∙ at.stands.names name;
    instances = is ∙ ap (put_loaded all) at.stands.instances;
    next_id = at.stands.next_id;
    started = sym begins;
    rooted = λ unbegun. absurd (cc (begins, unbegun));
    sound = sound;
    graph = others.graph ∙ at.stands.graph;
    number = others.number ∙ at.stands.number;
    stored_next = subst (λ (n : ℕ). n ≤ state.next_id) (sym others.next_id) at.stands.stored_next;
    records = others.types ∙ at.stands.records;
  };
  held = λ x. held x ∙ (ap (λ (b : Bool). has x (loaded_ids all) || b) (at.held x) ∙ sym (held_put_loaded all state.instances x at.stands.sound.order));
}

-- ---- the state is sound

pub loaded_sound : (state : State) (id : ℕ) (ks : Instances) → IsSound state → state.started ≡ true → load state.types state.pairs state.graph state.instances id ≡ Ok ks → IsSound (record state { instances = ks })
loaded_sound state id ks s started loads = record {
  types = s.types;
  pairs = s.pairs;
  root_spared = s.root_spared;
  low = s.low;
  high = s.high;
  graph = s.graph;
  order = f.order;
  each = f.each;
  distinct = s.distinct;
  root_name = s.root_name;
  bound = λ begun name x is. f.here x (s.bound begun name x is);
  root = λ begun. f.here 1 (s.root begun);
  unstarted = λ unbegun. absurd (cc (started, unbegun));
  unbound = λ unbegun. absurd (cc (started, unbegun));
}
  where
    f : IsFilled state.types state.next_id state.graph state.instances ks id
    f = filled state.types state.pairs state.next_id state.graph state.instances id ks s.types s.root_spared s.graph s.order s.each loads

-- what is loaded at the start is what the model's script begins with
pub first_loaded : (state : State) → IsSound state → state.started ≡ false → lists state.graph 1 ≡ true → first_instances state ≡ load state.types state.pairs state.graph state.instances 1
first_loaded state s unbegun there =
    ap (λ (b : Bool). cond b (load state.types state.pairs state.graph [] 1) (Ok (put_instance 1 (fresh 1 root_desc) []))) there
    ∙ ap (λ (hs : Instances). load state.types state.pairs state.graph hs 1) (sym (s.unstarted unbegun))

pub started_sound : (state : State) (ks : Instances) → IsSound state → state.started ≡ false → lists state.graph 1 ≡ true → load state.types state.pairs state.graph state.instances 1 ≡ Ok ks
    → IsSound (record state { instances = ks; started = true })
started_sound state ks s unbegun there loads = begun_sound state ks s unbegun (first_loaded state s unbegun there ∙ loads)

-- ---- what each purpose says

pub root_loads : (state : State) (command : Command) → IsSound state → state.started ≡ false → lists state.graph 1 ≡ true → IsRead command
    → LoadsFor (purposes.Start command) state 1 (started_turn most_bytes state (meant command) (first_instances state))
root_loads state command s unbegun there read = record {
  read = read;
  unstarted = unbegun;
  start_is = refl;
  rooted = there;
  turn_is = ap (started_turn most_bytes state (meant command)) (first_loaded state s unbegun there);
}

pub to_load : (purpose : Purpose) (state : State) (start : ℕ) (turn : Turn) → IsSound state → LoadsFor purpose state start turn → IsToLoad state start
to_load (purposes.Start command) state start turn s l = subst (IsToLoad state) (sym l.start_is) (root_to_load state s l.unstarted l.rooted)
to_load (purposes.Follow new id) state start turn s l = subst (IsToLoad state) (sym l.start_is) l.to_load

-- the turn is the refusal with which the model refuses to load
pub load_refused : (purpose : Purpose) (state : State) (start : ℕ) (turn : Turn) (code : List ℕ) → LoadsFor purpose state start turn → load state.types state.pairs state.graph state.instances start ≡ Err code
    → turn ≡ refused state code
load_refused (purposes.Start command) state start turn code l e =
    l.turn_is ∙ ap (started_turn most_bytes state (meant command)) (ap (load state.types state.pairs state.graph state.instances) (sym l.start_is) ∙ e)
load_refused (purposes.Follow new id) state start turn code l e = l.turn_is ∙ ap (loaded_turn state new id) (ap (load state.types state.pairs state.graph state.instances) (sym l.start_is) ∙ e)
