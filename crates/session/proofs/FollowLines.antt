-- The turn of `follow`, and what it comes to where the id is in memory.
use Rattle.std.proofs.Common.{◌≡◌, ℕ, Bool, true, false, cond, List, [], ◌∷◌, Option, Some, None, Ok, refl, sym, ap, ◌∙◌}
use Rattle.std.specs.Prelude.{◌==◌, is_none, is_some, nat_eq, unwrap_or}
use Rattle.std.proofs.lemmas.Bool.{eq-eqb, or_left}
use Rattle.graph_model.specs.Ids.{has}
use Rattle.graph_model.specs.Served.{Storage}
use Rattle.entity_form.specs.Values.{refs_of}
use Rattle.entity_form.specs.declared.value.Value.{Value}
use Rattle.entity_form.specs.declared.value.Value.TheVariants as values
use Rattle.session_model.specs.Instances.{Instance, Instances, has_instance, instance_at}
use Rattle.session_model.specs.Loading.{load}
use Rattle.session_model.specs.Answer.{State, Turn, Refusal, bound, follow_turn, id_in, is_bound, is_root_name, judged, loaded_turn, name_taken, no_target, ok, ref_in, reserved, value_of, with_loaded, wrong_kind}
use Rattle.session_model.specs.Sound.{IsSound}
use Rattle.session_model.proofs.Allowing.{named_to_load}
use Rattle.session_model.proofs.Setting.{named_by_value}
use Rattle.session_lines.specs.declared.memory.Memory.{Memory}
use Rattle.session_lines.specs.declared.outcome.Purpose.TheVariants as purposes
use Rattle.session_lines.specs.declared.refusal.Stop.{Stop}
use Rattle.session_lines.specs.declared.refusal.Stop.TheVariants.{Refused}
use Rattle.session_lines.specs.declared.refusal.Refusal.TheVariants as refusals
use Rattle.session.specs.LoadSteps.{IsFollowed}
use Rattle.session_lines.specs.Loads.{LoadsFor}
use Rattle.session_lines.specs.Places.{IsFree, IsMissing, IsNotFree, IsPlace}
use Rattle.session_lines.specs.Refusals.{IsRefusal}
use Rattle.session_lines.specs.Stands.{Stands, IsAtState}
use Rattle.session_lines.proofs.Found.{Finds, finds_it, found_goes_on, missing_refuses}
use Rattle.session_lines.proofs.Judged.{judged_first, judged_next}

-- ---- what is judged

-- what is left to judge of the value that the member has, and the effect
abbrev others : State → List ℕ → Option ℕ → List Refusal
others state new target = wrong_kind (is_none target) ∷ reserved (is_root_name new) ∷ name_taken (is_bound state new) ∷ no_target (unwrap_or target 0 == 0) ∷ []

abbrev effect : State → List ℕ → Option ℕ → Turn
effect state new target = loaded_turn state new (unwrap_or target 0) (with_loaded state (unwrap_or target 0))

pub missing_judged : (memory : Memory) (storage : Storage) (state : State) (name member new : List ℕ) (stop : Stop) → IsAtState memory storage state → state.started ≡ true
    → IsMissing memory.registry memory.types name member stop → IsRefusal state (follow_turn state name member new) stop
missing_judged memory storage state name member new stop at started missing =
    missing_refuses memory storage state name member (others state new (ref_in (value_of state name member))) (effect state new (ref_in (value_of state name member))) stop at.stands started missing

-- the member is there
follow_found : (memory : Memory) (storage : Storage) (state : State) (name member new : List ℕ) (id index : ℕ) (value : Value) (target : Option ℕ) → Stands memory storage state
    → IsPlace memory.registry memory.types name member id index value → target ≡ ref_in (Some value)
    → follow_turn state name member new ≡ judged state (others state new target) (effect state new target)
follow_found memory storage state name member new id index value target s place is =
    let f = finds_it memory storage state name member id index value s place in
    found_goes_on state name member id place.instance index value (others state new (ref_in (value_of state name member))) (effect state new (ref_in (value_of state name member))) f
    ∙ ap (λ (o : Option ℕ). judged state (others state new o) (effect state new o)) (ap ref_in f.value_is ∙ sym is)

pub other_kind_judged : (memory : Memory) (storage : Storage) (state : State) (name member new : List ℕ) (id index : ℕ) (value : Value) → IsAtState memory storage state
    → IsPlace memory.registry memory.types name member id index value → None ≡ ref_in (Some value) → IsRefusal state (follow_turn state name member new) (Refused refusals.WrongKind)
other_kind_judged memory storage state name member new id index value at place is = follow_found memory storage state name member new id index value None at.stands place is

bound_as : (memory : Memory) (storage : Storage) (state : State) (name : List ℕ) → Stands memory storage state → is_bound state name ≡ is_some (id_in memory.registry.names name)
bound_as memory storage state name s = ap (λ (o : Option ℕ). is_some o) (sym (s.names name))

pub not_free_judged : (memory : Memory) (storage : Storage) (state : State) (name member new : List ℕ) (id index : ℕ) (value : Value) (target : ℕ) (stop : Stop) → IsAtState memory storage state
    → IsPlace memory.registry memory.types name member id index value → Some target ≡ ref_in (Some value) → IsNotFree memory.registry new stop → IsRefusal state (follow_turn state name member new) stop
not_free_judged memory storage state name member new id index value target (Refused refusals.Reserved) at place is not_free =
    follow_found memory storage state name member new id index value (Some target) at.stands place is
    ∙ judged_first state (reserved (is_root_name new)) (name_taken (is_bound state new) ∷ no_target (target == 0) ∷ []) (effect state new (Some target)) not_free
not_free_judged memory storage state name member new id index value target (Refused refusals.NameTaken) at place is not_free =
    follow_found memory storage state name member new id index value (Some target) at.stands place is
    ∙ (judged_next state (reserved (is_root_name new)) (name_taken (is_bound state new) ∷ no_target (target == 0) ∷ []) (effect state new (Some target)) not_free.0
    ∙ judged_first state (name_taken (is_bound state new)) (no_target (target == 0) ∷ []) (effect state new (Some target)) (bound_as memory storage state new at.stands ∙ not_free.1))
not_free_judged memory storage state name member new id index value target _ at place is not_free = absurd not_free

-- the name is free too
follow_free : (memory : Memory) (storage : Storage) (state : State) (name member new : List ℕ) (id index : ℕ) (value : Value) (target : ℕ) → Stands memory storage state
    → IsPlace memory.registry memory.types name member id index value → Some target ≡ ref_in (Some value) → IsFree memory.registry new
    → follow_turn state name member new ≡ judged state (no_target (target == 0) ∷ []) (effect state new (Some target))
follow_free memory storage state name member new id index value target s place is free =
    follow_found memory storage state name member new id index value (Some target) s place is
    ∙ (judged_next state (reserved (is_root_name new)) (name_taken (is_bound state new) ∷ no_target (target == 0) ∷ []) (effect state new (Some target)) free.other
    ∙ judged_next state (name_taken (is_bound state new)) (no_target (target == 0) ∷ []) (effect state new (Some target)) (bound_as memory storage state new s ∙ ap (λ (o : Option ℕ). is_some o) free.free))

pub no_target_judged : (memory : Memory) (storage : Storage) (state : State) (name member new : List ℕ) (id index : ℕ) (value : Value) → IsAtState memory storage state
    → IsPlace memory.registry memory.types name member id index value → Some 0 ≡ ref_in (Some value) → IsFree memory.registry new → IsRefusal state (follow_turn state name member new) (Refused refusals.NoTarget)
no_target_judged memory storage state name member new id index value at place is free = follow_free memory storage state name member new id index value 0 at.stands place is free

-- what a member names, its object names
ref_is_named : (value : Value) (target : ℕ) → Some target ≡ ref_in (Some value) → has target (refs_of value) ≡ true
ref_is_named (values.Int n) target e = absurd cc
ref_is_named (values.Text t) target e = absurd cc
ref_is_named (values.Bytes b) target e = absurd cc
ref_is_named (values.Ref id) target e = or_left (nat_eq target id) false (eq-eqb target id cc)
ref_is_named (values.Lazy id) target e = or_left (nat_eq target id) false (eq-eqb target id cc)
ref_is_named (values.Refs ids) target e = absurd cc

pub target_judged : (memory : Memory) (storage : Storage) (state : State) (name member new : List ℕ) (id index : ℕ) (value : Value) (target : ℕ) → IsAtState memory storage state
    → IsPlace memory.registry memory.types name member id index value → Some target ≡ ref_in (Some value) → IsFree memory.registry new → nat_eq target 0 ≡ false
    → IsFollowed new target state (follow_turn state name member new)
target_judged memory storage state name member new id index value target at place is free other = record {
  free = sym (at.stands.names new) ∙ free.free;
  to_load = named_to_load state id place.instance target at.stands.sound f.names.here (named_by_value refs_of place.instance.object.values index value target f.stands (ref_is_named value target is)) other;
  turn_is = follow_free memory storage state name member new id index value target at.stands place is free ∙ judged_next state (no_target (target == 0)) [] (effect state new (Some target)) other;
}
  where
    f : Finds state name member id place.instance index value
    f = finds_it memory storage state name member id index value at.stands place

-- ---- what it comes to

-- the id has an object in the state where it has one in memory
pub as_in_memory : (memory : Memory) (storage : Storage) (state : State) (id : ℕ) (o : Option Instance) → IsAtState memory storage state → o ≡ instance_at memory.registry.instances id
    → has_instance state.instances id ≡ is_some o
as_in_memory memory storage state id o at is = ap (λ (hs : Instances). is_some (instance_at hs id)) (sym at.stands.instances) ∙ ap (λ (i : Option Instance). is_some i) (sym is)

-- where the id has an object the name is bound to it
pub followed_here : (state : State) (new : List ℕ) (id : ℕ) (turn : Turn) → IsFollowed new id state turn → has_instance state.instances id ≡ true → turn ≡ ok (bound state new id)
followed_here state new id turn f here =
    f.turn_is ∙ ap (λ (b : Bool). loaded_turn state new id (cond b (Ok state.instances) (load state.types state.pairs state.graph state.instances id))) here

-- where it has none it is loaded
pub followed_loads : (state : State) (new : List ℕ) (id : ℕ) (turn : Turn) → state.started ≡ true → IsFollowed new id state turn → IsSound turn.state → has_instance state.instances id ≡ false
    → LoadsFor (purposes.Follow new id) state id turn
followed_loads state new id turn started f sound absent = record {
  started = started;
  start_is = refl;
  to_load = f.to_load absent;
  free = f.free;
  sound = sound;
  turn_is = f.turn_is ∙ ap (λ (b : Bool). loaded_turn state new id (cond b (Ok state.instances) (load state.types state.pairs state.graph state.instances id))) absent;
}
