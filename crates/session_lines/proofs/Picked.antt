-- The turns of `pick` and `new`.
use Rattle.std.proofs.Common.{◌≡◌, ◌<◌, ◌≤◌, ℕ, ◌+◌, Bool, true, false, ◌||◌, List, [], ◌∷◌, ◌++◌, Option, Some, None, Result, Ok, Err, ap, ◌∙◌, refl, sym, subst, arith, length}
use Rattle.std.specs.Prelude.{◌^◌, ◌==◌, codes, is_none, is_some, map, nat_le, slice_get, unwrap_or}
use Rattle.std.specs.Fmt.{decimal}
use Rattle.std.proofs.lemmas.Bool.Decides.{nat_tests}
use Rattle.type_desc.specs.declared.desc.TypeDesc.{TypeDesc}
use Rattle.type_dictionary.specs.Latest.{desc_of, latest_of}
use Rattle.entity_form.specs.Values.{default_of, kinds_of}
use Rattle.entity_form.specs.declared.value.Object.{Object}
use Rattle.entity_form.specs.declared.value.Value.{Value}
use Rattle.graph_model.specs.Served.{Storage}
use Rattle.session_model.specs.Types.{desc_at, is_root_type}
use Rattle.session_model.specs.Instances.{Instance, put_instance}
use Rattle.session_model.specs.Answer.{State, Turn, Refusal, answered, bound, fresh, id_in, is_bound, is_full, is_root_name, judged, name_taken, new_turn, no_desc, no_target, no_type, ok, out_of_range, pick_turn, refs_in, reserved, value_of, wrong_kind}
use Rattle.object_registry.specs.Registered.{unsaved}
use Rattle.session_lines.specs.declared.memory.Memory.{Memory}
use Rattle.session_lines.specs.declared.refusal.Stop.{Stop}
use Rattle.session_lines.specs.declared.refusal.Stop.TheVariants.{Refused, NoMemory}
use Rattle.session_lines.specs.declared.refusal.Refusal.TheVariants as refusals
use Rattle.session_lines.specs.Namings.{IsFreshObject, IsMaking, IsNaming, IsOpen, IsTargetAt}
use Rattle.session_lines.specs.Places.{IsFree, IsPlace}
use Rattle.session_lines.specs.Stands.{Stands, IsAtState}
use Rattle.session_lines.proofs.Found.{Finds, finds_it, found_goes_on}
use Rattle.session_lines.proofs.Judged.{judged_next}

-- ---- `pick`

free_in : (memory : Memory) (storage : Storage) (state : State) (name : List ℕ) → Stands memory storage state → id_in memory.registry.names name ≡ None → is_bound state name ≡ false
free_in memory storage state name s none = ap (λ (o : Option ℕ). is_some o) (sym (s.names name) ∙ none)

picked : (state : State) (name member new : List ℕ) (n : ℕ) (id : ℕ) (i : Instance) (index : ℕ) (old : Value) (ids : List ℕ) (target : ℕ) → Finds state name member id i index old → refs_in (Some old) ≡ Some ids
    → n < length ids → slice_get ids n ≡ Some target → is_root_name new ≡ false → is_bound state new ≡ false
    → pick_turn state name member n new ≡ judged state (no_target (target == 0) ∷ []) (ok (bound state new target))
picked state name member new n id i index old ids target f refs below at other free =
    found_goes_on state name member id i index old (others (refs_in (value_of state name member))) (ok (bound state new (unwrap_or (slice_get (unwrap_or (refs_in (value_of state name member)) []) n) 0))) f
    ∙ (ap (λ (r : Option (List ℕ)). judged state (others r) (ok (bound state new (unwrap_or (slice_get (unwrap_or r []) n) 0)))) (ap refs_in f.value_is ∙ refs)
    ∙ (judged_next state (out_of_range (nat_le (length ids) n)) (reserved (is_root_name new) ∷ name_taken (is_bound state new) ∷ no_target (unwrap_or (slice_get ids n) 0 == 0) ∷ []) (ok (bound state new (unwrap_or (slice_get ids n) 0))) within
    ∙ (judged_next state (reserved (is_root_name new)) (name_taken (is_bound state new) ∷ no_target (unwrap_or (slice_get ids n) 0 == 0) ∷ []) (ok (bound state new (unwrap_or (slice_get ids n) 0))) other
    ∙ (judged_next state (name_taken (is_bound state new)) (no_target (unwrap_or (slice_get ids n) 0 == 0) ∷ []) (ok (bound state new (unwrap_or (slice_get ids n) 0))) free
    ∙ ap (λ (o : Option ℕ). judged state (no_target (unwrap_or o 0 == 0) ∷ []) (ok (bound state new (unwrap_or o 0)))) at))))
  where
    others : Option (List ℕ) → List Refusal
    others r = wrong_kind (is_none r) ∷ out_of_range (nat_le (length (unwrap_or r [])) n) ∷ reserved (is_root_name new) ∷ name_taken (is_bound state new) ∷ no_target (unwrap_or (slice_get (unwrap_or r []) n) 0 == 0) ∷ []

    within : nat_le (length ids) n ≡ false
    within = grind (arith, nat_tests)

pub pick_judged : (memory : Memory) (storage : Storage) (state : State) (name member new : List ℕ) (n at : ℕ) (id index : ℕ) (old : Value) (ids : List ℕ) (result : Result ℕ Stop) → IsAtState memory storage state
    → IsPlace memory.registry memory.types name member id index old → Some ids ≡ refs_in (Some old) → at ≡ n → at < length ids → IsFree memory.registry new → IsTargetAt ids at result
    → IsNaming new result state (pick_turn state name member n new)
pick_judged memory storage state name member new n at id index old ids (Ok target) stands place refs same below free is =
    picked state name member new n id place.instance index old ids target (finds_it memory storage state name member id index old stands.stands place) (sym refs) (subst (λ (k : ℕ). k < length ids) same below)
    (subst (λ (k : ℕ). slice_get ids k ≡ Some target) same is.0) free.other (free_in memory storage state new stands.stands free.free)
    ∙ judged_next state (no_target (target == 0)) [] (ok (bound state new target)) is.1
pick_judged memory storage state name member new n at id index old ids (Err (Refused refusals.NoTarget)) stands place refs same below free is =
    picked state name member new n id place.instance index old ids 0 (finds_it memory storage state name member id index old stands.stands place) (sym refs) (subst (λ (k : ℕ). k < length ids) same below)
    (subst (λ (k : ℕ). slice_get ids k ≡ Some 0) same is) free.other (free_in memory storage state new stands.stands free.free)
pick_judged memory storage state name member new n at id index old ids (Err _) stands place refs same below free is = absurd is

-- ---- `new`

-- what is left to judge where the name is open
makes : (state : State) (name type_name : List ℕ) (latest : Option ℕ) (full : Bool) → (is_root_name name || is_root_type type_name) ≡ false → is_bound state name ≡ false → latest_of state.types type_name ≡ latest
    → nat_le (2 ^ 48) state.next_id ≡ full
    → new_turn state name type_name ≡ judged state (no_type (is_none latest) ∷ is_full full ∷ [])
    (answered (record (bound state name state.next_id) { next_id = state.next_id + 1; instances = put_instance state.next_id (fresh (unwrap_or latest 0) (unwrap_or (desc_at state.types latest) no_desc)) state.instances }) (codes "new " ++ decimal state.next_id))
makes state name type_name latest full other free is f =
    judged_next state (reserved (is_root_name name || is_root_type type_name)) (name_taken (is_bound state name) ∷ no_type (is_none (latest_of state.types type_name)) ∷ is_full (nat_le (2 ^ 48) state.next_id) ∷ []) (effect (latest_of state.types type_name)) other
    ∙ (judged_next state (name_taken (is_bound state name)) (no_type (is_none (latest_of state.types type_name)) ∷ is_full (nat_le (2 ^ 48) state.next_id) ∷ []) (effect (latest_of state.types type_name)) free
    ∙ (ap (λ (o : Option ℕ). judged state (no_type (is_none o) ∷ is_full (nat_le (2 ^ 48) state.next_id) ∷ []) (effect o)) is
    ∙ ap (λ (b : Bool). judged state (no_type (is_none latest) ∷ is_full b ∷ []) (effect latest)) f))
  where
    effect : Option ℕ → Turn
    effect o = answered (record (bound state name state.next_id) { next_id = state.next_id + 1; instances = put_instance state.next_id (fresh (unwrap_or o 0) (unwrap_or (desc_at state.types o) no_desc)) state.instances }) (codes "new " ++ decimal state.next_id)

pub no_type_judged : (memory : Memory) (storage : Storage) (state : State) (name type_name : List ℕ) → IsAtState memory storage state → IsOpen memory.registry name type_name → latest_of memory.types type_name ≡ None
    → IsMaking name (Err (Refused refusals.NoType)) state (new_turn state name type_name)
no_type_judged memory storage state name type_name at open_ none =
    makes state name type_name None (nat_le (2 ^ 48) state.next_id) open_.other (free_in memory storage state name at.stands open_.free) (ap (λ (types : List TypeDesc). latest_of types type_name) (sym at.stands.types) ∙ none) refl

pub full_judged : (memory : Memory) (storage : Storage) (state : State) (name type_name : List ℕ) (type_id : ℕ) → IsAtState memory storage state → IsOpen memory.registry name type_name → latest_of memory.types type_name ≡ Some type_id
    → 2 ^ 48 ≤ memory.next_id → IsMaking name (Err (Refused refusals.Full)) state (new_turn state name type_name)
full_judged memory storage state name type_name type_id at open_ is high =
    makes state name type_name (Some type_id) true open_.other (free_in memory storage state name at.stands open_.free) (ap (λ (types : List TypeDesc). latest_of types type_name) (sym at.stands.types) ∙ is) full
  where
    full : nat_le (2 ^ 48) state.next_id ≡ true
    full = let same = at.stands.next_id in grind (arith, nat_tests)

pub new_judged : (memory : Memory) (storage : Storage) (state : State) (name type_name : List ℕ) (type_id : ℕ) (result : Result Object Stop) → IsAtState memory storage state → IsOpen memory.registry name type_name
    → latest_of memory.types type_name ≡ Some type_id → memory.next_id < 2 ^ 48 → IsFreshObject memory.types type_id result → IsMaking name result state (new_turn state name type_name)
new_judged memory storage state name type_name type_id (Ok object) at open_ is low made =
    makes state name type_name (Some type_id) false open_.other (free_in memory storage state name at.stands open_.free) (ap (λ (types : List TypeDesc). latest_of types type_name) (sym at.stands.types) ∙ is) room
    ∙ (ap (λ (o : Option TypeDesc). effect (fresh type_id (unwrap_or o no_desc))) (ap (λ (types : List TypeDesc). desc_of types type_id) (sym at.stands.types) ∙ made.known)
    ∙ ap (λ (o : Object). effect (unsaved o)) (sym object_is))
  where
    room : nat_le (2 ^ 48) state.next_id ≡ false
    room = let same = at.stands.next_id in grind (arith, nat_tests)

    effect : Instance → Turn
    effect i = answered (record (bound state name state.next_id) { next_id = state.next_id + 1; instances = put_instance state.next_id i state.instances }) (codes "new " ++ decimal state.next_id)

    object_is : object ≡ record { type_id = type_id; values = map default_of (kinds_of made.desc) }
    object_is = ap (λ (t : ℕ). with_type t object.values) made.type_is ∙ ap (with_type type_id) made.defaults
      where
        with_type : ℕ → List Value → Object
        with_type t vs = record { type_id = t; values = vs }
new_judged memory storage state name type_name type_id (Err NoMemory) at open_ is low made = tt
new_judged memory storage state name type_name type_id (Err _) at open_ is low made = absurd made
