-- What lines leave: the next id never falls, and most lines hold and release nothing.
use Rattle.std.proofs.Common.{◌≡◌, ℕ, ◌+◌, ◌≤◌, ◌^◌, Bool, true, false, cond, not, ◌&&◌, ◌||◌, List, [], ◌∷◌, ◌++◌, codes, decimal, is_none, length, Option, Some, None, unwrap_or, Result, Ok, Err, inl, inr, refl, sym, ap, subst, arith, set, slice_get}
use Rattle.std.specs.Prelude.{nat_eq, nat_le, nat_lt}
use Rattle.std.specs.List.{list_any, filter}
use Rattle.std.specs.Str.{bytes_eq}
use Rattle.std.proofs.lemmas.Bool.{and_parts, eqb-true, ltb-true, not-false, or_cases}
use Rattle.graph_model.specs.Ids.{has}
use Rattle.type_desc.specs.declared.desc.TypeDesc.{TypeDesc}
use Rattle.type_dictionary.specs.Latest.{latest_of}
use Rattle.entity_form.specs.declared.value.Value.{Value}
use Rattle.entity_form.specs.declared.value.Value.TheVariants.{Ref, Refs}
use Rattle.refactor_table.specs.declared.name.Pair.{Pair}
use Rattle.refactor_table.specs.declared.name.RefName.{RefName}
use Rattle.refactor_table.specs.Names.{same_name}
use Rattle.session_model.specs.Commands as cmd
use Rattle.session_model.specs.Commands.{Command, Target}
use Rattle.session_model.specs.Types.{is_root_type, latest_desc, repeats_member, type_in}
use Rattle.session_model.specs.Instances.{Instance, Instances, gathered_eagerly, gathered_lazily, held_ids, instance_at, put_instance}
use Rattle.session_model.specs.Answer.{Binding, Given, Refusal, State, Turn, answered, are_too_big, bound, command_turn, desc_of_instance, differs, duplicate, fresh, gathered_records, given, given_value, id_of, is_bound, is_full, is_known, is_out_of_range, is_root_name, is_unbound, judged, lacks_member, needs_start, loaded_turn, member_at, misfits, name_taken, named_instance, no_desc, no_member, no_name, no_root, no_target, no_type, nothing, ok, out_of_range, ref_in, refs_in, reserved, root_target, set_value, stored, target_id, too_big, type_known, type_new, value_of, with_loaded, with_value, without_at, wrong_kind}
use Rattle.session_model.specs.Answer as lines
use Rattle.session_model.specs.Sound.{IsSound, changes_held}
use Rattle.graph_export.specs.Line.{line}
use Rattle.session_model.proofs.Gathering.{gathered_op}
use Rattle.session_model.proofs.Holding.{held_put, is_saved}
use Rattle.session_model.proofs.Judging.{judged_keeps}
use Rattle.session_model.proofs.Setting.{bound_here}

-- ---- held ids

-- the second state holds what the first does
abbrev pub HoldsSame : State → State → Type 0
HoldsSame old new = (y : ℕ) → has y (held_ids new.instances) ≡ has y (held_ids old.instances)

none_saved : (o : Option Instance) → (((i : Instance) × (o ≡ Some i)) → ⊥) → is_saved o ≡ false
none_saved None absent = refl
none_saved (Some i) absent = absurd (absent (i, refl))

-- no object has the next id
next_is_free : (state : State) → IsSound state → is_saved (instance_at state.instances state.next_id) ≡ false
next_is_free state s = none_saved (instance_at state.instances state.next_id) (λ there. let good = (s.each state.next_id there.0 there.1).good_id in
    elim (or_cases (nat_eq state.next_id 1) (nat_le 1024 state.next_id && nat_lt state.next_id state.next_id) good) [
      | inl root ↦ let e = eqb-true state.next_id 1 root in let low = s.low in absurd (omega arith)
      | inr below ↦ let l = ltb-true state.next_id state.next_id (and_parts (nat_le 1024 state.next_id) (nat_lt state.next_id state.next_id) below).1 in absurd (omega arith)
    ])

-- another value of a bound name's member changes no saved object
set_holds_same : (state : State) (name member : List ℕ) (value : Value) → IsSound state → state.started ≡ true → is_bound state name ≡ true → HoldsSame state (set_value state name member value)
set_holds_same state name member value s started is y = held_put state.instances (id_of state name) new s.order (sym (ap is_saved (bound_here state name s started is))) y
  where
    new : Instance
    new = let i = named_instance state name in record i { object = record i.object { values = set i.object.values (unwrap_or (member_at state i member) 0) value }; changed = true }

root_holds_same : (state : State) (value : Value) → IsSound state → state.started ≡ true → HoldsSame state (with_value state 1 (unwrap_or (instance_at state.instances 1) nothing) 0 value)
root_holds_same state value s started y = held_put state.instances 1 new s.order same y
  where
    new : Instance
    new = let i = unwrap_or (instance_at state.instances 1) nothing in record i { object = record i.object { values = set i.object.values 0 value }; changed = true }

    same : (unwrap_or (instance_at state.instances 1) nothing).saved ≡ is_saved (instance_at state.instances 1)
    same = let root = s.root started in subst (λ (o : Option Instance). (unwrap_or o nothing).saved ≡ is_saved o) (sym root.1) refl

-- ---- lines that hold and release nothing

pub record Stays (old new : State) : Type 0 where
  pub held : HoldsSame old new
  pub next : old.next_id ≤ new.next_id

-- a state with the same objects and next id
same : (state : State) → Stays state state
same state = record { held = λ y. refl; next = omega arith }

kept_by : (state : State) (refusals : List Refusal) (effect : Turn) → Stays state effect.state → Stays state (judged state refusals effect).state
kept_by state refusals effect stays = judged_keeps (Stays state) state refusals effect (same state) (λ none. stays)

type_stays : (state : State) (desc : TypeDesc) → Stays state (lines.type_turn state desc).state
type_stays state desc = kept_by state
    (reserved (is_root_type desc.name) ∷ duplicate (repeats_member desc.members) ∷ is_full (nat_le 65536 (length state.types) && not (is_known state desc)) ∷ [])
    (cond (is_known state desc) (type_known state desc) (type_new state desc)) (by (is_known state desc))
  where
    by : (b : Bool) → Stays state (cond b (type_known state desc) (type_new state desc)).state
    by true = same state
    by false = record { held = λ y. refl; next = omega arith }

refactor_stays : (state : State) (old new : RefName) → Stays state (lines.refactor_turn state old new).state
refactor_stays state old new = kept_by state
    (reserved (is_root_type (type_in old) || is_root_type (type_in new))
    ∷ duplicate (list_any (λ (p : Pair). same_name p.old old || same_name p.new new) state.pairs)
    ∷ wrong_kind (differs state old new)
    ∷ [])
    (ok (record state { pairs = state.pairs ++ record { old = old; new = new } ∷ [] })) (record { held = λ y. refl; next = omega arith })

new_stays : (state : State) (name type_name : List ℕ) → IsSound state → Stays state (lines.new_turn state name type_name).state
new_stays state name type_name s = kept_by state
    (reserved (is_root_name name || is_root_type type_name) ∷ name_taken (is_bound state name) ∷ no_type (is_none (latest_of state.types type_name)) ∷ is_full (nat_le (2 ^ 48) state.next_id) ∷ [])
    (answered (record (bound state name state.next_id) { next_id = state.next_id + 1; instances = put_instance state.next_id made state.instances }) (codes "new " ++ decimal state.next_id))
    (record { held = held_put state.instances state.next_id made s.order (sym (next_is_free state s)); next = omega arith })
  where
    made : Instance
    made = fresh (unwrap_or (latest_of state.types type_name) 0) (unwrap_or (latest_desc state.types type_name) no_desc)

-- a line that sets a member of a bound name
setting_stays : (state : State) (name member : List ℕ) (value : Value) (refusals : List Refusal) → IsSound state → state.started ≡ true
    → Stays state (judged state (no_name (not (is_bound state name)) ∷ refusals) (ok (set_value state name member value))).state
setting_stays state name member value refusals s started = judged_keeps (Stays state) state (no_name (not (is_bound state name)) ∷ refusals) (ok (set_value state name member value)) (same state)
    (λ none. record { held = set_holds_same state name member value s started (not-false (is_bound state name) none.0); next = omega arith })

set_stays : (state : State) (name member rest : List ℕ) → IsSound state → state.started ≡ true → Stays state (lines.set_turn state name member rest).state
set_stays state name member rest = setting_stays state name member (given_value value) (no_member (lacks_member state name member) ∷ wrong_kind (misfits value) ∷ out_of_range (is_out_of_range value) ∷ no_name (is_unbound value) ∷ [])
  where
    value : Given
    value = given state rest (value_of state name member)

add_stays : (state : State) (name member : List ℕ) (target : Target) → IsSound state → state.started ≡ true → Stays state (lines.add_turn state name member target).state
add_stays state name member target = setting_stays state name member (Refs (unwrap_or ids [] ++ unwrap_or id 0 ∷ [])) (no_member (lacks_member state name member) ∷ wrong_kind (is_none ids) ∷ no_name (is_none id) ∷ [])
  where
    ids : Option (List ℕ)
    ids = refs_in (value_of state name member)

    id : Option ℕ
    id = target_id state (Some target)

cut_stays : (state : State) (name member : List ℕ) (index : ℕ) → IsSound state → state.started ≡ true → Stays state (lines.cut_turn state name member index).state
cut_stays state name member index = setting_stays state name member (Refs (without_at (unwrap_or ids []) index))
    (no_member (lacks_member state name member) ∷ wrong_kind (is_none ids) ∷ out_of_range (nat_le (length (unwrap_or ids [])) index) ∷ [])
  where
    ids : Option (List ℕ)
    ids = refs_in (value_of state name member)

root_stays : (state : State) (name : List ℕ) → IsSound state → state.started ≡ true → Stays state (lines.root_turn state name).state
root_stays state name s started = kept_by state (no_name (not (is_bound state name)) ∷ []) (ok (with_value state 1 (unwrap_or (instance_at state.instances 1) nothing) 0 (Ref (id_of state name))))
    (record { held = root_holds_same state (Ref (id_of state name)) s started; next = omega arith })

show_stays : (state : State) (name : List ℕ) → Stays state (lines.show_turn state name).state
show_stays state name = kept_by state (no_name (not (is_bound state name)) ∷ [])
    (answered state (line (id_of state name) (named_instance state name).object (desc_of_instance state (named_instance state name)))) (same state)

home_stays : (state : State) (name : List ℕ) → Stays state (lines.home_turn state name).state
home_stays state name = kept_by state (reserved (is_root_name name) ∷ name_taken (is_bound state name) ∷ no_root (nat_eq (root_target state) 0) ∷ [])
    (ok (bound state name (root_target state))) (record { held = λ y. refl; next = omega arith })

pick_stays : (state : State) (name member : List ℕ) (index : ℕ) (new : List ℕ) → Stays state (lines.pick_turn state name member index new).state
pick_stays state name member index new = kept_by state
    (no_name (not (is_bound state name)) ∷ no_member (lacks_member state name member) ∷ wrong_kind (is_none ids) ∷ out_of_range (nat_le (length (unwrap_or ids [])) index)
    ∷ reserved (is_root_name new) ∷ name_taken (is_bound state new) ∷ no_target (nat_eq target 0) ∷ [])
    (ok (bound state new target)) (record { held = λ y. refl; next = omega arith })
  where
    ids : Option (List ℕ)
    ids = refs_in (value_of state name member)

    target : ℕ
    target = unwrap_or (slice_get (unwrap_or ids []) index) 0

drop_stays : (state : State) (name : List ℕ) → Stays state (lines.drop_turn state name).state
drop_stays state name = kept_by state (reserved (is_root_name name) ∷ no_name (not (is_bound state name)) ∷ [])
    (ok (record state { names = filter (λ (b : Binding). not (bytes_eq b.name name)) state.names })) (record { held = λ y. refl; next = omega arith })

-- ---- lines that hold or release

abbrev pub NextStays : State → State → Type 0
NextStays old new = old.next_id ≤ new.next_id

store_next : (most : ℕ) (state : State) (name : List ℕ) (gather : Instances → ℕ → List ℕ) → NextStays state (lines.store_turn most state name gather).state
store_next most state name gather = judged_keeps (NextStays state) state
    (no_name (not (is_bound state name)) ∷ too_big (are_too_big most (gathered_records state.instances xs)) ∷ []) (stored state xs (gathered_op state xs)) (omega arith) (λ none. omega arith)
  where
    xs : List ℕ
    xs = gather state.instances (id_of state name)

loaded_next : (state : State) (new : List ℕ) (id : ℕ) (r : Result Instances (List ℕ)) → NextStays state (loaded_turn state new id r).state
loaded_next state new id (Ok ks) = omega arith
loaded_next state new id (Err code) = omega arith

follow_next : (state : State) (name member new : List ℕ) → NextStays state (lines.follow_turn state name member new).state
follow_next state name member new = judged_keeps (NextStays state) state
    (no_name (not (is_bound state name)) ∷ no_member (lacks_member state name member) ∷ wrong_kind (is_none target) ∷ reserved (is_root_name new) ∷ name_taken (is_bound state new) ∷ no_target (nat_eq (unwrap_or target 0) 0) ∷ [])
    (loaded_turn state new (unwrap_or target 0) (with_loaded state (unwrap_or target 0))) (omega arith) (λ none. loaded_next state new (unwrap_or target 0) (with_loaded state (unwrap_or target 0)))
  where
    target : Option ℕ
    target = ref_in (value_of state name member)

-- ---- every line

-- most lines hold and release nothing
pub most_hold_same : (most : ℕ) (state : State) (command : Command) → IsSound state → (needs_start command ≡ true → state.started ≡ true) → changes_held command ≡ false → HoldsSame state (command_turn most state command).state
most_hold_same most state (cmd.DeclareType desc) s started other = (type_stays state desc).held
most_hold_same most state (cmd.Refactor old new) s started other = (refactor_stays state old new).held
most_hold_same most state (cmd.New name type_name) s started other = (new_stays state name type_name s).held
most_hold_same most state (cmd.SetMember name member rest) s started other = (set_stays state name member rest s (started refl)).held
most_hold_same most state (cmd.AddTo name member target) s started other = (add_stays state name member target s (started refl)).held
most_hold_same most state (cmd.CutFrom name member index) s started other = (cut_stays state name member index s (started refl)).held
most_hold_same most state (cmd.SetRoot name) s started other = (root_stays state name s (started refl)).held
most_hold_same most state (cmd.Store name) s started other = absurd cc
most_hold_same most state (cmd.StoreAll name) s started other = absurd cc
most_hold_same most state (cmd.Show name) s started other = (show_stays state name).held
most_hold_same most state (cmd.Home name) s started other = (home_stays state name).held
most_hold_same most state (cmd.Follow name member new) s started other = absurd cc
most_hold_same most state (cmd.Pick name member index new) s started other = (pick_stays state name member index new).held
most_hold_same most state (cmd.DropName name) s started other = (drop_stays state name).held
most_hold_same most state cmd.Forget s started other = absurd cc
most_hold_same most state cmd.Collect s started other = λ y. refl
most_hold_same most state cmd.Tidy s started other = λ y. refl
most_hold_same most state cmd.Export s started other = λ y. refl

-- no line makes the next id fall
pub next_never_falls : (most : ℕ) (state : State) (command : Command) → IsSound state → (needs_start command ≡ true → state.started ≡ true) → state.next_id ≤ (command_turn most state command).state.next_id
next_never_falls most state (cmd.DeclareType desc) s started = (type_stays state desc).next
next_never_falls most state (cmd.Refactor old new) s started = (refactor_stays state old new).next
next_never_falls most state (cmd.New name type_name) s started = (new_stays state name type_name s).next
next_never_falls most state (cmd.SetMember name member rest) s started = (set_stays state name member rest s (started refl)).next
next_never_falls most state (cmd.AddTo name member target) s started = (add_stays state name member target s (started refl)).next
next_never_falls most state (cmd.CutFrom name member index) s started = (cut_stays state name member index s (started refl)).next
next_never_falls most state (cmd.SetRoot name) s started = (root_stays state name s (started refl)).next
next_never_falls most state (cmd.Store name) s started = store_next most state name gathered_lazily
next_never_falls most state (cmd.StoreAll name) s started = store_next most state name gathered_eagerly
next_never_falls most state (cmd.Show name) s started = (show_stays state name).next
next_never_falls most state (cmd.Home name) s started = (home_stays state name).next
next_never_falls most state (cmd.Follow name member new) s started = follow_next state name member new
next_never_falls most state (cmd.Pick name member index new) s started = (pick_stays state name member index new).next
next_never_falls most state (cmd.DropName name) s started = (drop_stays state name).next
next_never_falls most state cmd.Forget s started = omega arith
next_never_falls most state cmd.Collect s started = omega arith
next_never_falls most state cmd.Tidy s started = omega arith
next_never_falls most state cmd.Export s started = omega arith
