-- The turns of the lines that give a member another value.
use Rattle.std.proofs.Common.{◌≡◌, ◌<◌, ℕ, Bool, true, false, not, List, [], ◌∷◌, ◌++◌, Option, Some, None, Err, ap, ◌∙◌, refl, sym, subst, length}
use Rattle.std.specs.Prelude.{codes, is_none, nat_le, unwrap_or, slice_get, IfSome, IsSome, IsSomeAnd}
use Rattle.std.proofs.lemmas.Option.{slice_get_within}
use Rattle.graph_model.specs.Served.{Storage}
use Rattle.type_desc.specs.declared.desc.Kind.TheVariants as kinds
use Rattle.type_desc.specs.declared.desc.TypeDesc.{TypeDesc}
use Rattle.entity_form.specs.Values.{kind_of}
use Rattle.entity_form.specs.declared.value.Value.{Value}
use Rattle.entity_form.specs.declared.value.Value.TheVariants.{Ref, Refs}
use Rattle.session_model.specs.Commands.{Target}
use Rattle.session_model.specs.Instances.{Instance, Instances, instance_at, put_instance}
use Rattle.session_model.specs.Answer.{State, Turn, Refusal, Given, Fits, Misfits, OutOfRange, Unbound, add_turn, cut_turn, given, given_value, id_of, is_bound, is_out_of_range, is_unbound, judged, member_at, misfits, named_instance, no_name, nothing, ok, out_of_range, refs_in, root_turn, set_turn, set_value, target_id, value_in, value_of, with_value, without_at, wrong_kind}
use Rattle.session_model.specs.Sound.{IsSound}
use Rattle.session_model.proofs.Setting.{root_value}
use Rattle.object_registry.specs.Registered.{ChangesRefs, HasRefAt, HasRefs, Registered, refs_at, with_member}
use Rattle.session_lines.specs.declared.changing.Change.{Change}
use Rattle.session_lines.specs.declared.changing.Edit.{Edit}
use Rattle.session_lines.specs.declared.changing.Edit.TheVariants.{Set, Push, Take}
use Rattle.session_lines.specs.declared.memory.Memory.{Memory}
use Rattle.session_lines.specs.declared.refusal.Stop.{Stop}
use Rattle.session_lines.specs.declared.refusal.Stop.TheVariants.{Refused, NoMemory}
use Rattle.session_lines.specs.declared.refusal.Refusal.TheVariants as refusals
use Rattle.session_lines.specs.Changes.{IsValueGiven, IsMade, MayChange, MayEdit, SetsMember, changed_value, edited, root_value as root_value_in}
use Rattle.session_lines.specs.Due.{Answers}
use Rattle.session_lines.specs.Places.{IsPlace}
use Rattle.session_lines.specs.Refusals.{IsRefusal}
use Rattle.session_lines.specs.Stands.{Stands, IsAtState}
use Rattle.session_lines.proofs.Found.{Finds, Names, found_goes_on}
use Rattle.session_lines.proofs.Judged.{judged_first, judged_next}
use Rattle.session_lines.proofs.Lines.{ok_no_feed}
use Rattle.session_lines.proofs.Standing.{stands_changed}
use Rattle.session_lines.proofs.Told.{answers_turn}

-- ---- the change is made

pub apply_answers : (memory : Memory) (registry : Registered) (text : List ℕ) (change : Change) (storage : Storage) (state : State) (turn : Turn) → IsAtState memory storage state → SetsMember change state turn → IsSound turn.state
    → IsMade change memory.registry.instances registry.instances
    → registry.names ≡ memory.registry.names → text ≡ codes "ok" ++ 10 ∷ []
    → Answers text (record memory { registry = registry }) storage turn
apply_answers memory registry text change storage state turn stands sets sound set names told =
    answers_turn (codes "ok") text (record memory { registry = registry }) storage (with_value state change.id sets.instance change.index (changed_value change sets.instance)) turn ok_no_feed told sets.turn_is
    (stands_changed memory registry storage state change.id sets.instance change.index (changed_value change sets.instance) stands sets.here
    (subst (λ (t : Turn). IsSound t.state) sets.turn_is sound) names put)
  where
    put : registry.instances ≡ put_instance change.id (with_member sets.instance change.index (changed_value change sets.instance)) memory.registry.instances
    put = subst (λ (o : Option Instance). IfSome o (λ i. registry.instances ≡ put_instance change.id (with_member i change.index (changed_value change i)) memory.registry.instances))
        (ap (λ (hs : Instances). instance_at hs change.id) stands.stands.instances ∙ sets.here) set

-- a place takes an edit that its value takes
pub place_takes : (registry : Registered) (types : List TypeDesc) (name member : List ℕ) (id index : ℕ) (old : Value) (edit : Edit) → IsPlace registry types name member id index old → MayEdit edit (Some old)
    → MayChange registry (record { id = id; index = index; edit = edit })
place_takes registry types name member id index old edit place may =
    subst (λ (o : Option Instance). IsSomeAnd o (λ i. MayEdit edit (slice_get i.object.values index))) (sym place.named.here)
    (subst (λ (o : Option Value). MayEdit edit o) (sym place.found.value_is) may)

-- ---- how the change is made

-- a member that takes an edit is there
pub set_within : (registry : Registered) (change : Change) (value : Value) → change.edit ≡ Set value → MayChange registry change → IsSomeAnd (instance_at registry.instances change.id) (λ i. change.index < length i.object.values)
set_within registry change value is may = by (instance_at registry.instances change.id) may
  where
    at : (values : List Value) (o : Option Value) → slice_get values change.index ≡ o → MayEdit (Set value) o → change.index < length values
    at values None e may = absurd may
    at values (Some old) e may = slice_get_within values change.index old e

    by : (o : Option Instance) → IsSomeAnd o (λ i. MayEdit change.edit (slice_get i.object.values change.index)) → IsSomeAnd o (λ i. change.index < length i.object.values)
    by None may = may
    by (Some i) may = at i.object.values (slice_get i.object.values change.index) refl (subst (λ (e : Edit). MayEdit e (slice_get i.object.values change.index)) is may)

pub made_set : (change : Change) (value : Value) (old new : Instances) → change.edit ≡ Set value → IfSome (instance_at old change.id) (λ i. new ≡ put_instance change.id (with_member i change.index value) old) → IsMade change old new
made_set change value old new is set =
    subst (λ (e : Edit). IfSome (instance_at old change.id) (λ i. new ≡ put_instance change.id (with_member i change.index (edited e (slice_get i.object.values change.index))) old)) (sym is) set

-- a list that is there becomes another
list_changed : (f : List ℕ → List ℕ) (id at : ℕ) (old new : Instances) → HasRefs old id at → ChangesRefs f id at old new
    → IfSome (instance_at old id) (λ i. new ≡ put_instance id (with_member i at (Refs (f (unwrap_or (refs_at i at) [])))) old)
list_changed f id at old new has changed = by (instance_at old id) has changed
  where
    within : (i : Instance) (o : Option (List ℕ)) → IsSome o → IfSome o (λ ids. new ≡ put_instance id (with_member i at (Refs (f ids))) old) → new ≡ put_instance id (with_member i at (Refs (f (unwrap_or o [])))) old
    within i None has is = absurd cc
    within i (Some ids) has is = is

    by : (o : Option Instance) → IsSomeAnd o (λ i. IsSome (refs_at i at)) → IfSome o (λ i. IfSome (refs_at i at) (λ ids. new ≡ put_instance id (with_member i at (Refs (f ids))) old))
        → IfSome o (λ i. new ≡ put_instance id (with_member i at (Refs (f (unwrap_or (refs_at i at) [])))) old)
    by None has is = tt
    by (Some i) has is = within i (refs_at i at) has is

pub has_list : (registry : Registered) (change : Change) (target : ℕ) → change.edit ≡ Push target → MayChange registry change → HasRefs registry.instances change.id change.index
has_list registry change target is may = subst (λ (e : Edit). IsSomeAnd (instance_at registry.instances change.id) (λ i. MayEdit e (slice_get i.object.values change.index))) is may

pub made_push : (registry : Registered) (change : Change) (target : ℕ) (new : Instances) → change.edit ≡ Push target → MayChange registry change
    → ChangesRefs (λ ids. ids ++ target ∷ []) change.id change.index registry.instances new → IsMade change registry.instances new
made_push registry change target new is may changed =
    subst (λ (e : Edit). IfSome (instance_at registry.instances change.id) (λ i. new ≡ put_instance change.id (with_member i change.index (edited e (slice_get i.object.values change.index))) registry.instances)) (sym is)
    (list_changed (λ (ids : List ℕ). ids ++ target ∷ []) change.id change.index registry.instances new (has_list registry change target is may) changed)

pub has_place : (registry : Registered) (change : Change) (at : ℕ) → change.edit ≡ Take at → MayChange registry change → HasRefAt registry.instances change.id change.index at
has_place registry change at is may = subst (λ (e : Edit). IsSomeAnd (instance_at registry.instances change.id) (λ i. MayEdit e (slice_get i.object.values change.index))) is may

place_in_list : (instances : Instances) (id index at : ℕ) → HasRefAt instances id index at → HasRefs instances id index
place_in_list instances id index at has = by (instance_at instances id) has
  where
    some : (o : Option (List ℕ)) → IsSomeAnd o (λ ids. at < length ids) → IsSome o
    some None has = absurd has
    some (Some ids) has = refl

    by : (o : Option Instance) → IsSomeAnd o (λ i. IsSomeAnd (refs_at i index) (λ ids. at < length ids)) → IsSomeAnd o (λ i. IsSome (refs_at i index))
    by None has = has
    by (Some i) has = some (refs_at i index) has

pub made_take : (registry : Registered) (change : Change) (at : ℕ) (new : Instances) → change.edit ≡ Take at → MayChange registry change
    → ChangesRefs (λ ids. without_at ids at) change.id change.index registry.instances new → IsMade change registry.instances new
made_take registry change at new is may changed =
    subst (λ (e : Edit). IfSome (instance_at registry.instances change.id) (λ i. new ≡ put_instance change.id (with_member i change.index (edited e (slice_get i.object.values change.index))) registry.instances)) (sym is)
    (list_changed (λ (ids : List ℕ). without_at ids at) change.id change.index registry.instances new (place_in_list registry.instances change.id change.index at (has_place registry change at is may)) changed)

-- ---- the judging

pub set_value_is : (state : State) (name member : List ℕ) (id : ℕ) (i : Instance) (index : ℕ) (old new : Value) → Finds state name member id i index old
    → set_value state name member new ≡ with_value state id i index new
set_value_is state name member id i index old new f =
    ap (λ (x : ℕ). with_value state x (named_instance state name) (unwrap_or (member_at state (named_instance state name) member) 0) new) f.names.id_is
    ∙ (ap (λ (j : Instance). with_value state id j (unwrap_or (member_at state j member) 0) new) f.names.instance_is
    ∙ ap (λ (o : Option ℕ). with_value state id i (unwrap_or o 0) new) f.index_is)

-- the turn is the change of what was found
pub sets_found : (state : State) (name member : List ℕ) (id : ℕ) (i : Instance) (index : ℕ) (old : Value) (edit : Edit) (turn : Turn) → Finds state name member id i index old
    → turn ≡ ok (set_value state name member (edited edit (Some old))) → SetsMember (record { id = id; index = index; edit = edit }) state turn
sets_found state name member id i index old edit turn f e = record {
  instance = i;
  here = f.names.here;
  turn_is = e ∙ (ap ok (set_value_is state name member id i index old (edited edit (Some old)) f) ∙ ap (λ (o : Option Value). ok (with_value state id i index (edited edit o))) (sym f.stands));
}

abbrev set_others : Given → List Refusal
set_others value = wrong_kind (misfits value) ∷ out_of_range (is_out_of_range value) ∷ no_name (is_unbound value) ∷ []

set_is : (state : State) (name member rest : List ℕ) (id : ℕ) (i : Instance) (index : ℕ) (old : Value) (value : Given) → Finds state name member id i index old → given state rest (Some old) ≡ value
    → set_turn state name member rest ≡ judged state (set_others value) (ok (set_value state name member (given_value value)))
set_is state name member rest id i index old value f g =
    found_goes_on state name member id i index old (set_others (given state rest (value_of state name member))) (ok (set_value state name member (given_value (given state rest (value_of state name member))))) f
    ∙ ap (λ (v : Given). judged state (set_others v) (ok (set_value state name member (given_value v)))) (ap (given state rest) f.value_is ∙ g)

pub set_made : (state : State) (name member rest : List ℕ) (id : ℕ) (i : Instance) (index : ℕ) (old new : Value) → Finds state name member id i index old → given state rest (Some old) ≡ Fits new
    → SetsMember (record { id = id; index = index; edit = Set new }) state (set_turn state name member rest)
set_made state name member rest id i index old new f g = sets_found state name member id i index old (Set new) (set_turn state name member rest) f (set_is state name member rest id i index old (Fits new) f g)

pub set_refused : (state : State) (name member rest : List ℕ) (id : ℕ) (i : Instance) (index : ℕ) (old : Value) (stop : Stop) → Finds state name member id i index old
    → IsValueGiven (λ (v : Value). v) (Err stop) (given state rest (Some old)) → IsRefusal state (set_turn state name member rest) stop
set_refused state name member rest id i index old (Refused refusals.WrongKind) f g = set_is state name member rest id i index old Misfits f g
set_refused state name member rest id i index old (Refused refusals.Range) f g = set_is state name member rest id i index old OutOfRange f g
set_refused state name member rest id i index old (Refused refusals.NoName) f g = set_is state name member rest id i index old Unbound f g
set_refused state name member rest id i index old NoMemory f g = tt
set_refused state name member rest id i index old _ f g = absurd g

pub add_is : (state : State) (name member : List ℕ) (target : Target) (id : ℕ) (i : Instance) (index : ℕ) (old : Value) (refs : Option (List ℕ)) (to : Option ℕ) → Finds state name member id i index old
    → refs_in (Some old) ≡ refs → target_id state (Some target) ≡ to
    → add_turn state name member target ≡ judged state (wrong_kind (is_none refs) ∷ no_name (is_none to) ∷ []) (ok (set_value state name member (Refs (unwrap_or refs [] ++ unwrap_or to 0 ∷ []))))
add_is state name member target id i index old refs to f g h =
    found_goes_on state name member id i index old (wrong_kind (is_none (refs_in (value_of state name member))) ∷ no_name (is_none (target_id state (Some target))) ∷ [])
    (ok (set_value state name member (Refs (unwrap_or (refs_in (value_of state name member)) [] ++ unwrap_or (target_id state (Some target)) 0 ∷ [])))) f
    ∙ (ap (λ (r : Option (List ℕ)). judged state (wrong_kind (is_none r) ∷ no_name (is_none (target_id state (Some target))) ∷ []) (ok (set_value state name member (Refs (unwrap_or r [] ++ unwrap_or (target_id state (Some target)) 0 ∷ []))))) (ap refs_in f.value_is ∙ g)
    ∙ ap (λ (t : Option ℕ). judged state (wrong_kind (is_none refs) ∷ no_name (is_none t) ∷ []) (ok (set_value state name member (Refs (unwrap_or refs [] ++ unwrap_or t 0 ∷ []))))) h)

pub add_made : (state : State) (name member : List ℕ) (target : Target) (id : ℕ) (i : Instance) (index : ℕ) (old : Value) (ids : List ℕ) (to : ℕ) → Finds state name member id i index old
    → refs_in (Some old) ≡ Some ids → target_id state (Some target) ≡ Some to → SetsMember (record { id = id; index = index; edit = Push to }) state (add_turn state name member target)
add_made state name member target id i index old ids to f g h = sets_found state name member id i index old (Push to) (add_turn state name member target) f
    (add_is state name member target id i index old (Some ids) (Some to) f g h ∙ ap (λ (o : Option (List ℕ)). ok (set_value state name member (Refs (unwrap_or o [] ++ to ∷ [])))) (sym g))

pub cut_is : (state : State) (name member : List ℕ) (at : ℕ) (id : ℕ) (i : Instance) (index : ℕ) (old : Value) (refs : Option (List ℕ)) (beyond : Bool) → Finds state name member id i index old
    → refs_in (Some old) ≡ refs → nat_le (length (unwrap_or refs [])) at ≡ beyond
    → cut_turn state name member at ≡ judged state (wrong_kind (is_none refs) ∷ out_of_range beyond ∷ []) (ok (set_value state name member (Refs (without_at (unwrap_or refs []) at))))
cut_is state name member at id i index old refs beyond f g h =
    found_goes_on state name member id i index old (wrong_kind (is_none (refs_in (value_of state name member))) ∷ out_of_range (nat_le (length (unwrap_or (refs_in (value_of state name member)) [])) at) ∷ [])
    (ok (set_value state name member (Refs (without_at (unwrap_or (refs_in (value_of state name member)) []) at)))) f
    ∙ (ap (λ (r : Option (List ℕ)). judged state (wrong_kind (is_none r) ∷ out_of_range (nat_le (length (unwrap_or r [])) at) ∷ []) (ok (set_value state name member (Refs (without_at (unwrap_or r []) at))))) (ap refs_in f.value_is ∙ g)
    ∙ ap (λ (b : Bool). judged state (wrong_kind (is_none refs) ∷ out_of_range b ∷ []) (ok (set_value state name member (Refs (without_at (unwrap_or refs []) at))))) h)

pub cut_made : (state : State) (name member : List ℕ) (at : ℕ) (id : ℕ) (i : Instance) (index : ℕ) (old : Value) (ids : List ℕ) → Finds state name member id i index old
    → refs_in (Some old) ≡ Some ids → nat_le (length ids) at ≡ false → SetsMember (record { id = id; index = index; edit = Take at }) state (cut_turn state name member at)
cut_made state name member at id i index old ids f g h = sets_found state name member id i index old (Take at) (cut_turn state name member at) f
    (cut_is state name member at id i index old (Some ids) false f g h ∙ ap (λ (o : Option (List ℕ)). ok (set_value state name member (Refs (without_at (unwrap_or o []) at)))) (sym g))

-- ---- the root

-- the root is there, and has its member
pub root_there : (memory : Memory) (storage : Storage) (state : State) → Stands memory storage state → state.started ≡ true
    → (i : Instance) × (instance_at memory.registry.instances 1 ≡ Some i) × ((v : Value) × (slice_get i.object.values 0 ≡ Some v) × (kind_of v ≡ kinds.Ref))
root_there memory storage state s started =
    let there = s.sound.root started in
    let right = s.sound.each 1 there.0 there.1 in
    let value = root_value state.types there.0.object.type_id right.desc there.0.object.values right.root right.known right.kinds in
    (there.0, ap (λ (hs : Instances). instance_at hs 1) s.instances ∙ there.1, (value.0, value.1, value.2))

-- the root's value is a reference
pub root_value_there : (memory : Memory) (storage : Storage) (state : State) → Stands memory storage state → state.started ≡ true → (v : Value) × (root_value_in memory.registry ≡ Some v) × (kind_of v ≡ kinds.Ref)
root_value_there memory storage state s started =
    let there = root_there memory storage state s started in
    (there.2.0, ap (λ (o : Option Instance). value_in (unwrap_or o nothing) (Some 0)) there.1 ∙ there.2.1, there.2.2)

pub root_has_value : (memory : Memory) (storage : Storage) (state : State) → Stands memory storage state → state.started ≡ true → None ≡ root_value_in memory.registry → ⊥
root_has_value memory storage state s started none = let is = (root_value_there memory storage state s started).1 in cc

pub root_has_ref : (memory : Memory) (storage : Storage) (state : State) (v : Value) (is_ref : Bool) → Stands memory storage state → state.started ≡ true → Some v ≡ root_value_in memory.registry
    → (kind_of v ≡ kinds.Ref → is_ref ≡ true) → is_ref ≡ false → ⊥
root_has_ref memory storage state v is_ref s started found told other =
    let there = root_value_there memory storage state s started in
    let is : root_value_in memory.registry ≡ Some there.0 = there.1 in
    let same : v ≡ there.0 = cc in
    let is_true : is_ref ≡ true = told (ap kind_of same ∙ there.2) in
    cc

pub root_set : (memory : Memory) (storage : Storage) (state : State) (name : List ℕ) (id : ℕ) (i : Instance) → Stands memory storage state → state.started ≡ true → Names state name id i
    → SetsMember (record { id = 1; index = 0; edit = Set (Ref id) }) state (root_turn state name)
root_set memory storage state name id i s started n = let there = s.sound.root started in record {
  instance = there.0;
  here = there.1;
  turn_is = judged_next state (no_name (not (is_bound state name))) [] (ok (with_value state 1 (unwrap_or (instance_at state.instances 1) nothing) 0 (Ref (id_of state name)))) (ap not n.bound)
      ∙ (ap (λ (x : ℕ). ok (with_value state 1 (unwrap_or (instance_at state.instances 1) nothing) 0 (Ref x))) n.id_is
      ∙ ap (λ (o : Option Instance). ok (with_value state 1 (unwrap_or o nothing) 0 (Ref id))) there.1);
}

pub root_refused : (state : State) (name : List ℕ) → is_bound state name ≡ false → IsRefusal state (root_turn state name) (Refused refusals.NoName)
root_refused state name unbound = judged_first state (no_name (not (is_bound state name))) [] (ok (with_value state 1 (unwrap_or (instance_at state.instances 1) nothing) 0 (Ref (id_of state name)))) (ap not unbound)

-- the root takes another target
pub root_takes : (registry : Registered) (v : Value) (id : ℕ) → root_value_in registry ≡ Some v → kind_of v ≡ kinds.Ref → MayChange registry (record { id = 1; index = 0; edit = Set (Ref id) })
root_takes registry v id e kind = by (instance_at registry.instances 1) e
  where
    by : (o : Option Instance) → value_in (unwrap_or o nothing) (Some 0) ≡ Some v → IsSomeAnd o (λ i. MayEdit (Set (Ref id)) (slice_get i.object.values 0))
    by None h = absurd cc
    by (Some i) h = subst (λ (w : Option Value). MayEdit (Set (Ref id)) w) (sym h) (sym kind)
