-- The lines that give a member another value: `set`, `add`, `cut` and `root`.
use Rattle.std.proofs.Common.{◌≡◌, ℕ, ℤ, pos, negsuc, ◌-◌, ◌<◌, ◌^◌, Bool, true, false, cond, not, ◌||◌, List, [], ◌∷◌, ◌++◌, length, map, slice_get, Option, Some, None, is_none, is_some, unwrap_or, IsUtf8, FitsSigned, ◌⊎◌, inl, inr, refl, sym, ap, ◌∙◌, subst, zero, suc, w64, rules}
use Rattle.std.specs.Prelude.{nat_eq, nat_le}
use Rattle.std.specs.List.{flat_map}
use Rattle.std.proofs.lemmas.Bool.{eqb-true, ltb-true, not-false, or_cases, or_left, or_right}
use Rattle.graph_model.specs.Ids.{has}
use Rattle.graph_model.proofs.IdSets.{has_append}
use Rattle.type_desc.specs.declared.desc.Kind.TheVariants as kinds
use Rattle.type_desc.specs.declared.desc.TypeDesc.{TypeDesc}
use Rattle.type_desc.specs.Root.{root_desc}
use Rattle.type_dictionary.specs.Latest.{desc_of}
use Rattle.entity_form.specs.Values.{AreOf, kind_of, kinds_of}
use Rattle.entity_form.specs.declared.value.Value.{Value}
use Rattle.entity_form.specs.declared.value.Value.TheVariants.{Int, Text, Bytes, Ref, Lazy, Refs}
use Rattle.session_model.specs.Commands as cmd
use Rattle.session_model.specs.Commands.{Target, integer_of, target_of}
use Rattle.session_model.specs.Instances.{Instance, Instances, eager_refs_of, instance_at}
use Rattle.session_model.specs.Answer.{State, Given, Refusal, Fits, OutOfRange, add_turn, cut_turn, found_id, given, given_bytes, given_id, given_int, given_value, hex_bytes, id_in, id_of, is_bound, is_in_range, is_out_of_range, is_unbound, lacks_member, member_at, misfits, named_instance, no_member, no_name, nothing, ok, out_of_range, refs_in, root_turn, set_turn, set_value, target_id, value_in, value_of, with_value, without_at, wrong_kind}
use Rattle.session_model.specs.Sound.{IsHere, IsSound}
use Rattle.session_model.proofs.Changing.{MayStand, value_set}
use Rattle.session_model.proofs.Judging.{judged_sound}

-- ---- a bound name and its member

pub bound_here : (state : State) (name : List ℕ) → IsSound state → state.started ≡ true → is_bound state name ≡ true
    → instance_at state.instances (id_of state name) ≡ Some (named_instance state name)
bound_here state name s started is = by (id_in state.names name) refl is
  where
    at : (x : ℕ) → IsHere state.instances x → instance_at state.instances x ≡ Some (unwrap_or (instance_at state.instances x) nothing)
    at x there = there.1 ∙ sym (ap (λ (o : Option Instance). some (unwrap_or o nothing)) there.1)
      where
        some : Instance → Option Instance
        some i = Some i

    by : (o : Option ℕ) → id_in state.names name ≡ o → is_some o ≡ true → instance_at state.instances (id_of state name) ≡ Some (named_instance state name)
    by None e is = absurd cc
    by (Some x) e is = subst (λ (p : Option ℕ). instance_at state.instances (unwrap_or p 0) ≡ Some (unwrap_or (instance_at state.instances (unwrap_or p 0)) nothing)) (sym e) (at x (s.bound started name x e))

-- a member that is there has a place, and its value stands at it
pub value_stands : (state : State) (name member : List ℕ) (old : Value) → value_of state name member ≡ Some old
    → slice_get (named_instance state name).object.values (unwrap_or (member_at state (named_instance state name) member) 0) ≡ Some old
value_stands state name member old = by (member_at state (named_instance state name) member)
  where
    by : (o : Option ℕ) → value_in (named_instance state name) o ≡ Some old → slice_get (named_instance state name).object.values (unwrap_or o 0) ≡ Some old
    by None e = absurd cc
    by (Some at) e = e

-- what a value names, its object names
pub named_by_value : (f : Value → List ℕ) (vs : List Value) (at : ℕ) (v : Value) (y : ℕ) → slice_get vs at ≡ Some v → has y (f v) ≡ true → has y (flat_map f vs) ≡ true
named_by_value f [] at v y is h = absurd cc
named_by_value f (w ∷ vs) zero v y is h = let same : w ≡ v = cc in
    has_append y (f w) (flat_map f vs) ∙ or_left (has y (f w)) (has y (flat_map f vs)) (subst (λ (u : Value). has y (f u) ≡ true) (sym same) h)
named_by_value f (w ∷ vs) (suc at) v y is h = has_append y (f w) (flat_map f vs) ∙ or_right (has y (f w)) (has y (flat_map f vs)) (named_by_value f vs at v y is h)

-- a value of a `refs` member names objects in memory
pub refs_are_here : (state : State) (name member : List ℕ) (ids : List ℕ) → IsSound state → state.started ≡ true → is_bound state name ≡ true
    → value_of state name member ≡ Some (Refs ids) → (y : ℕ) → has y ids ≡ true → (y ≡ 0) ⊎ IsHere state.instances y
refs_are_here state name member ids s started is value y h =
    (s.each (id_of state name) (named_instance state name) (bound_here state name s started is)).eager y
    (named_by_value eager_refs_of (named_instance state name).object.values (unwrap_or (member_at state (named_instance state name) member) 0) (Refs ids) y (value_stands state name member (Refs ids) value) h)

target_is_here : (state : State) (target : Target) (id : ℕ) → IsSound state → state.started ≡ true → target_id state (Some target) ≡ Some id → (id ≡ 0) ⊎ IsHere state.instances id
target_is_here state cmd.Null id s started e = inl cc
target_is_here state (cmd.Named name) id s started e = inr (s.bound started name id e)

only_one : (instances : Instances) (id y : ℕ) → (id ≡ 0) ⊎ IsHere instances id → has y (id ∷ []) ≡ true → (y ≡ 0) ⊎ IsHere instances y
only_one instances id y here h = elim (or_cases (nat_eq y id) false h) [
  | inl same ↦ subst (λ (z : ℕ). (z ≡ 0) ⊎ IsHere instances z) (sym (eqb-true y id same)) here
  | inr none ↦ absurd cc
]

-- ---- the value that a `set` line gives

in_range : (z : ℤ) → is_in_range z ≡ true → FitsSigned w64 z
in_range (pos n) e = let l : n < 2 ^ 63 = ltb-true n (2 ^ 63) e in search rules
in_range (negsuc n) e = let l : n < 2 ^ 63 = ltb-true n (2 ^ 63) e in search rules

int_stands : (instances : Instances) (n : ℤ) (o : Option ℤ) → misfits (given_int o) ≡ false → is_out_of_range (given_int o) ≡ false → MayStand instances (Int n) (given_value (given_int o))
int_stands instances n None m r = absurd cc
int_stands instances n (Some z) m r = by (is_in_range z) refl m r
  where
    by : (b : Bool) → is_in_range z ≡ b → misfits (cond b (Fits (Int z)) OutOfRange) ≡ false → is_out_of_range (cond b (Fits (Int z)) OutOfRange) ≡ false
        → MayStand instances (Int n) (given_value (cond b (Fits (Int z)) OutOfRange))
    by true e m r = record { kind = refl; proper = in_range z e; names = λ y h. absurd cc }
    by false e m r = absurd cc

bytes_stand : (instances : Instances) (b : List ℕ) (o : Option (List ℕ)) → misfits (given_bytes o) ≡ false → MayStand instances (Bytes b) (given_value (given_bytes o))
bytes_stand instances b None m = absurd cc
bytes_stand instances b (Some bytes) m = record { kind = refl; proper = tt; names = λ y h. absurd cc }

ref_stands : (state : State) (old : ℕ) (o : Option Target) → IsSound state → state.started ≡ true → misfits (given_id Ref state o) ≡ false → is_unbound (given_id Ref state o) ≡ false
    → MayStand state.instances (Ref old) (given_value (given_id Ref state o))
ref_stands state old None s started m u = absurd cc
ref_stands state old (Some target) s started m u = by (target_id state (Some target)) refl u
  where
    by : (o : Option ℕ) → target_id state (Some target) ≡ o → is_unbound (found_id Ref o) ≡ false → MayStand state.instances (Ref old) (given_value (found_id Ref o))
    by None e u = absurd cc
    by (Some id) e u = record { kind = refl; proper = tt; names = λ y h. only_one state.instances id y (target_is_here state target id s started e) h }

lazy_stands : (state : State) (old : ℕ) (o : Option Target) → IsSound state → state.started ≡ true → misfits (given_id Lazy state o) ≡ false → is_unbound (given_id Lazy state o) ≡ false
    → MayStand state.instances (Lazy old) (given_value (given_id Lazy state o))
lazy_stands state old None s started m u = absurd cc
lazy_stands state old (Some target) s started m u = by (target_id state (Some target)) refl u
  where
    by : (o : Option ℕ) → target_id state (Some target) ≡ o → is_unbound (found_id Lazy o) ≡ false → MayStand state.instances (Lazy old) (given_value (found_id Lazy o))
    by None e u = absurd cc
    by (Some id) e u = record { kind = refl; proper = tt; names = λ y h. only_one state.instances id y (target_is_here state target id s started e) h }

given_stands : (state : State) (rest : List ℕ) (old : Value) → IsSound state → state.started ≡ true → IsUtf8 rest
    → misfits (given state rest (Some old)) ≡ false → is_out_of_range (given state rest (Some old)) ≡ false → is_unbound (given state rest (Some old)) ≡ false
    → MayStand state.instances old (given_value (given state rest (Some old)))
given_stands state rest (Int n) s started utf8 m r u = int_stands state.instances n (integer_of rest) m r
given_stands state rest (Text t) s started utf8 m r u = record { kind = refl; proper = utf8; names = λ y h. absurd cc }
given_stands state rest (Bytes b) s started utf8 m r u = bytes_stand state.instances b (hex_bytes rest) m
given_stands state rest (Ref id) s started utf8 m r u = ref_stands state id (target_of rest) s started m u
given_stands state rest (Lazy id) s started utf8 m r u = lazy_stands state id (target_of rest) s started m u
given_stands state rest (Refs ids) s started utf8 m r u = absurd cc

-- ---- the lines

-- the value of a bound name's member, set to one that may stand there
member_set : (state : State) (name member : List ℕ) (old value : Value) → IsSound state → state.started ≡ true → is_bound state name ≡ true
    → value_of state name member ≡ Some old → MayStand state.instances old value → IsSound (set_value state name member value)
member_set state name member old value s started is was may =
    value_set state (id_of state name) (named_instance state name) (unwrap_or (member_at state (named_instance state name) member) 0) old value s started
    (bound_here state name s started is) (value_stands state name member old was) may

pub there_is : {A : Type 0} (o : Option A) → is_none o ≡ false → (a : A) × (o ≡ Some a)
there_is None e = absurd cc
there_is (Some a) e = (a, refl)

pub set_line_sound : (state : State) (name member rest : List ℕ) → IsSound state → state.started ≡ true → IsUtf8 rest → IsSound (set_turn state name member rest).state
set_line_sound state name member rest s started utf8 = judged_sound state refusals (ok set) s
    (λ none. effect (not-false (is_bound state name) none.0) (there_is (value_of state name member) none.1.0) none.1.1.0 none.1.1.1.0 none.1.1.1.1.0)
  where
    value : Given
    value = given state rest (value_of state name member)

    set : State
    set = set_value state name member (given_value value)

    refusals : List Refusal
    refusals = no_name (not (is_bound state name)) ∷ no_member (lacks_member state name member) ∷ wrong_kind (misfits value) ∷ out_of_range (is_out_of_range value) ∷ no_name (is_unbound value) ∷ []

    effect : is_bound state name ≡ true → (old : Value) × (value_of state name member ≡ Some old)
        → misfits value ≡ false → is_out_of_range value ≡ false → is_unbound value ≡ false → IsSound set
    effect is old fits within found = member_set state name member old.0 (given_value value) s started is old.1
        (subst (λ (o : Option Value). MayStand state.instances old.0 (given_value (given state rest o))) (sym old.1)
        (given_stands state rest old.0 s started utf8
        (ap (λ (o : Option Value). misfits (given state rest o)) (sym old.1) ∙ fits)
        (ap (λ (o : Option Value). is_out_of_range (given state rest o)) (sym old.1) ∙ within)
        (ap (λ (o : Option Value). is_unbound (given state rest o)) (sym old.1) ∙ found)))

-- a value that has references is of `refs`
pub refs_only : (o : Option Value) → is_none (refs_in o) ≡ false → (ids : List ℕ) × (o ≡ Some (Refs ids))
refs_only None e = absurd cc
refs_only (Some (Int n)) e = absurd cc
refs_only (Some (Text t)) e = absurd cc
refs_only (Some (Bytes b)) e = absurd cc
refs_only (Some (Ref id)) e = absurd cc
refs_only (Some (Lazy id)) e = absurd cc
refs_only (Some (Refs ids)) e = (ids, refl)

-- other references of a `refs` member, each to an object in memory
refs_set : (state : State) (name member : List ℕ) (ids new : List ℕ) → IsSound state → state.started ≡ true → is_bound state name ≡ true
    → value_of state name member ≡ Some (Refs ids) → ((y : ℕ) → has y new ≡ true → (y ≡ 0) ⊎ IsHere state.instances y) → IsSound (set_value state name member (Refs new))
refs_set state name member ids new s started is was names = member_set state name member (Refs ids) (Refs new) s started is was (record { kind = refl; proper = tt; names = names })

pub add_line_sound : (state : State) (name member : List ℕ) (target : Target) → IsSound state → state.started ≡ true → IsSound (add_turn state name member target).state
add_line_sound state name member target s started = judged_sound state refusals (ok set) s
    (λ none. effect (not-false (is_bound state name) none.0) (refs_only (value_of state name member) none.1.1.0) (there_is (target_id state (Some target)) none.1.1.1.0))
  where
    old : Option Value
    old = value_of state name member

    added : Option Value → Option ℕ → List ℕ
    added o id = unwrap_or (refs_in o) [] ++ unwrap_or id 0 ∷ []

    set : State
    set = set_value state name member (Refs (unwrap_or (refs_in old) [] ++ unwrap_or (target_id state (Some target)) 0 ∷ []))

    refusals : List Refusal
    refusals = no_name (not (is_bound state name)) ∷ no_member (lacks_member state name member) ∷ wrong_kind (is_none (refs_in old)) ∷ no_name (is_none (target_id state (Some target))) ∷ []

    effect : is_bound state name ≡ true → (ids : List ℕ) × (old ≡ Some (Refs ids)) → (id : ℕ) × (target_id state (Some target) ≡ Some id) → IsSound set
    effect is refs id = subst (λ (o : Option Value). IsSound (set_value state name member (Refs (unwrap_or (refs_in o) [] ++ unwrap_or (target_id state (Some target)) 0 ∷ [])))) (sym refs.1)
        (subst (λ (o : Option ℕ). IsSound (set_value state name member (Refs (refs.0 ++ unwrap_or o 0 ∷ [])))) (sym id.1)
        (refs_set state name member refs.0 (refs.0 ++ id.0 ∷ []) s started is refs.1 (λ y h. elim (or_cases (has y refs.0) (has y (id.0 ∷ [])) (sym (has_append y refs.0 (id.0 ∷ [])) ∙ h)) [
          | inl before ↦ refs_are_here state name member refs.0 s started is refs.1 y before
          | inr new ↦ only_one state.instances id.0 y (target_is_here state target id.0 s started id.1) new
        ])))

cut_within : (xs : List ℕ) (index y : ℕ) → has y (without_at xs index) ≡ true → has y xs ≡ true
cut_within [] index y h = h
cut_within (x ∷ xs) index y h = by (nat_eq index 0) h (cut_within xs (index - 1) y)
  where
    by : (b : Bool) → has y (cond b xs (x ∷ without_at xs (index - 1))) ≡ true → (has y (without_at xs (index - 1)) ≡ true → has y xs ≡ true) → (nat_eq y x || has y xs) ≡ true
    by true h later = or_right (nat_eq y x) (has y xs) h
    by false h later = elim (or_cases (nat_eq y x) (has y (without_at xs (index - 1))) h) [
      | inl same ↦ or_left (nat_eq y x) (has y xs) same
      | inr behind ↦ or_right (nat_eq y x) (has y xs) (later behind)
    ]

pub cut_line_sound : (state : State) (name member : List ℕ) (index : ℕ) → IsSound state → state.started ≡ true → IsSound (cut_turn state name member index).state
cut_line_sound state name member index s started = judged_sound state refusals (ok set) s
    (λ none. effect (not-false (is_bound state name) none.0) (refs_only (value_of state name member) none.1.1.0))
  where
    old : Option Value
    old = value_of state name member

    set : State
    set = set_value state name member (Refs (without_at (unwrap_or (refs_in old) []) index))

    refusals : List Refusal
    refusals = no_name (not (is_bound state name)) ∷ no_member (lacks_member state name member) ∷ wrong_kind (is_none (refs_in old))
        ∷ out_of_range (nat_le (length (unwrap_or (refs_in old) [])) index) ∷ []

    effect : is_bound state name ≡ true → (ids : List ℕ) × (old ≡ Some (Refs ids)) → IsSound set
    effect is refs = subst (λ (o : Option Value). IsSound (set_value state name member (Refs (without_at (unwrap_or (refs_in o) []) index)))) (sym refs.1)
        (refs_set state name member refs.0 (without_at refs.0 index) s started is refs.1 (λ y h. refs_are_here state name member refs.0 s started is refs.1 y (cut_within refs.0 index y h)))

-- ---- the root

-- the root's one value is a reference
pub root_value : (types : List TypeDesc) (id : ℕ) (desc : TypeDesc) (vs : List Value) → nat_eq id 1 ≡ true → desc_of types id ≡ Some desc → AreOf (kinds_of desc) vs
    → (old : Value) × (slice_get vs 0 ≡ Some old) × (kind_of old ≡ kinds.Ref)
root_value types id desc vs root known are = of_root vs (subst (λ (d : TypeDesc). map kind_of vs ≡ kinds_of d) (is_root (desc_of types id) refl) are)
  where
    is_root : (o : Option TypeDesc) → desc_of types id ≡ o → desc ≡ root_desc
    is_root o e = let k : desc_of types id ≡ Some root_desc = ap (λ (b : Bool). cond b (Some root_desc) (cond (nat_le 16 id) (slice_get types (id - 16)) None)) root in cc

    of_root : (vs : List Value) → map kind_of vs ≡ kinds.Ref ∷ [] → (old : Value) × (slice_get vs 0 ≡ Some old) × (kind_of old ≡ kinds.Ref)
    of_root [] e = absurd cc
    of_root (v ∷ vs) e = (v, refl, cc)

pub root_line_sound : (state : State) (name : List ℕ) → IsSound state → state.started ≡ true → IsSound (root_turn state name).state
root_line_sound state name s started = judged_sound state (no_name (not (is_bound state name)) ∷ []) (ok set) s (λ none. effect (not-false (is_bound state name) none.0) (s.root started))
  where
    set : State
    set = with_value state 1 (unwrap_or (instance_at state.instances 1) nothing) 0 (Ref (id_of state name))

    effect : is_bound state name ≡ true → IsHere state.instances 1 → IsSound set
    effect is root = let right = s.each 1 root.0 root.1 in let old = root_value state.types root.0.object.type_id right.desc root.0.object.values right.root right.known right.kinds in
        subst (λ (o : Option Instance). IsSound (with_value state 1 (unwrap_or o nothing) 0 (Ref (id_of state name)))) (sym root.1)
        (value_set state 1 root.0 0 old.0 (Ref (id_of state name)) s started root.1 old.1
        (record { kind = sym old.2; proper = tt; names = λ y h. only_one state.instances (id_of state name) y (inr (named_instance state name, bound_here state name s started is)) h }))
