-- The lines that bind a name, and the one that drops it: `new`, `home`, `pick` and `drop`.
use Rattle.std.proofs.Common.{◌≡◌, ℕ, pos, ◌+◌, ◌<◌, ◌≤◌, ◌^◌, true, false, not, ◌&&◌, ◌||◌, List, [], ◌∷◌, ◌++◌, codes, decimal, length, map, slice_get, Option, Some, is_none, unwrap_or, FitsSigned, ◌⊎◌, inl, inr, refl, sym, ap, ◌∙◌, subst, arith, zero, suc, w64, rules}
use Rattle.std.specs.Prelude.{nat_eq, nat_le, nat_lt}
use Rattle.std.specs.List.{flat_map}
use Rattle.std.proofs.lemmas.Bool.{and_from, and_parts, eqb-true, eq-eqb, le-leb, leb-false, lt-ltb, ltb-true, ne_eqb, not-false, or_cases, or_left, or_right, or_parts, false_from_ne_true}
use Rattle.std.proofs.lemmas.Str.{IsUtf8-nil}
use Rattle.graph_model.specs.Ids.{has}
use Rattle.graph_model.specs.Graph.{Graph, lists}
use Rattle.graph_model.specs.Stores.{is_good_id}
use Rattle.graph_model.proofs.IdSets.{has_append}
use Rattle.type_desc.specs.declared.desc.Kind.{Kind}
use Rattle.type_desc.specs.declared.desc.Kind.TheVariants as kinds
use Rattle.type_desc.specs.declared.desc.TypeDesc.{TypeDesc}
use Rattle.type_dictionary.specs.Latest.{desc_of, latest_of}
use Rattle.entity_form.specs.Values.{default_of, kind_of, kinds_of, refs_of}
use Rattle.entity_form.proofs.DefaultKinds.{kinds_of-defaults}
use Rattle.entity_form.specs.declared.value.Value.{Value}
use Rattle.entity_form.specs.declared.value.Value.TheVariants.{Int, Text, Bytes, Ref, Lazy, Refs}
use Rattle.session_model.specs.Types.{is_root_type, desc_at, latest_desc}
use Rattle.session_model.specs.Instances.{Instance, Instances, eager_refs_of, instance_at, put_instance}
use Rattle.session_model.specs.Answer.{State, Refusal, answered, bound, drop_turn, fresh, home_turn, is_bound, is_full, is_root_name, lacks_member, name_taken, new_turn, no_desc, no_member, no_name, no_root, no_target, no_type, nothing, ok, out_of_range, pick_turn, ref_in, refs_in, reserved, root_target, value_in, value_of, wrong_kind}
use Rattle.session_model.specs.Sound.{IsHere, IsProper, IsRightInstance, IsSound}
use Rattle.session_model.proofs.Bindings.{dropped}
use Rattle.session_model.proofs.Changing.{eager_within, instance_put, is_put}
use Rattle.session_model.proofs.Declaring.{latest_recorded}
use Rattle.session_model.proofs.Frames.{name_bound, name_dropped}
use Rattle.session_model.proofs.Judging.{judged_sound}
use Rattle.session_model.proofs.Setting.{named_by_value, refs_are_here, refs_only, root_value, there_is}

-- ---- a new object

pub default_proper : (kind : Kind) → IsProper (default_of kind)
default_proper kinds.Int = let fits : FitsSigned w64 (pos 0) = search rules in fits
default_proper kinds.Text = IsUtf8-nil
default_proper kinds.Bytes = tt
default_proper kinds.Ref = tt
default_proper kinds.Lazy = tt
default_proper kinds.Refs = tt

pub defaults_proper : (ks : List Kind) (at : ℕ) (v : Value) → slice_get (map default_of ks) at ≡ Some v → IsProper v
defaults_proper [] at v e = absurd cc
defaults_proper (k ∷ ks) zero v e = let same : default_of k ≡ v = cc in subst IsProper same (default_proper k)
defaults_proper (k ∷ ks) (suc at) v e = defaults_proper ks at v e

pub default_names : (kind : Kind) (y : ℕ) → has y (refs_of (default_of kind)) ≡ true → y ≡ 0
default_names kinds.Int y h = absurd cc
default_names kinds.Text y h = absurd cc
default_names kinds.Bytes y h = absurd cc
default_names kinds.Ref y h = elim (or_cases (nat_eq y 0) false h) [ inl same ↦ eqb-true y 0 same | inr none ↦ absurd cc ]
default_names kinds.Lazy y h = elim (or_cases (nat_eq y 0) false h) [ inl same ↦ eqb-true y 0 same | inr none ↦ absurd cc ]
default_names kinds.Refs y h = absurd cc

-- default values name nothing
pub defaults_name : (ks : List Kind) (y : ℕ) → has y (flat_map refs_of (map default_of ks)) ≡ true → y ≡ 0
defaults_name [] y h = absurd cc
defaults_name (k ∷ ks) y h = elim (or_cases (has y (refs_of (default_of k))) (has y (flat_map refs_of (map default_of ks))) (sym (has_append y (refs_of (default_of k)) (flat_map refs_of (map default_of ks))) ∙ h)) [
  | inl first ↦ default_names k y first
  | inr later ↦ defaults_name ks y later
]

pub eager_are_refs : (vs : List Value) (y : ℕ) → has y (flat_map eager_refs_of vs) ≡ true → has y (flat_map refs_of vs) ≡ true
eager_are_refs [] y h = h
eager_are_refs (v ∷ vs) y h = has_append y (refs_of v) (flat_map refs_of vs) ∙ (elim (or_cases (has y (eager_refs_of v)) (has y (flat_map eager_refs_of vs)) (sym (has_append y (eager_refs_of v) (flat_map eager_refs_of vs)) ∙ h)) [
  | inl first ↦ or_left (has y (refs_of v)) (has y (flat_map refs_of vs)) (eager_within v y first)
  | inr later ↦ or_right (has y (refs_of v)) (has y (flat_map refs_of vs)) (eager_are_refs vs y later)
])

pub fresh_right : (types : List TypeDesc) (next : ℕ) (g : Graph) (hs : Instances) (x type_id : ℕ) (desc : TypeDesc) → is_good_id next x ≡ true → desc_of types type_id ≡ Some desc
    → nat_eq type_id 1 ≡ nat_eq x 1 → lists g x ≡ false → IsRightInstance types next g hs x (fresh type_id desc)
fresh_right types next g hs x type_id desc good known root absent = record {
  good_id = good;
  desc = desc;
  known = known;
  kinds = kinds_of-defaults (kinds_of desc);
  root = root;
  proper = defaults_proper (kinds_of desc);
  saved = absent;
  eager = λ y h. inl (defaults_name (kinds_of desc) y (eager_are_refs (map default_of (kinds_of desc)) y h));
  lazy = λ y h. inl (defaults_name (kinds_of desc) y h);
  same = λ unchanged y h. inl (defaults_name (kinds_of desc) y h);
}

-- an id from the next one on is not in the graph
next_is_absent : (state : State) → IsSound state → lists state.graph state.next_id ≡ false
next_is_absent state s = false_from_ne_true (lists state.graph state.next_id) (λ there. elim (or_cases (nat_eq state.next_id 1) (nat_le 1024 state.next_id && nat_lt state.next_id state.next_id) (s.graph.good_ids state.next_id there)) [
  | inl root ↦ let e = eqb-true state.next_id 1 root in let low = s.low in absurd (omega arith)
  | inr below ↦ let l = ltb-true state.next_id state.next_id (and_parts (nat_le 1024 state.next_id) (nat_lt state.next_id state.next_id) below).1 in absurd (omega arith)
])

-- an object of a recorded type under the next id, and its name
object_made : (state : State) (name : List ℕ) (type_id : ℕ) (desc : TypeDesc) → IsSound state → state.started ≡ true → is_root_name name ≡ false → is_bound state name ≡ false
    → state.next_id < 2 ^ 48 → desc_of state.types type_id ≡ Some desc → 16 ≤ type_id
    → IsSound (record (bound state name state.next_id) { next_id = state.next_id + 1; instances = put_instance state.next_id (fresh type_id desc) state.instances })
object_made state name type_id desc s started other free room known low =
    name_bound (record state { next_id = id + 1; instances = put_instance id (fresh type_id desc) state.instances }) name id
    (instance_put state id (fresh type_id desc) (id + 1) s started (omega arith) (omega arith)
    (fresh_right state.types (id + 1) state.graph (put_instance id (fresh type_id desc) state.instances) id type_id desc good known (not_one type_id type_above ∙ sym (not_one id id_above)) (next_is_absent state s)))
    started free other (fresh type_id desc, is_put id (fresh type_id desc) state.instances)
  where
    id : ℕ
    id = state.next_id

    not_one : (n : ℕ) → 1 < n → nat_eq n 1 ≡ false
    not_one n above = ne_eqb n 1 (λ e. absurd (omega arith))

    type_above : 1 < type_id
    type_above = omega arith

    id_above : 1 < id
    id_above = let low = s.low in omega arith

    good : is_good_id (id + 1) id ≡ true
    good = let low = s.low in or_right (nat_eq id 1) (nat_le 1024 id && nat_lt id (id + 1)) (and_from (nat_le 1024 id) (nat_lt id (id + 1)) (le-leb 1024 id low) (lt-ltb id (id + 1) (omega arith)))

pub new_line_sound : (state : State) (name type_name : List ℕ) → IsSound state → state.started ≡ true → IsSound (new_turn state name type_name).state
new_line_sound state name type_name s started = judged_sound state refusals (answered made (codes "new " ++ decimal state.next_id)) s
    (λ none. let t = or_parts (is_root_name name) (is_root_type type_name) none.0 in
    effect t.0 none.1.0 (there_is (latest_of state.types type_name) none.1.1.0) t.1 (leb-false (2 ^ 48) state.next_id none.1.1.1.0))
  where
    made_of : Option ℕ → Option TypeDesc → State
    made_of id desc = record (bound state name state.next_id) { next_id = state.next_id + 1; instances = put_instance state.next_id (fresh (unwrap_or id 0) (unwrap_or desc no_desc)) state.instances }

    made : State
    made = record (bound state name state.next_id) {
      next_id = state.next_id + 1;
      instances = put_instance state.next_id (fresh (unwrap_or (latest_of state.types type_name) 0) (unwrap_or (latest_desc state.types type_name) no_desc)) state.instances;
    }

    refusals : List Refusal
    refusals = reserved (is_root_name name || is_root_type type_name) ∷ name_taken (is_bound state name) ∷ no_type (is_none (latest_of state.types type_name)) ∷ is_full (nat_le (2 ^ 48) state.next_id) ∷ []

    effect : is_root_name name ≡ false → is_bound state name ≡ false → (id : ℕ) × (latest_of state.types type_name ≡ Some id) → is_root_type type_name ≡ false → state.next_id < 2 ^ 48 → IsSound made
    effect other free latest plain room =
        let r = latest_recorded state.types type_name latest.0 plain latest.1 in
        let known : latest_desc state.types type_name ≡ Some r.desc = ap (λ (o : Option ℕ). desc_at state.types o) latest.1 ∙ r.known in
        subst (λ (d : Option TypeDesc). IsSound (made_of (latest_of state.types type_name) d)) (sym known)
        (subst (λ (o : Option ℕ). IsSound (made_of o (Some r.desc))) (sym latest.1)
        (object_made state name latest.0 r.desc s started other free room r.known r.low))

-- ---- names of objects that are there

here_unless : (instances : Instances) (y : ℕ) → nat_eq y 0 ≡ false → (y ≡ 0) ⊎ IsHere instances y → IsHere instances y
here_unless instances y other (inl nothing) = let t = eq-eqb y 0 nothing in absurd cc
here_unless instances y other (inr there) = there

-- the root's target is no object, or is in memory
target_here : (state : State) → IsSound state → state.started ≡ true → (root_target state ≡ 0) ⊎ IsHere state.instances (root_target state)
target_here state s started = by (s.root started)
  where
    of_value : (i : Instance) → instance_at state.instances 1 ≡ Some i → (old : Value) → slice_get i.object.values 0 ≡ Some old → kind_of old ≡ kinds.Ref
        → (unwrap_or (ref_in (Some old)) 0 ≡ 0) ⊎ IsHere state.instances (unwrap_or (ref_in (Some old)) 0)
    of_value i at (Int n) is kind = absurd cc
    of_value i at (Text t) is kind = absurd cc
    of_value i at (Bytes b) is kind = absurd cc
    of_value i at (Ref id) is kind = (s.each 1 i at).eager id (named_by_value eager_refs_of i.object.values 0 (Ref id) id is (or_left (nat_eq id id) false (eq-eqb id id refl)))
    of_value i at (Lazy id) is kind = absurd cc
    of_value i at (Refs ids) is kind = absurd cc

    by : IsHere state.instances 1 → (root_target state ≡ 0) ⊎ IsHere state.instances (root_target state)
    by root = let right = s.each 1 root.0 root.1 in
        let old = root_value state.types root.0.object.type_id right.desc root.0.object.values right.root right.known right.kinds in
        let target : Option Instance → ℕ = λ (o : Option Instance). unwrap_or (ref_in (value_in (unwrap_or o nothing) (Some 0))) 0 in
        let same : root_target state ≡ unwrap_or (ref_in (Some old.0)) 0 = ap target root.1 ∙ ap (λ (o : Option Value). unwrap_or (ref_in o) 0) old.1 in
        subst (λ (y : ℕ). (y ≡ 0) ⊎ IsHere state.instances y) (sym same) (of_value root.0 root.1 old.0 old.1 old.2)

pub home_line_sound : (state : State) (name : List ℕ) → IsSound state → state.started ≡ true → IsSound (home_turn state name).state
home_line_sound state name s started = judged_sound state (reserved (is_root_name name) ∷ name_taken (is_bound state name) ∷ no_root (nat_eq (root_target state) 0) ∷ []) (ok (bound state name (root_target state))) s
    (λ none. name_bound state name (root_target state) s started none.1.0 none.0 (here_unless state.instances (root_target state) none.1.1.0 (target_here state s started)))

-- what is read from a list, unless it is nothing, is one of its ids
picked : (ids : List ℕ) (index : ℕ) → nat_eq (unwrap_or (slice_get ids index) 0) 0 ≡ false → has (unwrap_or (slice_get ids index) 0) ids ≡ true
picked [] index other = absurd cc
picked (x ∷ ids) zero other = or_left (nat_eq x x) (has x ids) (eq-eqb x x refl)
picked (x ∷ ids) (suc index) other = or_right (nat_eq (unwrap_or (slice_get ids index) 0) x) (has (unwrap_or (slice_get ids index) 0) ids) (picked ids index other)

pub pick_line_sound : (state : State) (name member : List ℕ) (index : ℕ) (new : List ℕ) → IsSound state → state.started ≡ true → IsSound (pick_turn state name member index new).state
pick_line_sound state name member index new s started = judged_sound state refusals (ok (bound state new target)) s
    (λ none. name_bound state new target s started none.1.1.1.1.1.0 none.1.1.1.1.0
    (effect (not-false (is_bound state name) none.0) (refs_only (value_of state name member) none.1.1.0) none.1.1.1.1.1.1.0))
  where
    read : Option Value → ℕ
    read o = unwrap_or (slice_get (unwrap_or (refs_in o) []) index) 0

    target : ℕ
    target = unwrap_or (slice_get (unwrap_or (refs_in (value_of state name member)) []) index) 0

    refusals : List Refusal
    refusals = no_name (not (is_bound state name)) ∷ no_member (lacks_member state name member) ∷ wrong_kind (is_none (refs_in (value_of state name member)))
        ∷ out_of_range (nat_le (length (unwrap_or (refs_in (value_of state name member)) [])) index) ∷ reserved (is_root_name new) ∷ name_taken (is_bound state new) ∷ no_target (nat_eq target 0) ∷ []

    effect : is_bound state name ≡ true → (ids : List ℕ) × (value_of state name member ≡ Some (Refs ids)) → nat_eq target 0 ≡ false → IsHere state.instances target
    effect is refs other =
        let same : target ≡ unwrap_or (slice_get refs.0 index) 0 = ap read refs.1 in
        let other' : nat_eq (unwrap_or (slice_get refs.0 index) 0) 0 ≡ false = ap (λ (y : ℕ). nat_eq y 0) (sym same) ∙ other in
        subst (IsHere state.instances) (sym same) (here_unless state.instances (unwrap_or (slice_get refs.0 index) 0) other'
        (refs_are_here state name member refs.0 s started is refs.1 (unwrap_or (slice_get refs.0 index) 0) (picked refs.0 index other')))

pub drop_line_sound : (state : State) (name : List ℕ) → IsSound state → IsSound (drop_turn state name).state
drop_line_sound state name s = judged_sound state (reserved (is_root_name name) ∷ no_name (not (is_bound state name)) ∷ []) (ok (record state { names = dropped name state.names })) s
    (λ none. name_dropped state name s none.0)
