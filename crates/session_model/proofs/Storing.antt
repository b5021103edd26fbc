-- The lines `store` and `store-all`: the graph gets what was gathered, and what was gathered is saved.
use Rattle.std.proofs.Common.{◌≡◌, ℕ, ◌+◌, ◌*◌, ◌≤◌, Bool, true, false, not, List, [], ◌∷◌, length, length-append, slice_get, Option, Some, None, option_map, is_some, ◌⊎◌, inl, inr, refl, sym, ap, ◌∙◌, subst, arith, suc}
use Rattle.std.specs.Prelude.{nat_eq}
use Rattle.std.specs.List.{AllByRecursion, flat_map}
use Rattle.std.proofs.lemmas.Bool.{cases_Bool, eq-eqb, not-true, not_from_false, ne_eqb, cases_eq}
use Rattle.graph_model.specs.Ids.{has}
use Rattle.graph_model.specs.Graph.{Graph, edges, edges_of, entity_of, entity_size, has_edge, ids, lists, or_else, put_all}
use Rattle.graph_model.specs.Stores.{is_good_id}
use Rattle.graph_model.specs.declared.entity.Entity.{Entity}
use Rattle.graph_model.specs.declared.entity.Record.{Record}
use Rattle.graph_model.proofs.Graphs.{entity_of_put_all}
use Rattle.graph_model.proofs.Rising.{rises_put_all}
use Rattle.type_desc.specs.declared.desc.TypeDesc.{TypeDesc}
use Rattle.entity_form.specs.Values as form
use Rattle.entity_form.specs.Values.{IsHeld, plain_of, refs_of}
use Rattle.entity_form.specs.declared.value.Value.{Value}
use Rattle.entity_form.specs.declared.value.Value.TheVariants.{Int, Text, Bytes, Ref, Lazy, Refs}
use Rattle.session_model.specs.Instances.{Instance, Instances, instance_at, is_unsaved}
use Rattle.session_model.specs.Answer.{State, Refusal, are_too_big, gathered_records, id_of, is_bound, no_name, saved_instances, store_turn, stored, too_big}
use Rattle.session_model.specs.WellFormed.{IsWellFormed}
use Rattle.session_model.specs.Sound.{IsProper, IsRightGraph, IsRightInstance, IsSound, all_refs}
use Rattle.session_model.proofs.Finding.{at_saved, if_stored, rises_saved}
use Rattle.session_model.proofs.Frames.{KeepsEdges, KeepsHere, right_stays}
use Rattle.session_model.proofs.Gathering.{IsGathered, WasGathered, gathered_op, gathers, record_fits, was_gathered}
use Rattle.session_model.proofs.IdLists.{edge_is_listed, sifted, sifts}
use Rattle.session_model.proofs.Judging.{judged_sound}

-- ---- what fits an entity

value_held : (v : Value) → IsProper v → length (refs_of v) ≤ 1048576 → length (plain_of v) ≤ 1048576 → IsHeld v
value_held (Int n) proper refs plain = proper
value_held (Text t) proper refs plain = (proper, omega (arith, length-append {A = ℕ}))
value_held (Bytes b) proper refs plain = omega (arith, length-append {A = ℕ})
value_held (Ref id) proper refs plain = tt
value_held (Lazy id) proper refs plain = tt
value_held (Refs ids) proper refs plain = omega arith

values_held : (vs : List Value) → ((at : ℕ) (v : Value) → slice_get vs at ≡ Some v → IsProper v) → length (flat_map refs_of vs) ≤ 1048576 → length (flat_map plain_of vs) ≤ 1048576 → AllByRecursion IsHeld vs
values_held [] proper refs plain = tt
values_held (v ∷ vs) proper refs plain =
    let r : length (flat_map refs_of (v ∷ vs)) ≡ length (refs_of v) + length (flat_map refs_of vs) = length-append (refs_of v) (flat_map refs_of vs) in
    let p : length (flat_map plain_of (v ∷ vs)) ≡ length (plain_of v) + length (flat_map plain_of vs) = length-append (plain_of v) (flat_map plain_of vs) in
    (value_held v (proper 0 v refl) (omega arith) (omega arith), values_held vs (λ at w is. proper (suc at) w is) (omega arith) (omega arith))

-- the entity of an instance has its form
instance_form : (types : List TypeDesc) (next : ℕ) (g : Graph) (hs : Instances) (x : ℕ) (i : Instance) → IsRightInstance types next g hs x i
    → entity_size (form.entity_of i.object) ≤ 1048576 → IsWellFormed types x (form.entity_of i.object)
instance_form types next g hs x i right small = record {
  desc = right.desc;
  known = right.known;
  values = i.object.values;
  holds = record { of_kinds = right.kinds; held = values_held i.object.values right.proper refs_fit plain_fit; refs_are = refl; plain_are = refl };
  root = right.root;
}
  where
    size : 32 + 8 * length (flat_map refs_of i.object.values) + length (flat_map plain_of i.object.values) ≤ 1048576
    size = small

    refs_fit : length (flat_map refs_of i.object.values) ≤ 1048576
    refs_fit = let s = size in omega arith

    plain_fit : length (flat_map plain_of i.object.values) ≤ 1048576
    plain_fit = let s = size in omega arith

-- what an instance names is an edge of its entity
edge_of_entity : (i : Instance) (y : ℕ) → has y (all_refs i) ≡ true → nat_eq y 0 ≡ false → has y (edges (form.entity_of i.object)) ≡ true
edge_of_entity i y h other = sifts (λ (z : ℕ). not (nat_eq z 0)) (all_refs i) y (not_from_false (nat_eq y 0) other) h

-- ---- the graph

-- an id is stored, or its entity is the one before
record IsStored (hs : Instances) (xs : List ℕ) (g : Graph) (y : ℕ) : Type 0 where
  pub entity : Entity
  pub gathered : WasGathered hs xs y entity
  pub is : entity_of (put_all (gathered_records hs xs) g) y ≡ Some entity

record IsLeft (hs : Instances) (xs : List ℕ) (g : Graph) (y : ℕ) : Type 0 where
  pub none : entity_of (gathered_records hs xs) y ≡ None
  pub is : entity_of (put_all (gathered_records hs xs) g) y ≡ entity_of g y

stored_or_left : (hs : Instances) (xs : List ℕ) (g : Graph) (y : ℕ) → IsStored hs xs g y ⊎ IsLeft hs xs g y
stored_or_left hs xs g y = by (entity_of (gathered_records hs xs) y) refl (entity_of_put_all (gathered_records hs xs) g y)
  where
    by : (o : Option Entity) → entity_of (gathered_records hs xs) y ≡ o
        → entity_of (put_all (gathered_records hs xs) g) y ≡ or_else (entity_of (gathered_records hs xs) y) (entity_of g y) → IsStored hs xs g y ⊎ IsLeft hs xs g y
    by None e is = inr (record { none = e; is = is ∙ ap (λ (p : Option Entity). or_else p (entity_of g y)) e })
    by (Some entity) e is = inl (record { entity = entity; gathered = was_gathered hs xs y entity e; is = is ∙ ap (λ (p : Option Entity). or_else p (entity_of g y)) e })

listed_now : (hs : Instances) (xs : List ℕ) (g : Graph) (y : ℕ) → lists g y ≡ true → lists (put_all (gathered_records hs xs) g) y ≡ true
listed_now hs xs g y there = elim (stored_or_left hs xs g y) [
  | inl s ↦ ap (λ (o : Option Entity). is_some o) s.is
  | inr l ↦ ap (λ (o : Option Entity). is_some o) l.is ∙ there
]

-- the graph has what was gathered
gathered_listed : (hs : Instances) (xs : List ℕ) (g : Graph) (y : ℕ) (i : Instance) → instance_at hs y ≡ Some i → has y xs ≡ true
    → entity_of (put_all (gathered_records hs xs) g) y ≡ Some (form.entity_of i.object)
gathered_listed hs xs g y i at within = entity_of_put_all (gathered_records hs xs) g y ∙ ap (λ (p : Option Entity). or_else p (entity_of g y)) (gathers hs xs y i at within)

-- what a gathered instance names is in the graph then
named_is_listed : (state : State) → IsSound state → (x : ℕ) (xs : List ℕ) → IsGathered state.instances x xs
    → (y : ℕ) (i : Instance) → instance_at state.instances y ≡ Some i → has y xs ≡ true
    → (z : ℕ) → has z (all_refs i) ≡ true → nat_eq z 0 ≡ false → lists (put_all (gathered_records state.instances xs) state.graph) z ≡ true
named_is_listed state s x xs g y i at within z named other = elim (right.lazy z named) [
  | inl nothing ↦ let t = eq-eqb z 0 nothing in absurd cc
  | inr (inl there) ↦ here there.0 there.1 (cases_Bool there.0.saved)
  | inr (inr edge) ↦ listed_now state.instances xs state.graph z (s.graph.whole y z (edge_is_listed state.graph y z edge) edge)
]
  where
    right : IsRightInstance state.types state.next_id state.graph state.instances y i
    right = s.each y i at

    here : (j : Instance) → instance_at state.instances z ≡ Some j → (j.saved ≡ true) ⊎ (j.saved ≡ false) → lists (put_all (gathered_records state.instances xs) state.graph) z ≡ true
    here j there (inl saved) = listed_now state.instances xs state.graph z ((s.each z j there).saved ∙ saved)
    here j there (inr unsaved) =
        let u : is_unsaved (instance_at state.instances z) ≡ true = ap is_unsaved there ∙ not_from_false j.saved unsaved in
        ap (λ (o : Option Entity). is_some o) (gathered_listed state.instances xs state.graph z j there (g.closed y i z within at named other u))

same_entity : (a b : Entity) → ◌≡◌ {A = Option Entity} (Some a) (Some b) → a ≡ b
same_entity a b e = cc

graph_stored : (state : State) → IsSound state → (x : ℕ) (xs : List ℕ) → IsGathered state.instances x xs → (most : ℕ) → are_too_big most (gathered_records state.instances xs) ≡ false
    → IsRightGraph state.types state.next_id (put_all (gathered_records state.instances xs) state.graph)
graph_stored state s x xs g most small = record {
  order = rises_put_all records state.graph s.graph.order;
  good_ids = λ y there. good y there (stored_or_left hs xs state.graph y);
  forms = λ y entity is. has_form y entity is (stored_or_left hs xs state.graph y);
  sizes = λ y entity is. has_size y entity is (stored_or_left hs xs state.graph y);
  whole = λ y z there edge. is_whole y z edge (stored_or_left hs xs state.graph y);
}
  where
    hs : Instances
    hs = state.instances

    records : List Record
    records = gathered_records state.instances xs

    good : (y : ℕ) → lists (put_all records state.graph) y ≡ true → IsStored hs xs state.graph y ⊎ IsLeft hs xs state.graph y → is_good_id state.next_id y ≡ true
    good y there (inl t) = (s.each y t.gathered.instance t.gathered.at).good_id
    good y there (inr l) = s.graph.good_ids y (sym (ap (λ (o : Option Entity). is_some o) l.is) ∙ there)

    has_form : (y : ℕ) (entity : Entity) → entity_of (put_all records state.graph) y ≡ Some entity → IsStored hs xs state.graph y ⊎ IsLeft hs xs state.graph y → IsWellFormed state.types y entity
    has_form y entity is (inl t) =
        let i = t.gathered.instance in
        let same : form.entity_of i.object ≡ entity = t.gathered.is ∙ same_entity t.entity entity (sym t.is ∙ is) in
        let fits = record_fits most records y (form.entity_of i.object) small (gathers hs xs y i t.gathered.at t.gathered.within) in
        subst (IsWellFormed state.types y) same (instance_form state.types state.next_id state.graph hs y i (s.each y i t.gathered.at) fits)
    has_form y entity is (inr l) = s.graph.forms y entity (sym l.is ∙ is)

    has_size : (y : ℕ) (entity : Entity) → entity_of (put_all records state.graph) y ≡ Some entity → IsStored hs xs state.graph y ⊎ IsLeft hs xs state.graph y → entity_size entity ≤ 1048576
    has_size y entity is (inl t) =
        let i = t.gathered.instance in
        let same : form.entity_of i.object ≡ entity = t.gathered.is ∙ same_entity t.entity entity (sym t.is ∙ is) in
        subst (λ (e : Entity). entity_size e ≤ 1048576) same (record_fits most records y (form.entity_of i.object) small (gathers hs xs y i t.gathered.at t.gathered.within))
    has_size y entity is (inr l) = s.graph.sizes y entity (sym l.is ∙ is)

    is_whole : (y z : ℕ) → has_edge (put_all records state.graph) y z ≡ true → IsStored hs xs state.graph y ⊎ IsLeft hs xs state.graph y → lists (put_all records state.graph) z ≡ true
    is_whole y z edge (inl t) =
        let i = t.gathered.instance in
        let at_entity : has z (edges (form.entity_of i.object)) ≡ true = subst (λ (e : Entity). has z (edges e) ≡ true) (sym t.gathered.is) (sym (ap (λ (o : Option Entity). has z (edges_of o)) t.is) ∙ edge) in
        let parts = sifted (λ (w : ℕ). not (nat_eq w 0)) (all_refs i) z at_entity in
        named_is_listed state s x xs g y i t.gathered.at t.gathered.within z parts.1 (not-true (nat_eq z 0) parts.0)
    is_whole y z edge (inr l) =
        let before : has_edge state.graph y z ≡ true = sym (ap (λ (o : Option Entity). has z (edges_of o)) l.is) ∙ edge in
        listed_now hs xs state.graph z (s.graph.whole y z (edge_is_listed state.graph y z before) before)

-- ---- the instances

here_saved : (hs : Instances) (xs : List ℕ) → KeepsHere hs (saved_instances hs xs)
here_saved hs xs y there = (if_stored (has y xs) there.0, at_saved hs xs y ∙ ap (option_map (if_stored (has y xs))) there.1)

-- an instance that was stored
stored_right : (state : State) → IsSound state → (xs : List ℕ) (y : ℕ) (i : Instance) → instance_at state.instances y ≡ Some i → has y xs ≡ true
    → IsRightInstance state.types state.next_id (put_all (gathered_records state.instances xs) state.graph) (saved_instances state.instances xs) y (record i { saved = true; changed = false })
stored_right state s xs y i at within = record {
  good_id = right.good_id;
  desc = right.desc;
  known = right.known;
  kinds = right.kinds;
  root = right.root;
  proper = right.proper;
  saved = ap (λ (o : Option Entity). is_some o) is;
  eager = λ z h. elim (right.eager z h) [ inl nothing ↦ inl nothing | inr there ↦ inr (here_saved state.instances xs z there) ];
  lazy = λ z h. elim (edge z h (cases_eq z 0)) [ inl nothing ↦ inl nothing | inr e ↦ inr (inr e) ];
  same = λ unchanged z h. edge z h (cases_eq z 0);
}
  where
    right : IsRightInstance state.types state.next_id state.graph state.instances y i
    right = s.each y i at

    is : entity_of (put_all (gathered_records state.instances xs) state.graph) y ≡ Some (form.entity_of i.object)
    is = gathered_listed state.instances xs state.graph y i at within

    edge : (z : ℕ) → has z (all_refs i) ≡ true → (z ≡ 0) ⊎ (z ≡ 0 → ⊥) → (z ≡ 0) ⊎ (has_edge (put_all (gathered_records state.instances xs) state.graph) y z ≡ true)
    edge z h (inl nothing) = inl nothing
    edge z h (inr other) = inr (ap (λ (o : Option Entity). has z (edges_of o)) is ∙ edge_of_entity i z h (ne_eqb z 0 other))

-- one that was not
left_right : (state : State) → IsSound state → (xs : List ℕ) (y : ℕ) (i : Instance) → instance_at state.instances y ≡ Some i → has y xs ≡ false
    → IsRightInstance state.types state.next_id (put_all (gathered_records state.instances xs) state.graph) (saved_instances state.instances xs) y i
left_right state s xs y i at without = right_stays state.types state.types state.next_id state.next_id state.graph (put_all (gathered_records state.instances xs) state.graph)
    state.instances (saved_instances state.instances xs) y i (λ id desc e. e) (omega arith) (left (stored_or_left state.instances xs state.graph y)) (here_saved state.instances xs) (s.each y i at)
  where
    left : IsStored state.instances xs state.graph y ⊎ IsLeft state.instances xs state.graph y → KeepsEdges state.graph (put_all (gathered_records state.instances xs) state.graph) y
    left (inl t) = absurd (cc (t.gathered.within, without))
    left (inr l) = record { listed = ap (λ (o : Option Entity). is_some o) l.is; edges = λ z e. ap (λ (o : Option Entity). has z (edges_of o)) l.is ∙ e }

each_right : (state : State) → IsSound state → (xs : List ℕ) (y : ℕ) (j : Instance) → instance_at (saved_instances state.instances xs) y ≡ Some j
    → IsRightInstance state.types state.next_id (put_all (gathered_records state.instances xs) state.graph) (saved_instances state.instances xs) y j
each_right state s xs y j at = by (instance_at state.instances y) (has y xs) refl refl (sym (at_saved state.instances xs y) ∙ at)
  where
    by : (o : Option Instance) (b : Bool) → instance_at state.instances y ≡ o → has y xs ≡ b → option_map (if_stored (has y xs)) (instance_at state.instances y) ≡ Some j
        → IsRightInstance state.types state.next_id (put_all (gathered_records state.instances xs) state.graph) (saved_instances state.instances xs) y j
    by None b e f is = let none : ◌≡◌ {A = Option Instance} None (Some j) = sym (ap (option_map (if_stored (has y xs))) e) ∙ is in absurd cc
    by (Some i) true e f is =
        let now : ◌≡◌ {A = Option Instance} (Some (if_stored true i)) (Some j) = sym (ap (option_map (if_stored true)) e) ∙ (sym (ap (λ (b : Bool). option_map (if_stored b) (instance_at state.instances y)) f) ∙ is) in
        let same : if_stored true i ≡ j = cc in
        subst (IsRightInstance state.types state.next_id (put_all (gathered_records state.instances xs) state.graph) (saved_instances state.instances xs) y) same (stored_right state s xs y i e f)
    by (Some i) false e f is =
        let now : ◌≡◌ {A = Option Instance} (Some (if_stored false i)) (Some j) = sym (ap (option_map (if_stored false)) e) ∙ (sym (ap (λ (b : Bool). option_map (if_stored b) (instance_at state.instances y)) f) ∙ is) in
        let same : if_stored false i ≡ j = cc in
        subst (IsRightInstance state.types state.next_id (put_all (gathered_records state.instances xs) state.graph) (saved_instances state.instances xs) y) same (left_right state s xs y i e f)

-- ---- the line

store_sound : (state : State) → IsSound state → state.started ≡ true → (x : ℕ) (xs : List ℕ) → IsGathered state.instances x xs → (most : ℕ) → are_too_big most (gathered_records state.instances xs) ≡ false
    → IsSound (stored state xs (gathered_op state xs)).state
store_sound state s started x xs g most small = record {
  types = s.types;
  pairs = s.pairs;
  root_spared = s.root_spared;
  low = s.low;
  high = s.high;
  graph = graph_stored state s x xs g most small;
  order = rises_saved state.instances xs s.order;
  each = each_right state s xs;
  distinct = s.distinct;
  root_name = s.root_name;
  bound = λ begun name y is. here_saved state.instances xs y (s.bound begun name y is);
  root = λ begun. here_saved state.instances xs 1 (s.root begun);
  unstarted = λ unbegun. absurd (cc (started, unbegun));
  unbound = λ unbegun. absurd (cc (started, unbegun));
}

pub store_line_sound : (most : ℕ) (state : State) (name : List ℕ) (gather : Instances → ℕ → List ℕ) → ((hs : Instances) (x : ℕ) → IsGathered hs x (gather hs x))
    → IsSound state → state.started ≡ true → IsSound (store_turn most state name gather).state
store_line_sound most state name gather gathers_all s started = judged_sound state refusals (stored state xs (gathered_op state xs)) s
    (λ none. store_sound state s started (id_of state name) xs (gathers_all state.instances (id_of state name)) most none.1.0)
  where
    xs : List ℕ
    xs = gather state.instances (id_of state name)

    refusals : List Refusal
    refusals = no_name (not (is_bound state name)) ∷ too_big (are_too_big most (gathered_records state.instances xs)) ∷ []
