-- What the storers gather is closed under what is not saved yet, so that it is a store that may be made.
use Rattle.std.proofs.Common.{◌≡◌, ℕ, ◌-◌, ◌<◌, ◌≤◌, ◌^◌, Bool, true, false, cond, not, ◌&&◌, ◌||◌, List, [], ◌∷◌, length, sum_by, Option, Some, None, option_map, ◌⊎◌, inl, inr, refl, sym, ap, ◌∙◌, subst, arith}
use Rattle.std.specs.Prelude.{nat_eq, nat_le, nat_lt, is_some, slice_get}
use Rattle.std.specs.List.{filter, flat_map, list_all, list_any}
use Rattle.std.proofs.lemmas.Bool.{and_from, eqb-true, eq-eqb, leb-true, le-leb, ltb-false, or_left, or_right, or_parts, not-true, not_from_false, cases_Bool}
use Rattle.graph_model.specs.Ids.{has, rises}
use Rattle.graph_model.specs.Graph.{edges, edges_of, entity_of, entity_size, has_edge, ids, lists}
use Rattle.graph_model.specs.Stores.{is_good_edge, is_good_id, is_good_record, is_held_or_root, is_old_edge, is_valid_store, total_size}
use Rattle.graph_model.specs.declared.entity.Entity.{Entity}
use Rattle.graph_model.specs.declared.entity.Record.{Record}
use Rattle.graph_model.specs.declared.entity.StoreOp.{StoreOp}
use Rattle.type_desc.specs.declared.desc.TypeDesc.{TypeDesc}
use Rattle.type_desc.specs.Root.{root_desc}
use Rattle.type_dictionary.specs.Latest.{desc_of}
use Rattle.entity_form.specs.Values as form
use Rattle.entity_form.specs.Values.{refs_of}
use Rattle.session_model.specs.Instances.{Instance, Instances, Held, instance_at, has_instance, held_ids, graph_of, is_unsaved, gathered_lazily, gathered_eagerly}
use Rattle.session_model.specs.Answer.{State, gathered_records, are_too_big}
use Rattle.session_model.specs.Sound.{IsSound, IsRightInstance, IsHere, all_refs}
use Rattle.session_model.proofs.Reached.{reached-closed, reached-start}
use Rattle.session_model.proofs.Finding.{at_filter, entity_of_made, ids_made, ids_of, is_held, rises_kept}
use Rattle.session_model.proofs.IdLists.{sifted, sifts, each_passes, each_record_passes, no_record_passes, total_is_sum, edge_is_listed}

-- the start, and what a gathered instance names that is not saved
pub record IsGathered (instances : Instances) (x : ℕ) (xs : List ℕ) : Type 0 where
  pub start : has x xs ≡ true
  pub closed : (z : ℕ) (i : Instance) (y : ℕ) → has z xs ≡ true → instance_at instances z ≡ Some i → has y (all_refs i) ≡ true → nat_eq y 0 ≡ false
      → is_unsaved (instance_at instances y) ≡ true → has y xs ≡ true

-- what an instance names and the test passes is an edge
edge_to : (test : ℕ → Bool) (hs : Instances) (z : ℕ) (i : Instance) (y : ℕ) → instance_at hs z ≡ Some i → has y (all_refs i) ≡ true → nat_eq y 0 ≡ false → test y ≡ true
    → has_edge (graph_of (λ j. filter test (flat_map refs_of j.object.values)) hs) z y ≡ true
edge_to test hs z i y at h n t =
    let make : Instance → Entity = λ (j : Instance). record { type_id = j.object.type_id; refs = filter test (flat_map refs_of j.object.values); plain = [] } in
    let is : entity_of (graph_of (λ j. filter test (flat_map refs_of j.object.values)) hs) z ≡ Some (make i) = entity_of_made make hs z ∙ ap (option_map make) at in
    ap (λ (o : Option Entity). has y (edges_of o)) is ∙ sifts (λ (w : ℕ). not (nat_eq w 0)) (filter test (all_refs i)) y (not_from_false (nat_eq y 0) n) (sifts test (all_refs i) y t h)

pub lazily : (hs : Instances) (x : ℕ) → IsGathered hs x (gathered_lazily hs x)
lazily hs x = record {
  start = reached-start (graph_of (λ j. filter (λ id. is_unsaved (instance_at hs id)) (flat_map refs_of j.object.values)) hs) (x ∷ []) x (or_left (nat_eq x x) false (eq-eqb x x refl));
  closed = λ z i y in_it at h n u. reached-closed (graph_of (λ j. filter (λ id. is_unsaved (instance_at hs id)) (flat_map refs_of j.object.values)) hs) (x ∷ []) z y in_it
      (edge_to (λ id. is_unsaved (instance_at hs id)) hs z i y at h n u);
}

unsaved_is_there : (o : Option Instance) → is_unsaved o ≡ true → is_some o ≡ true
unsaved_is_there None u = absurd cc
unsaved_is_there (Some i) u = refl

pub eagerly : (hs : Instances) (x : ℕ) → IsGathered hs x (gathered_eagerly hs x)
eagerly hs x = record {
  start = reached-start (graph_of (λ j. filter (has_instance hs) (flat_map refs_of j.object.values)) hs) (x ∷ []) x (or_left (nat_eq x x) false (eq-eqb x x refl));
  closed = λ z i y in_it at h n u. reached-closed (graph_of (λ j. filter (has_instance hs) (flat_map refs_of j.object.values)) hs) (x ∷ []) z y in_it
      (edge_to (has_instance hs) hs z i y at h n (unsaved_is_there (instance_at hs y) u));
}

-- ---- the records

abbrev entity_in : Instance → Entity
entity_in i = form.entity_of i.object

pub gathered_is : (hs : Instances) (xs : List ℕ) (y : ℕ) → entity_of (gathered_records hs xs) y ≡ option_map (λ (i : Instance). form.entity_of i.object) (cond (has y xs) (instance_at hs y) None)
gathered_is hs xs y = entity_of_made entity_in (filter (λ (h : Held). has h.id xs) hs) y ∙ ap (option_map entity_in) (at_filter (λ (z : ℕ). has z xs) hs y)

-- a gathered instance has its record
pub gathers : (hs : Instances) (xs : List ℕ) (y : ℕ) (i : Instance) → instance_at hs y ≡ Some i → has y xs ≡ true → entity_of (gathered_records hs xs) y ≡ Some (form.entity_of i.object)
gathers hs xs y i at h = gathered_is hs xs y ∙ (ap (λ (b : Bool). option_map entity_in (cond b (instance_at hs y) None)) h ∙ ap (option_map entity_in) at)

pub record WasGathered (hs : Instances) (xs : List ℕ) (y : ℕ) (e : Entity) : Type 0 where
  pub instance : Instance
  pub at : instance_at hs y ≡ Some instance
  pub within : has y xs ≡ true
  pub is : form.entity_of instance.object ≡ e

-- and each record is that of a gathered instance
pub was_gathered : (hs : Instances) (xs : List ℕ) (y : ℕ) (e : Entity) → entity_of (gathered_records hs xs) y ≡ Some e → WasGathered hs xs y e
was_gathered hs xs y e is = by (has y xs) (instance_at hs y) refl refl (sym (gathered_is hs xs y) ∙ is)
  where
    by : (b : Bool) (o : Option Instance) → has y xs ≡ b → instance_at hs y ≡ o → option_map entity_in (cond b o None) ≡ Some e → WasGathered hs xs y e
    by true None f g is = absurd cc
    by true (Some i) f g is = record { instance = i; at = g; within = f; is = cc }
    by false o f g is = absurd cc

pub gathered_rise : (hs : Instances) (xs : List ℕ) → rises (ids_of hs) ≡ true → rises (ids (gathered_records hs xs)) ≡ true
gathered_rise hs xs r = ap rises (ids_made entity_in (filter (λ (h : Held). has h.id xs) hs)) ∙ rises_kept (λ (z : ℕ). has z xs) hs r

pub has_records : (rs : List Record) (y : ℕ) (e : Entity) → entity_of rs y ≡ Some e → 0 < length rs
has_records [] y e is = absurd cc
has_records (r ∷ rs) y e is = omega arith

-- ---- the store

pub type_is_counted : (types : List TypeDesc) (id : ℕ) (desc : TypeDesc) → desc_of types id ≡ Some desc → 1 ≤ id
type_is_counted types id desc = by (nat_eq id 1) (nat_le 16 id) refl refl
  where
    by : (s t : Bool) → nat_eq id 1 ≡ s → nat_le 16 id ≡ t → cond s (Some root_desc) (cond t (slice_get types (id - 16)) None) ≡ Some desc → 1 ≤ id
    by true t e f is = let same = eqb-true id 1 e in omega arith
    by false true e f is = let low = leb-true 16 id f in omega arith
    by false false e f is = absurd cc

-- no record is above the most bytes of one
pub record_fits : (most : ℕ) (rs : List Record) (x : ℕ) (e : Entity) → are_too_big most rs ≡ false → entity_of rs x ≡ Some e → entity_size e ≤ 1048576
record_fits most rs x e small is =
    let t = or_parts (list_any (λ (r : Record). nat_lt 1048576 (entity_size r.entity)) rs) (nat_lt most (sum_by (λ (r : Record). entity_size r.entity) rs)) small in
    ltb-false 1048576 (entity_size e) (no_record_passes (λ (r : Record). nat_lt 1048576 (entity_size r.entity)) rs x e t.0 is)

total_fits : (most : ℕ) (rs : List Record) → are_too_big most rs ≡ false → most ≤ 16777216 → nat_le (total_size rs) 16777216 ≡ true
total_fits most rs small bound =
    let t = or_parts (list_any (λ (r : Record). nat_lt 1048576 (entity_size r.entity)) rs) (nat_lt most (sum_by (λ (r : Record). entity_size r.entity) rs)) small in
    let sum = ltb-false most (sum_by (λ (r : Record). entity_size r.entity) rs) t.1 in
    let same = total_is_sum rs in
    le-leb (total_size rs) 16777216 (omega arith)

abbrev pub gathered_op : State → List ℕ → StoreOp
gathered_op state xs = record { records = gathered_records state.instances xs; next_id = state.next_id }

-- what a gathered instance names is gathered too, or is held, or was named in the graph already
good_edge : (state : State) → IsSound state → (x : ℕ) (xs : List ℕ) → IsGathered state.instances x xs
    → (y : ℕ) (i : Instance) → instance_at state.instances y ≡ Some i → has y xs ≡ true
    → (z : ℕ) → has z (all_refs i) ≡ true → nat_eq z 0 ≡ false → is_good_edge state.graph (held_ids state.instances) (gathered_op state xs) y z ≡ true
good_edge state sound x xs g y i at within z named other = elim (right.lazy z named) [
  | inl nothing ↦ let t = eq-eqb z 0 nothing in absurd cc
  | inr (inl there) ↦ here there.0 there.1 (cases_Bool there.0.saved)
  | inr (inr edge) ↦ or_right (lists op.records z) (has z held || is_old_edge state.graph held y z)
      (or_right (has z held) (is_old_edge state.graph held y z) (and_from (is_held_or_root held y) (has_edge state.graph y z)
      (or_left (has y held) (nat_eq y 1) (is_held state.instances y i at (sym right.saved ∙ edge_is_listed state.graph y z edge))) edge))
]
  where
    op : StoreOp
    op = gathered_op state xs

    held : List ℕ
    held = held_ids state.instances

    right : IsRightInstance state.types state.next_id state.graph state.instances y i
    right = sound.each y i at

    here : (j : Instance) → instance_at state.instances z ≡ Some j → (j.saved ≡ true) ⊎ (j.saved ≡ false) → is_good_edge state.graph held op y z ≡ true
    here j there (inl saved) = or_right (lists op.records z) (has z held || is_old_edge state.graph held y z)
        (or_left (has z held) (is_old_edge state.graph held y z) (is_held state.instances z j there saved))
    here j there (inr unsaved) =
        let u : is_unsaved (instance_at state.instances z) ≡ true = ap is_unsaved there ∙ not_from_false j.saved unsaved in
        let in_it = g.closed y i z within at named other u in
        or_left (lists op.records z) (has z held || is_old_edge state.graph held y z)
        (ap (λ (o : Option Entity). is_some o) (gathers state.instances xs z j there in_it))

good_record : (state : State) → IsSound state → (x : ℕ) (xs : List ℕ) → IsGathered state.instances x xs
    → (y : ℕ) (i : Instance) → instance_at state.instances y ≡ Some i → has y xs ≡ true → entity_size (form.entity_of i.object) ≤ 1048576
    → is_good_record state.graph (held_ids state.instances) (gathered_op state xs) (record { id = y; entity = form.entity_of i.object }) ≡ true
good_record state sound x xs g y i at within small =
    and_from (is_good_id state.next_id y) (old && (good && (typed && fits))) right.good_id
    (and_from old (good && (typed && fits)) (old_is (cases_Bool i.saved))
    (and_from good (typed && fits) good_is
    (and_from typed fits (le-leb 1 i.object.type_id (type_is_counted state.types i.object.type_id right.desc right.known)) (le-leb (entity_size e) 1048576 small))))
  where
    e : Entity
    e = form.entity_of i.object

    held : List ℕ
    held = held_ids state.instances

    right : IsRightInstance state.types state.next_id state.graph state.instances y i
    right = sound.each y i at

    old : Bool
    old = not (lists state.graph y) || is_held_or_root held y

    good : Bool
    good = list_all (is_good_edge state.graph held (gathered_op state xs) y) (edges e)

    typed : Bool
    typed = nat_le 1 i.object.type_id

    fits : Bool
    fits = nat_le (entity_size e) 1048576

    old_is : (i.saved ≡ true) ⊎ (i.saved ≡ false) → old ≡ true
    old_is (inl saved) = or_right (not (lists state.graph y)) (is_held_or_root held y) (or_left (has y held) (nat_eq y 1) (is_held state.instances y i at saved))
    old_is (inr unsaved) = or_left (not (lists state.graph y)) (is_held_or_root held y) (not_from_false (lists state.graph y) (right.saved ∙ unsaved))

    good_is : good ≡ true
    good_is = each_passes (is_good_edge state.graph held (gathered_op state xs) y) (edges e) (λ z named. let t = sifted (λ (w : ℕ). not (nat_eq w 0)) (all_refs i) z named in
        good_edge state sound x xs g y i at within z t.1 (not-true (nat_eq z 0) t.0))

pub gathered_is_valid : (state : State) → IsSound state → (x : ℕ) (xs : List ℕ) → IsGathered state.instances x xs
    → (most next : ℕ) → are_too_big most (gathered_records state.instances xs) ≡ false → most ≤ 16777216 → next ≤ state.next_id
    → is_valid_store state.graph (held_ids state.instances) next (gathered_op state xs) ≡ true
gathered_is_valid state sound x xs g most next small bound after =
    and_from (nat_le next state.next_id) (high && (order && (sized && good))) (le-leb next state.next_id after)
    (and_from high (order && (sized && good)) (le-leb state.next_id (2 ^ 48) sound.high)
    (and_from order (sized && good) (gathered_rise state.instances xs sound.order)
    (and_from sized good (total_fits most records small bound) good_is)))
  where
    records : List Record
    records = gathered_records state.instances xs

    high : Bool
    high = nat_le state.next_id (2 ^ 48)

    order : Bool
    order = rises (ids records)

    sized : Bool
    sized = nat_le (total_size records) 16777216

    good : Bool
    good = list_all (is_good_record state.graph (held_ids state.instances) (gathered_op state xs)) records

    good_is : good ≡ true
    good_is = each_record_passes (is_good_record state.graph (held_ids state.instances) (gathered_op state xs)) records (gathered_rise state.instances xs sound.order) (λ y e is.
        let w = was_gathered state.instances xs y e is in
        let fits = record_fits most records y e small is in
        subst (λ (d : Entity). is_good_record state.graph (held_ids state.instances) (gathered_op state xs) (record { id = y; entity = d }) ≡ true) w.is
        (good_record state sound x xs g y w.instance w.at w.within (subst (λ (d : Entity). entity_size d ≤ 1048576) (sym w.is) fits)))

pub gathered_is_some : (hs : Instances) (x : ℕ) (xs : List ℕ) → IsGathered hs x xs → IsHere hs x → 0 < length (gathered_records hs xs)
gathered_is_some hs x xs g here = has_records (gathered_records hs xs) x (form.entity_of here.0.object) (gathers hs xs x here.0 here.1 g.start)
