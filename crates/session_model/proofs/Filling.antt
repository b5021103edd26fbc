-- Loading: the entities of a closure become objects in memory, beside those that are there.
use Rattle.std.proofs.Common.{◌≡◌, ℕ, Bool, true, false, cond, List, [], ◌∷◌, Option, Some, None, is_some, Result, Ok, Err, ◌⊎◌, inl, inr, refl, sym, ap, ◌∙◌, subst, arith}
use Rattle.std.specs.Prelude.{nat_eq}
use Rattle.std.specs.List.{flat_map, list_all}
use Rattle.std.proofs.lemmas.Bool.{cases_Bool, cases_eq, ne_eqb}
use Rattle.graph_model.specs.Ids.{has, rises}
use Rattle.graph_model.specs.Graph.{Graph, edges_of, entity_of, has_edge, lists}
use Rattle.graph_model.specs.declared.entity.Entity.{Entity}
use Rattle.graph_model.proofs.Places.{nat_eq-swap}
use Rattle.type_desc.specs.declared.desc.TypeDesc.{TypeDesc}
use Rattle.entity_form.specs.declared.value.Object.{Object}
use Rattle.refactor_table.specs.declared.name.Pair.{Pair}
use Rattle.session_model.specs.Instances.{Instance, Instances, eager_refs_of, has_instance, instance_at, put_instance}
use Rattle.session_model.specs.Loading.{Converted, Loaded, NoType, WrongKind, closure_of, conversion, eager_refs, load, load_all, then_load}
use Rattle.session_model.specs.Sound.{AreTypes, IsHere, IsRightGraph, IsRightInstance, all_refs, spares_root}
use Rattle.session_model.proofs.Closures.{closure_has, in_closure, loaded_ids, loaded_on, loading_edge, start_loaded}
use Rattle.session_model.proofs.Converting.{IsConverted, conversion_right}
use Rattle.session_model.proofs.Finding.{at_put, ids_of, rises_put}
use Rattle.session_model.proofs.Frames.{KeepsHere, right_stays, same_edges}
use Rattle.session_model.proofs.Naming.{eager_are_refs}

-- an object as it is when it was loaded
abbrev pub as_loaded : Object → Instance
as_loaded object = record { object = object; saved = true; changed = false }

-- ---- where an instance is from

pub record IsLoaded (types : List TypeDesc) (pairs : List Pair) (records : Graph) (ks : Instances) (y : ℕ) : Type 0 where
  pub entity : Entity
  pub object : Object
  pub listed : entity_of records y ≡ Some entity
  pub converts : conversion types pairs entity ≡ Loaded object
  pub at : instance_at ks y ≡ Some (as_loaded object)

pub record IsOld (records : Graph) (hs ks : Instances) (y : ℕ) : Type 0 where
  pub none : entity_of records y ≡ None
  pub at : instance_at ks y ≡ instance_at hs y

-- the last of what is loaded, and the others
record IsLoadedLast (id : ℕ) (c : Converted) (others : Result Instances (List ℕ)) (ks : Instances) : Type 0 where
  pub object : Object
  pub converts : c ≡ Loaded object
  pub before : Instances
  pub others_are : others ≡ Ok before
  pub put : put_instance id (as_loaded object) before ≡ ks

loaded_last : (id : ℕ) (c : Converted) (others : Result Instances (List ℕ)) (ks : Instances) → then_load id c others ≡ Ok ks → IsLoadedLast id c others ks
loaded_last id (Loaded object) (Ok before) ks e = record { object = object; converts = refl; before = before; others_are = refl; put = cc }
loaded_last id (Loaded object) (Err code) ks e = absurd cc
loaded_last id NoType others ks e = absurd cc
loaded_last id WrongKind others ks e = absurd cc

pub loaded_or_old : (types : List TypeDesc) (pairs : List Pair) (records : Graph) (hs ks : Instances) → load_all types pairs records hs ≡ Ok ks → (y : ℕ) → IsLoaded types pairs records ks y ⊎ IsOld records hs ks y
loaded_or_old types pairs [] hs ks e y = let same : hs ≡ ks = cc in inr (record { none = refl; at = ap (λ (is : Instances). instance_at is y) (sym same) })
loaded_or_old types pairs (r ∷ records) hs ks e y =
    let l = loaded_last r.id (conversion types pairs r.entity) (load_all types pairs records hs) ks e in
    by l (nat_eq r.id y) refl (loaded_or_old types pairs records hs l.before l.others_are y)
  where
    put_at : (l : IsLoadedLast r.id (conversion types pairs r.entity) (load_all types pairs records hs) ks) → instance_at ks y ≡ cond (nat_eq r.id y) (Some (as_loaded l.object)) (instance_at l.before y)
    put_at l = ap (λ (is : Instances). instance_at is y) (sym l.put) ∙ at_put r.id (as_loaded l.object) l.before y

    by : (l : IsLoadedLast r.id (conversion types pairs r.entity) (load_all types pairs records hs) ks) (b : Bool) → nat_eq r.id y ≡ b
        → IsLoaded types pairs records l.before y ⊎ IsOld records hs l.before y → IsLoaded types pairs (r ∷ records) ks y ⊎ IsOld (r ∷ records) hs ks y
    by l true f before = inl (record {
      entity = r.entity;
      object = l.object;
      listed = ap (λ (b : Bool). cond b (Some r.entity) (entity_of records y)) (nat_eq-swap y r.id ∙ f);
      converts = l.converts;
      at = put_at l ∙ ap (λ (b : Bool). cond b (Some (as_loaded l.object)) (instance_at l.before y)) f;
    })
    by l false f (inl p) = inl (record {
      entity = p.entity;
      object = p.object;
      listed = ap (λ (b : Bool). cond b (Some r.entity) (entity_of records y)) (nat_eq-swap y r.id ∙ f) ∙ p.listed;
      converts = p.converts;
      at = put_at l ∙ (ap (λ (b : Bool). cond b (Some (as_loaded l.object)) (instance_at l.before y)) f ∙ p.at);
    })
    by l false f (inr o) = inr (record {
      none = ap (λ (b : Bool). cond b (Some r.entity) (entity_of records y)) (nat_eq-swap y r.id ∙ f) ∙ o.none;
      at = put_at l ∙ (ap (λ (b : Bool). cond b (Some (as_loaded l.object)) (instance_at l.before y)) f ∙ o.at);
    })

pub rises_loaded : (types : List TypeDesc) (pairs : List Pair) (records : Graph) (hs ks : Instances) → load_all types pairs records hs ≡ Ok ks → rises (ids_of hs) ≡ true → rises (ids_of ks) ≡ true
rises_loaded types pairs [] hs ks e r = let same : hs ≡ ks = cc in subst (λ (is : Instances). rises (ids_of is) ≡ true) same r
rises_loaded types pairs (s ∷ records) hs ks e r =
    let l = loaded_last s.id (conversion types pairs s.entity) (load_all types pairs records hs) ks e in
    subst (λ (is : Instances). rises (ids_of is) ≡ true) l.put (rises_put s.id (as_loaded l.object) l.before (rises_loaded types pairs records hs l.before l.others_are r))

-- ---- the objects in memory after a load

pub record IsFilled (types : List TypeDesc) (next : ℕ) (g : Graph) (hs ks : Instances) (id : ℕ) : Type 0 where
  pub order : rises (ids_of ks) ≡ true
  pub each : (y : ℕ) (i : Instance) → instance_at ks y ≡ Some i → IsRightInstance types next g ks y i
  pub here : KeepsHere hs ks
  pub new : lists g id ≡ true → IsHere ks id

pub filled : (types : List TypeDesc) (pairs : List Pair) (next : ℕ) (g : Graph) (hs : Instances) (id : ℕ) (ks : Instances) → AreTypes types → list_all spares_root pairs ≡ true → IsRightGraph types next g
    → rises (ids_of hs) ≡ true → ((y : ℕ) (i : Instance) → instance_at hs y ≡ Some i → IsRightInstance types next g hs y i)
    → load types pairs g hs id ≡ Ok ks → IsFilled types next g hs ks id
filled types pairs next g hs id ks are spares right order each loads = record {
  order = rises_loaded types pairs closure hs ks loads order;
  each = λ y i at. each_right y i at (from y);
  here = here;
  new = λ there. loaded_here id (start_loaded types pairs hs g id) there (from id);
}
  where
    closure : Graph
    closure = closure_of types pairs hs g id

    from : (y : ℕ) → IsLoaded types pairs closure ks y ⊎ IsOld closure hs ks y
    from = loaded_or_old types pairs closure hs ks loads

    here_from : (y : ℕ) → IsHere hs y → IsLoaded types pairs closure ks y ⊎ IsOld closure hs ks y → IsHere ks y
    here_from y there (inl l) = (as_loaded l.object, l.at)
    here_from y there (inr o) = (there.0, o.at ∙ there.1)

    here : KeepsHere hs ks
    here y there = here_from y there (from y)

    -- what is reached and in the graph is in memory then
    loaded_here : (y : ℕ) → has y (loaded_ids types pairs hs g id) ≡ true → lists g y ≡ true → IsLoaded types pairs closure ks y ⊎ IsOld closure hs ks y → IsHere ks y
    loaded_here y within there (inl l) = (as_loaded l.object, l.at)
    loaded_here y within there (inr o) = let none : entity_of g y ≡ None = sym (closure_has types pairs hs g id y within) ∙ o.none in
        let no : false ≡ true = sym (ap (λ (e : Option Entity). is_some e) none) ∙ there in absurd cc

    old_here : (y : ℕ) → is_some (instance_at hs y) ≡ true → IsHere hs y
    old_here y is = by (instance_at hs y) refl is
      where
        by : (o : Option Instance) → instance_at hs y ≡ o → is_some o ≡ true → IsHere hs y
        by None e is = absurd cc
        by (Some i) e is = (i, e)

    -- what a loaded object names along `ref` and `refs` is in memory then
    eager_here : (l : (y : ℕ) × IsLoaded types pairs closure ks y) (z : ℕ) → has z (flat_map eager_refs_of l.1.object.values) ≡ true → nat_eq z 0 ≡ false
        → has_edge g l.0 z ≡ true → lists g l.0 ≡ true → (has_instance hs z ≡ true) ⊎ (has_instance hs z ≡ false) → IsHere ks z
    eager_here l z named other edge there (inl old) = here z (old_here z old)
    eager_here l z named other edge there (inr absent) =
        let c = in_closure types pairs hs g id l.0 l.1.entity l.1.listed in
        let refs : has z (eager_refs (conversion types pairs l.1.entity)) ≡ true = ap (λ (k : Converted). has z (eager_refs k)) l.1.converts ∙ named in
        let next_in = loaded_on types pairs hs g id l.0 z c.within (loading_edge types pairs hs g l.0 z l.1.entity c.at refs other absent) in
        loaded_here z next_in (right.whole l.0 z there edge) (from z)

    loaded_right : (y : ℕ) (l : IsLoaded types pairs closure ks y) → IsRightInstance types next g ks y (as_loaded l.object)
    loaded_right y l = record {
      good_id = right.good_ids y listed;
      desc = made.desc;
      known = made.known;
      kinds = made.kinds;
      root = made.root;
      proper = made.proper;
      saved = listed;
      eager = λ z h. elim (cases_eq z 0) [
        | inl nothing ↦ inl nothing
        | inr other ↦ elim (named z (eager_are_refs l.object.values z h)) [
          | inl nothing ↦ inl nothing
          | inr edge ↦ inr (eager_here (y, l) z h (ne_eqb z 0 other) edge listed (cases_Bool (has_instance hs z)))
        ]
      ];
      lazy = λ z h. elim (named z h) [ inl nothing ↦ inl nothing | inr edge ↦ inr (inr edge) ];
      same = λ unchanged z h. named z h;
    }
      where
        at : entity_of g y ≡ Some l.entity
        at = (in_closure types pairs hs g id y l.entity l.listed).at

        listed : lists g y ≡ true
        listed = ap (λ (o : Option Entity). is_some o) at

        made : IsConverted types y l.entity l.object
        made = conversion_right types pairs y l.entity l.object are spares (right.forms y l.entity at) l.converts

        named : (z : ℕ) → has z (all_refs (as_loaded l.object)) ≡ true → (z ≡ 0) ⊎ (has_edge g y z ≡ true)
        named z h = elim (made.names z h) [ inl nothing ↦ inl nothing | inr edge ↦ inr (ap (λ (o : Option Entity). has z (edges_of o)) at ∙ edge) ]

    each_right : (y : ℕ) (i : Instance) → instance_at ks y ≡ Some i → IsLoaded types pairs closure ks y ⊎ IsOld closure hs ks y → IsRightInstance types next g ks y i
    each_right y i at (inl l) = let same : as_loaded l.object ≡ i = cc (l.at, at) in subst (IsRightInstance types next g ks y) same (loaded_right y l)
    each_right y i at (inr o) = right_stays types types next next g g hs ks y i (λ n desc e. e) (omega arith) (same_edges g y) here (each y i (sym o.at ∙ at))
