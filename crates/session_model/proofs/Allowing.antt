-- What a script asks of a storage when it loads, counts and exports is allowed: each id is kept.
use Rattle.std.proofs.Common.{◌≡◌, ◌↔◌, ℕ, Bool, true, false, cond, ◌&&◌, ◌||◌, List, [], ◌∷◌, length, Option, Some, None, is_some, ◌⊎◌, inl, inr, refl, sym, ap, ◌∙◌, subst}
use Rattle.std.specs.Prelude.{nat_eq}
use Rattle.std.proofs.lemmas.List.{length-map}
use Rattle.std.proofs.lemmas.Bool.{and_from, eq-eqb, eqb-true, or_cases, or_left, or_right}
use Rattle.graph_model.specs.Ids.{has, rises}
use Rattle.graph_model.specs.Graph.{Graph, IsReached, edges_of, entity_of, has_edge, ids, lists}
use Rattle.graph_model.specs.Served.{IsKept, may_hold_all}
use Rattle.graph_model.specs.Stores.{any_edge, may_hold}
use Rattle.graph_model.specs.declared.entity.Entity.{Entity}
use Rattle.graph_model.specs.declared.entity.Record.{Record}
use Rattle.graph_model.proofs.Graphs.{entity_of_filter, has_ids, reached_on, reached_start, reached_stay}
use Rattle.graph_model.proofs.Rising.{filter_ids, rises_filter}
use Rattle.session_model.specs.Instances.{Instance, has_instance, held_ids, instance_at, reached}
use Rattle.session_model.specs.Loading.{closure_of, conversion, eager_refs, loading_graph}
use Rattle.session_model.specs.Answer.{State, reached_records}
use Rattle.session_model.specs.Sound.{AreNamedInTurn, IsHere, IsSound, IsToLoad, all_refs}
use Rattle.session_model.proofs.Closures.{conversion_names, in_closure, loading_edge_is}
use Rattle.session_model.proofs.Finding.{is_held}
use Rattle.session_model.proofs.IdLists.{edge_is_listed}
use Rattle.session_model.proofs.Reached.{reached-walks, walks-reached}
use Rattle.session_model.proofs.SameIds.{same_answer, same_rising}

-- an object in memory that has an edge is held
edge_is_held : (state : State) → IsSound state → (x y : ℕ) → IsHere state.instances x → has_edge state.graph x y ≡ true → has x (held_ids state.instances) ≡ true
edge_is_held state s x y here edge = is_held state.instances x here.0 here.1 (sym (s.each x here.0 here.1).saved ∙ edge_is_listed state.graph x y edge)

-- what an object in memory names is in memory, or may be loaded
pub named_to_load : (state : State) (x : ℕ) (i : Instance) (y : ℕ) → IsSound state → instance_at state.instances x ≡ Some i → has y (all_refs i) ≡ true → nat_eq y 0 ≡ false → has_instance state.instances y ≡ false → IsToLoad state y
named_to_load state x i y s at named other absent = elim ((s.each x i at).lazy y named) [
  | inl nothing ↦ let t = eq-eqb y 0 nothing in absurd cc
  | inr (inl here) ↦ let t : has_instance state.instances y ≡ true = ap (λ (o : Option Instance). is_some o) here.1 in absurd cc
  | inr (inr edge) ↦ inr (absent, (x, (i, at), edge))
]

-- and the root may be before the script has begun
pub root_to_load : (state : State) → IsSound state → state.started ≡ false → lists state.graph 1 ≡ true → IsToLoad state 1
root_to_load state s unbegun there = inl (refl, s.unstarted unbegun, there)

to_load_reached : (state : State) → IsSound state → (y : ℕ) → IsToLoad state y → IsReached state.graph (1 ∷ held_ids state.instances) y
to_load_reached state s y (inl root) = reached_start state.graph (1 ∷ held_ids state.instances) y (or_left (nat_eq y 1) (has y (held_ids state.instances)) (eq-eqb y 1 root.0))
to_load_reached state s y (inr named) = let x = named.1.0 in
    reached_on state.graph (1 ∷ held_ids state.instances) x y (reached_start state.graph (1 ∷ held_ids state.instances) x
    (or_right (nat_eq x 1) (has x (held_ids state.instances)) (edge_is_held state s x y named.1.1 named.1.2))) named.1.2

to_load_listed : (state : State) → IsSound state → (y : ℕ) → IsToLoad state y → lists state.graph y ≡ true
to_load_listed state s y (inl root) = subst (λ (z : ℕ). lists state.graph z ≡ true) (sym root.0) root.2
to_load_listed state s y (inr named) = s.graph.whole named.1.0 y (edge_is_listed state.graph named.1.0 y named.1.2) named.1.2

some_listed : (g : Graph) (z : ℕ) → lists g z ≡ true → (e : Entity) × (entity_of g z ≡ Some e)
some_listed g z l = by (entity_of g z) refl l
  where
    by : (o : Option Entity) → entity_of g z ≡ o → is_some o ≡ true → (e : Entity) × (entity_of g z ≡ Some e)
    by None e l = absurd cc
    by (Some entity) e l = (entity, e)

-- what is loaded with an id is kept
pub loaded_is_kept : (state : State) (y z : ℕ) → IsSound state → IsToLoad state y → lists (closure_of state.types state.pairs state.instances state.graph y) z ≡ true
    → IsKept state.graph (held_ids state.instances) z
loaded_is_kept state y z s may there =
    let e = some_listed (closure_of state.types state.pairs state.instances state.graph y) z there in
    let c = in_closure state.types state.pairs state.instances state.graph y z e.0 e.1 in
    record {
      reached = reached_stay (loading_graph state.types state.pairs state.instances state.graph) (y ∷ []) (IsReached state.graph (1 ∷ held_ids state.instances)) begin
          (λ w v before edge. reached_on state.graph (1 ∷ held_ids state.instances) w v before
          (loading_edge_is state.types state.pairs state.instances state.next_id state.graph w v s.types s.root_spared s.graph edge)) z
          (reached-walks (loading_graph state.types state.pairs state.instances state.graph) (y ∷ []) z c.within);
      listed = ap (λ (o : Option Entity). is_some o) c.at;
    }
  where
    begin : (w : ℕ) → has w (y ∷ []) ≡ true → IsReached state.graph (1 ∷ held_ids state.instances) w
    begin w h = elim (or_cases (nat_eq w y) false h) [
      | inl same ↦ subst (IsReached state.graph (1 ∷ held_ids state.instances)) (sym (eqb-true w y same)) (to_load_reached state s y may)
      | inr none ↦ absurd cc
    ]

-- ---- ids held in turn

pub record HasEdgeFrom (g : Graph) (xs : List ℕ) (y : ℕ) : Type 0 where
  pub from : ℕ
  pub within : has from xs ≡ true
  pub edge : has_edge g from y ≡ true

pub edge_from : (g : Graph) (xs : List ℕ) (y : ℕ) → any_edge g xs y ≡ true → HasEdgeFrom g xs y
edge_from g [] y h = absurd cc
edge_from g (x ∷ xs) y h = elim (or_cases (has_edge g x y) (any_edge g xs y) h) [
  | inl here ↦ record { from = x; within = or_left (nat_eq x x) (has x xs) (eq-eqb x x refl); edge = here }
  | inr later ↦ let t = edge_from g xs y later in record { from = t.from; within = or_right (nat_eq t.from x) (has t.from xs) t.within; edge = t.edge }
]

pub some_edge : (g : Graph) (xs : List ℕ) (x y : ℕ) → has x xs ≡ true → has_edge g x y ≡ true → any_edge g xs y ≡ true
some_edge g [] x y h e = absurd cc
some_edge g (w ∷ xs) x y h e = elim (or_cases (nat_eq x w) (has x xs) h) [
  | inl same ↦ or_left (has_edge g w y) (any_edge g xs y) (subst (λ (v : ℕ). has_edge g v y ≡ true) (eqb-true x w same) e)
  | inr later ↦ or_right (has_edge g w y) (any_edge g xs y) (some_edge g xs x y later e)
]

may_hold_named : (g : Graph) (held : List ℕ) (x y : ℕ) → has x held ≡ true → has_edge g x y ≡ true → may_hold g held y ≡ true
may_hold_named g held x y h e = or_right (has y held) (any_edge g (1 ∷ held) y || nat_eq y 1)
    (or_left (any_edge g (1 ∷ held) y) (nat_eq y 1) (some_edge g (1 ∷ held) x y (or_right (nat_eq x 1) (has x held) h) e))

turn_held : (g : Graph) (held before xs : List ℕ) → ((z : ℕ) → has z xs ≡ true → lists g z ≡ true) → ((z : ℕ) → has z before ≡ true → has z held ≡ true) → AreNamedInTurn g before xs → may_hold_all g held xs ≡ true
turn_held g held before [] there within named = refl
turn_held g held before (x ∷ xs) there within named = let e = edge_from g before x named.0 in
    and_from (lists g x) (may_hold g held x && may_hold_all g (x ∷ held) xs) (there x (or_left (nat_eq x x) (has x xs) (eq-eqb x x refl)))
    (and_from (may_hold g held x) (may_hold_all g (x ∷ held) xs) (may_hold_named g held e.from x (within e.from e.within) e.edge)
    (turn_held g (x ∷ held) (x ∷ before) xs (λ z h. there z (or_right (nat_eq z x) (has z xs) h)) more named.1))
  where
    more : (z : ℕ) → has z (x ∷ before) ≡ true → has z (x ∷ held) ≡ true
    more z h = elim (or_cases (nat_eq z x) (has z before) h) [ inl same ↦ or_left (nat_eq z x) (has z held) same | inr old ↦ or_right (nat_eq z x) (has z held) (within z old) ]

to_load_may_hold : (state : State) → IsSound state → (y : ℕ) → IsToLoad state y → may_hold state.graph (held_ids state.instances) y ≡ true
to_load_may_hold state s y (inl root) = or_right (has y (held_ids state.instances)) (any_edge state.graph (1 ∷ held_ids state.instances) y || nat_eq y 1)
    (or_right (any_edge state.graph (1 ∷ held_ids state.instances) y) (nat_eq y 1) (eq-eqb y 1 root.0))
to_load_may_hold state s y (inr named) = may_hold_named state.graph (held_ids state.instances) named.1.0 y (edge_is_held state s named.1.0 y named.1.1 named.1.2) named.1.2

-- the id, and then ids of the closure that are named in turn, may be held
pub loaded_may_be_held : (state : State) (y : ℕ) (xs : List ℕ) → IsSound state → IsToLoad state y → ((z : ℕ) → has z xs ≡ true → lists (closure_of state.types state.pairs state.instances state.graph y) z ≡ true)
    → AreNamedInTurn state.graph (y ∷ []) xs → may_hold_all state.graph (held_ids state.instances) (y ∷ xs) ≡ true
loaded_may_be_held state y xs s may within named =
    and_from (lists state.graph y) (may_hold state.graph held y && may_hold_all state.graph (y ∷ held) xs) (to_load_listed state s y may)
    (and_from (may_hold state.graph held y) (may_hold_all state.graph (y ∷ held) xs) (to_load_may_hold state s y may)
    (turn_held state.graph (y ∷ held) (y ∷ []) xs (λ z h. (loaded_is_kept state y z s may (within z h)).listed) first named))
  where
    held : List ℕ
    held = held_ids state.instances

    first : (z : ℕ) → has z (y ∷ []) ≡ true → has z (y ∷ held) ≡ true
    first z h = elim (or_cases (nat_eq z y) false h) [ inl same ↦ or_left (nat_eq z y) (has z held) same | inr none ↦ absurd cc ]

-- what is loaded from an entity names only what the graph's entity names
pub loaded_names : (state : State) (x : ℕ) (entity : Entity) (y : ℕ) → IsSound state → entity_of state.graph x ≡ Some entity
    → has y (eager_refs (conversion state.types state.pairs entity)) ≡ true → (y ≡ 0) ⊎ (has_edge state.graph x y ≡ true)
loaded_names state x entity y s at h = elim (conversion_names state.types state.pairs x entity s.types s.root_spared (s.graph.forms x entity at) y h) [
  | inl nothing ↦ inl nothing
  | inr named ↦ inr (ap (λ (o : Option Entity). has y (edges_of o)) at ∙ named)
]

-- ---- what is counted and exported

reached_listed : (g : Graph) (starts : List ℕ) (x : ℕ) → lists (reached_records g starts) x ≡ is_some (cond (has x (reached g starts)) (entity_of g x) None)
reached_listed g starts x = ap (λ (o : Option Entity). is_some o) (entity_of_filter (λ (z : ℕ). has z (reached g starts)) g x)

-- the records that are reached are those of the ids that walks reach and the graph has
record IsReachedRecord (g : Graph) (starts : List ℕ) (x : ℕ) : Type 0 where
  pub reached : IsReached g starts x
  pub listed : lists g x ≡ true

is_reached_record : (g : Graph) (starts : List ℕ) (x : ℕ) → lists (reached_records g starts) x ≡ true → IsReachedRecord g starts x
is_reached_record g starts x there = by (has x (reached g starts)) refl (sym (reached_listed g starts x) ∙ there)
  where
    by : (b : Bool) → has x (reached g starts) ≡ b → is_some (cond b (entity_of g x) None) ≡ true → IsReachedRecord g starts x
    by true e l = record { reached = reached-walks g starts x e; listed = l }
    by false e l = absurd cc

record_is_reached : (g : Graph) (starts : List ℕ) (x : ℕ) → IsReached g starts x → lists g x ≡ true → lists (reached_records g starts) x ≡ true
record_is_reached g starts x reached there = reached_listed g starts x ∙ (ap (λ (b : Bool). is_some (cond b (entity_of g x) None)) (walks-reached g starts x reached) ∙ there)

-- a list of exactly what is kept is as long as the records that are reached from the root and the held ids
pub kept_count : (g : Graph) (held kept : List ℕ) → rises (ids g) ≡ true → rises kept ≡ true → ((x : ℕ) → (has x kept ≡ true) ↔ IsKept g held x)
    → length (reached_records g (1 ∷ held)) ≡ length kept
kept_count g held kept order rising exact = sym (length-map (reached_records g (1 ∷ held)) (λ (r : Record). r.id)) ∙ ap (λ (xs : List ℕ). length xs) same
  where
    records_rise : rises (ids (reached_records g (1 ∷ held))) ≡ true
    records_rise = ap rises (filter_ids (λ (z : ℕ). has z (reached g (1 ∷ held))) g) ∙ rises_filter (λ (z : ℕ). has z (reached g (1 ∷ held))) (ids g) order

    same : ids (reached_records g (1 ∷ held)) ≡ kept
    same = same_rising (ids (reached_records g (1 ∷ held))) kept records_rise rising (λ x. has_ids (reached_records g (1 ∷ held)) x ∙ same_answer (lists (reached_records g (1 ∷ held)) x) (has x kept)
        (λ there. let r = is_reached_record g (1 ∷ held) x there in (exact x).1 (record { reached = r.reached; listed = r.listed }))
        (λ in_it. let k = (exact x).0 in_it in record_is_reached g (1 ∷ held) x k.reached k.listed))

-- what is reached from the root alone is kept
pub exported_is_kept : (g : Graph) (held : List ℕ) (x : ℕ) → lists (reached_records g (1 ∷ [])) x ≡ true → IsKept g held x
exported_is_kept g held x there = let r = is_reached_record g (1 ∷ []) x there in record {
  reached = reached_stay g (1 ∷ []) (IsReached g (1 ∷ held)) begin (λ y z before edge. reached_on g (1 ∷ held) y z before edge) x r.reached;
  listed = r.listed;
}
  where
    begin : (y : ℕ) → has y (1 ∷ []) ≡ true → IsReached g (1 ∷ held) y
    begin y h = elim (or_cases (nat_eq y 1) false h) [ inl root ↦ reached_start g (1 ∷ held) y (or_left (nat_eq y 1) (has y held) root) | inr none ↦ absurd cc ]
