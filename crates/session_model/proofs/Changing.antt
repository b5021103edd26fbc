-- One object in memory put or changed: the others stay right.
use Rattle.std.proofs.Common.{◌≡◌, ℕ, ◌≤◌, ◌^◌, Bool, true, false, cond, List, [], ◌∷◌, map, set, slice_get, Some, ◌⊎◌, inl, inr, refl, sym, ap, ◌∙◌, subst, arith, zero, suc}
use Rattle.std.specs.Prelude.{nat_eq}
use Rattle.std.specs.List.{flat_map}
use Rattle.std.proofs.lemmas.Bool.{eqb-true, eq-eqb, or_cases, or_left, or_right}
use Rattle.graph_model.specs.Ids.{has}
use Rattle.graph_model.specs.Graph.{has_edge}
use Rattle.graph_model.proofs.IdSets.{has_append}
use Rattle.entity_form.specs.Values.{kind_of, refs_of}
use Rattle.entity_form.specs.declared.value.Value.{Value}
use Rattle.entity_form.specs.declared.value.Value.TheVariants.{Int, Text, Bytes, Ref, Lazy, Refs}
use Rattle.session_model.specs.Instances.{Instance, Instances, eager_refs_of, instance_at, put_instance}
use Rattle.session_model.specs.Answer.{State, with_value}
use Rattle.session_model.specs.Sound.{IsHere, IsProper, IsRightInstance, IsSound}
use Rattle.session_model.proofs.Finding.{at_put, rises_put}
use Rattle.session_model.proofs.Frames.{KeepsHere, graph_stays, right_stays, same_edges}

-- ---- one put

pub here_put : (x : ℕ) (i : Instance) (hs : Instances) → KeepsHere hs (put_instance x i hs)
here_put x i hs y there = by (nat_eq x y) (at_put x i hs y)
  where
    by : (b : Bool) → instance_at (put_instance x i hs) y ≡ cond b (Some i) (instance_at hs y) → IsHere (put_instance x i hs) y
    by true e = (i, e)
    by false e = (there.0, e ∙ there.1)

pub is_put : (x : ℕ) (i : Instance) (hs : Instances) → instance_at (put_instance x i hs) x ≡ Some i
is_put x i hs = at_put x i hs x ∙ ap (λ (b : Bool). cond b (Some i) (instance_at hs x)) (eq-eqb x x refl)

-- an instance that is right beside the others, put in the place of its id
pub instance_put : (state : State) (x : ℕ) (i : Instance) (next : ℕ) → IsSound state → state.started ≡ true → state.next_id ≤ next → next ≤ 2 ^ 48
    → IsRightInstance state.types next state.graph (put_instance x i state.instances) x i
    → IsSound (record state { instances = put_instance x i state.instances; next_id = next })
instance_put state x i next s started up high right = record {
  types = s.types;
  pairs = s.pairs;
  root_spared = s.root_spared;
  low = let low = s.low in omega arith;
  high = high;
  graph = graph_stays state.types state.types state.next_id next state.graph (λ id desc e. e) up s.graph;
  order = rises_put x i state.instances s.order;
  each = λ y j at. by (nat_eq x y) y j refl (sym (at_put x i state.instances y) ∙ at);
  distinct = s.distinct;
  root_name = s.root_name;
  bound = λ begun name y is. here_put x i state.instances y (s.bound begun name y is);
  root = λ begun. here_put x i state.instances 1 (s.root begun);
  unstarted = λ unbegun. absurd (cc (started, unbegun));
  unbound = λ unbegun. absurd (cc (started, unbegun));
}
  where
    by : (b : Bool) (y : ℕ) (j : Instance) → nat_eq x y ≡ b → cond b (Some i) (instance_at state.instances y) ≡ Some j
        → IsRightInstance state.types next state.graph (put_instance x i state.instances) y j
    by true y j e at = let same : x ≡ y = eqb-true x y e in let is : i ≡ j = cc in
        subst (λ (k : Instance). IsRightInstance state.types next state.graph (put_instance x i state.instances) y k) is
        (subst (λ (z : ℕ). IsRightInstance state.types next state.graph (put_instance x i state.instances) z i) same right)
    by false y j e at = right_stays state.types state.types state.next_id next state.graph state.graph state.instances (put_instance x i state.instances) y j
        (λ id desc k. k) up (same_edges state.graph y) (here_put x i state.instances) (s.each y j at)

-- ---- another value of a member

kinds_stay : (vs : List Value) (at : ℕ) (value old : Value) → slice_get vs at ≡ Some old → kind_of value ≡ kind_of old → map kind_of (set vs at value) ≡ map kind_of vs
kinds_stay [] at value old is same = absurd cc
kinds_stay (v ∷ vs) zero value old is same = let was : v ≡ old = cc in rw (same, was) refl
kinds_stay (v ∷ vs) (suc at) value old is same = rw (kinds_stay vs at value old is same) refl

set_or_was : (vs : List Value) (at : ℕ) (value : Value) (k : ℕ) (v : Value) → slice_get (set vs at value) k ≡ Some v → (value ≡ v) ⊎ (slice_get vs k ≡ Some v)
set_or_was [] at value k v is = absurd cc
set_or_was (w ∷ vs) zero value zero v is = inl cc
set_or_was (w ∷ vs) zero value (suc k) v is = inr is
set_or_was (w ∷ vs) (suc at) value zero v is = inr is
set_or_was (w ∷ vs) (suc at) value (suc k) v is = set_or_was vs at value k v is

-- what the values name then, the new value names, or they named it
named_or_was : (f : Value → List ℕ) (vs : List Value) (at : ℕ) (value : Value) (y : ℕ) → has y (flat_map f (set vs at value)) ≡ true → (has y (f value) ≡ true) ⊎ (has y (flat_map f vs) ≡ true)
named_or_was f [] at value y h = inr h
named_or_was f (v ∷ vs) zero value y h = elim (or_cases (has y (f value)) (has y (flat_map f vs)) (sym (has_append y (f value) (flat_map f vs)) ∙ h)) [
  | inl new ↦ inl new
  | inr later ↦ inr (has_append y (f v) (flat_map f vs) ∙ or_right (has y (f v)) (has y (flat_map f vs)) later)
]
named_or_was f (v ∷ vs) (suc at) value y h = elim (or_cases (has y (f v)) (has y (flat_map f (set vs at value))) (sym (has_append y (f v) (flat_map f (set vs at value))) ∙ h)) [
  | inl first ↦ inr (has_append y (f v) (flat_map f vs) ∙ or_left (has y (f v)) (has y (flat_map f vs)) first)
  | inr later ↦ elim (named_or_was f vs at value y later) [
    | inl new ↦ inl new
    | inr old ↦ inr (has_append y (f v) (flat_map f vs) ∙ or_right (has y (f v)) (has y (flat_map f vs)) old)
  ]
]

pub eager_within : (v : Value) (y : ℕ) → has y (eager_refs_of v) ≡ true → has y (refs_of v) ≡ true
eager_within (Int n) y h = h
eager_within (Text t) y h = h
eager_within (Bytes b) y h = h
eager_within (Ref id) y h = h
eager_within (Lazy id) y h = absurd cc
eager_within (Refs ids) y h = h

-- a value of a member's kind that names only objects in memory
pub record MayStand (instances : Instances) (old value : Value) : Type 0 where
  pub kind : kind_of value ≡ kind_of old
  pub proper : IsProper value
  pub names : (y : ℕ) → has y (refs_of value) ≡ true → (y ≡ 0) ⊎ IsHere instances y

pub value_set : (state : State) (x : ℕ) (i : Instance) (at : ℕ) (old value : Value) → IsSound state → state.started ≡ true
    → instance_at state.instances x ≡ Some i → slice_get i.object.values at ≡ Some old → MayStand state.instances old value
    → IsSound (with_value state x i at value)
value_set state x i at old value s started here was may = instance_put state x new state.next_id s started (omega arith) s.high (record {
  good_id = right.good_id;
  desc = right.desc;
  known = right.known;
  kinds = kinds_stay i.object.values at value old was may.kind ∙ right.kinds;
  root = right.root;
  proper = λ k v is. elim (set_or_was i.object.values at value k v is) [ inl same ↦ subst IsProper same may.proper | inr before ↦ right.proper k v before ];
  saved = right.saved;
  eager = λ y h. elim (named_or_was eager_refs_of i.object.values at value y h) [
    | inl named ↦ put_here y (may.names y (eager_within value y named))
    | inr before ↦ put_here y (right.eager y before)
  ];
  lazy = λ y h. elim (named_or_was refs_of i.object.values at value y h) [
    | inl named ↦ here_or y (may.names y named)
    | inr before ↦ elim (right.lazy y before) [
      | inl nothing ↦ inl nothing
      | inr (inl there) ↦ inr (inl (here_put x new state.instances y there))
      | inr (inr edge) ↦ inr (inr edge)
    ]
  ];
  same = λ unchanged. absurd cc;
})
  where
    new : Instance
    new = record i { object = record i.object { values = set i.object.values at value }; changed = true }

    right : IsRightInstance state.types state.next_id state.graph state.instances x i
    right = s.each x i here

    put_here : (y : ℕ) → (y ≡ 0) ⊎ IsHere state.instances y → (y ≡ 0) ⊎ IsHere (put_instance x new state.instances) y
    put_here y (inl nothing) = inl nothing
    put_here y (inr there) = inr (here_put x new state.instances y there)

    here_or : (y : ℕ) → (y ≡ 0) ⊎ IsHere state.instances y → (y ≡ 0) ⊎ (IsHere (put_instance x new state.instances) y ⊎ (has_edge state.graph x y ≡ true))
    here_or y (inl nothing) = inl nothing
    here_or y (inr there) = inr (inl (here_put x new state.instances y there))
