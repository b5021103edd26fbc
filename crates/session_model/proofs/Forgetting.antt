-- The line `forget`: what is kept names nothing that is given up.
use Rattle.std.proofs.Common.{◌≡◌, ℕ, Bool, true, false, cond, not, ◌||◌, List, [], ◌∷◌, codes, map, Option, Some, None, option_map, ◌⊎◌, inl, inr, refl, sym, ap, ◌∙◌}
use Rattle.std.specs.Prelude.{nat_eq}
use Rattle.std.specs.List.{flat_map}
use Rattle.std.specs.Str.{bytes_eq}
use Rattle.std.proofs.lemmas.Bool.{cases_eq, eq-eqb, ne_eqb, not_from_false, or_left, or_right}
use Rattle.graph_model.specs.Ids.{has}
use Rattle.graph_model.specs.Graph.{edges_of, has_edge}
use Rattle.graph_model.specs.declared.entity.Entity.{Entity}
use Rattle.entity_form.specs.Values.{refs_of}
use Rattle.session_model.specs.Instances.{Instance, Instances, eager_refs_of, graph_of, instance_at, kept_instances, kept_refs, reached}
use Rattle.session_model.specs.Answer.{Binding, State, forget_turn, id_in}
use Rattle.session_model.specs.Sound.{IsHere, IsRightInstance, IsSound, all_refs, eager_refs_in}
use Rattle.session_model.proofs.Finding.{at_filter, entity_of_made, rises_kept}
use Rattle.session_model.proofs.IdLists.{sifts}
use Rattle.session_model.proofs.Naming.{eager_are_refs}
use Rattle.session_model.proofs.Reached.{reached-closed, reached-start}

-- the ids that are kept
abbrev kept_ids : Instances → List ℕ → List ℕ
kept_ids hs bound = reached (graph_of kept_refs hs) bound

-- a kept instance keeps what it names so
kept_on : (hs : Instances) (bound : List ℕ) (y : ℕ) (i : Instance) (z : ℕ) → instance_at hs y ≡ Some i → has y (kept_ids hs bound) ≡ true
    → has z (kept_refs i) ≡ true → nat_eq z 0 ≡ false → has z (kept_ids hs bound) ≡ true
kept_on hs bound y i z at in_it named other = reached-closed (graph_of kept_refs hs) bound y z in_it edge
  where
    make : Instance → Entity
    make j = record { type_id = j.object.type_id; refs = kept_refs j; plain = [] }

    edge : has_edge (graph_of kept_refs hs) y z ≡ true
    edge = ap (λ (o : Option Entity). has z (edges_of o)) (entity_of_made make hs y ∙ ap (option_map make) at) ∙ sifts (λ (w : ℕ). not (nat_eq w 0)) (kept_refs i) z (not_from_false (nat_eq z 0) other) named

stays_here : (hs : Instances) (bound : List ℕ) (y : ℕ) → IsHere hs y → has y (kept_ids hs bound) ≡ true → IsHere (kept_instances hs bound) y
stays_here hs bound y there in_it = (there.0, at_filter (λ (z : ℕ). has z (kept_ids hs bound)) hs y ∙ (ap (λ (b : Bool). cond b (instance_at hs y) None) in_it ∙ there.1))

-- what is there then was there, and is kept
record IsKeptAt (hs : Instances) (bound : List ℕ) (y : ℕ) (i : Instance) : Type 0 where
  pub at : instance_at hs y ≡ Some i
  pub within : has y (kept_ids hs bound) ≡ true

is_kept : (hs : Instances) (bound : List ℕ) (y : ℕ) (i : Instance) → instance_at (kept_instances hs bound) y ≡ Some i → IsKeptAt hs bound y i
is_kept hs bound y i at = by (has y (kept_ids hs bound)) refl (sym (at_filter (λ (z : ℕ). has z (kept_ids hs bound)) hs y) ∙ at)
  where
    by : (b : Bool) → has y (kept_ids hs bound) ≡ b → cond b (instance_at hs y) None ≡ Some i → IsKeptAt hs bound y i
    by true e is = record { at = is; within = e }
    by false e is = absurd cc

kept_right : (state : State) → IsSound state → (bound : List ℕ) (y : ℕ) (i : Instance) → instance_at (kept_instances state.instances bound) y ≡ Some i
    → IsRightInstance state.types state.next_id state.graph (kept_instances state.instances bound) y i
kept_right state s bound y i at = record {
  good_id = right.good_id;
  desc = right.desc;
  known = right.known;
  kinds = right.kinds;
  root = right.root;
  proper = right.proper;
  saved = right.saved;
  eager = λ z h. elim (cases_eq z 0) [ inl nothing ↦ inl nothing | inr other ↦ inr (eager_here z h (ne_eqb z 0 other) (right.eager z h)) ];
  lazy = λ z h. elim (cases_eq z 0) [ inl nothing ↦ inl nothing | inr other ↦ inr (lazy_here z h (ne_eqb z 0 other) i.changed refl (right.lazy z h)) ];
  same = right.same;
}
  where
    was : IsKeptAt state.instances bound y i
    was = is_kept state.instances bound y i at

    right : IsRightInstance state.types state.next_id state.graph state.instances y i
    right = s.each y i was.at

    eager_kept : (b : Bool) (z : ℕ) → has z (eager_refs_in i) ≡ true → has z (cond b (flat_map refs_of i.object.values) (flat_map eager_refs_of i.object.values)) ≡ true
    eager_kept true z h = eager_are_refs i.object.values z h
    eager_kept false z h = h

    eager_here : (z : ℕ) → has z (eager_refs_in i) ≡ true → nat_eq z 0 ≡ false → (z ≡ 0) ⊎ IsHere state.instances z → IsHere (kept_instances state.instances bound) z
    eager_here z h other (inl nothing) = let t = eq-eqb z 0 nothing in absurd cc
    eager_here z h other (inr there) = stays_here state.instances bound z there (kept_on state.instances bound y i z was.at was.within (eager_kept i.changed z h) other)

    lazy_here : (z : ℕ) → has z (all_refs i) ≡ true → nat_eq z 0 ≡ false → (b : Bool) → i.changed ≡ b → (z ≡ 0) ⊎ (IsHere state.instances z ⊎ (has_edge state.graph y z ≡ true))
        → IsHere (kept_instances state.instances bound) z ⊎ (has_edge state.graph y z ≡ true)
    lazy_here z h other b e (inl nothing) = let t = eq-eqb z 0 nothing in absurd cc
    lazy_here z h other b e (inr (inr edge)) = inr edge
    lazy_here z h other true e (inr (inl there)) = inl (stays_here state.instances bound z there
        (kept_on state.instances bound y i z was.at was.within (ap (λ (b : Bool). has z (cond b (flat_map refs_of i.object.values) (flat_map eager_refs_of i.object.values))) e ∙ h) other))
    lazy_here z h other false e (inr (inl there)) = elim (right.same e z h) [ inl nothing ↦ let t = eq-eqb z 0 nothing in absurd cc | inr edge ↦ inr edge ]

-- a bound id is among those of the names
named_id : (names : List Binding) (name : List ℕ) (x : ℕ) → id_in names name ≡ Some x → has x (map (λ (b : Binding). b.id) names) ≡ true
named_id [] name x e = absurd cc
named_id (b ∷ names) name x e = by (bytes_eq b.name name) e (named_id names name x)
  where
    by : (t : Bool) → cond t (Some b.id) (id_in names name) ≡ Some x → (id_in names name ≡ Some x → has x (map (λ (b : Binding). b.id) names) ≡ true)
        → (nat_eq x b.id || has x (map (λ (b : Binding). b.id) names)) ≡ true
    by true e later = let same : b.id ≡ x = cc in or_left (nat_eq x b.id) (has x (map (λ (b : Binding). b.id) names)) (eq-eqb x b.id (sym same))
    by false e later = or_right (nat_eq x b.id) (has x (map (λ (b : Binding). b.id) names)) (later e)

pub forget_line_sound : (state : State) → IsSound state → state.started ≡ true → IsSound (forget_turn state).state
forget_line_sound state s started = record {
  types = s.types;
  pairs = s.pairs;
  root_spared = s.root_spared;
  low = s.low;
  high = s.high;
  graph = s.graph;
  order = rises_kept (λ (z : ℕ). has z (kept_ids state.instances bound)) state.instances s.order;
  each = kept_right state s bound;
  distinct = s.distinct;
  root_name = s.root_name;
  bound = λ begun name x is. stays name x is;
  root = λ begun. stays (codes "root") 1 s.root_name;
  unstarted = λ unbegun. absurd (cc (started, unbegun));
  unbound = λ unbegun. absurd (cc (started, unbegun));
}
  where
    bound : List ℕ
    bound = map (λ (b : Binding). b.id) state.names

    stays : (name : List ℕ) (x : ℕ) → id_in state.names name ≡ Some x → IsHere (kept_instances state.instances bound) x
    stays name x is = stays_here state.instances bound x (s.bound started name x is) (reached-start (graph_of kept_refs state.instances) bound x (named_id state.names name x is))
