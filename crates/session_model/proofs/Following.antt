-- The line `follow`: what a reference names is in memory, or its closure is loaded.
use Rattle.std.proofs.Common.{◌≡◌, ℕ, Bool, true, false, cond, not, List, [], ◌∷◌, slice_get, Option, Some, None, is_none, is_some, unwrap_or, Result, Ok, Err, ◌⊎◌, inl, inr, refl, sym, ap, ◌∙◌, subst}
use Rattle.std.specs.Prelude.{nat_eq}
use Rattle.std.proofs.lemmas.Bool.{eq-eqb, not-false, or_left}
use Rattle.graph_model.specs.Ids.{has}
use Rattle.graph_model.specs.Graph.{lists}
use Rattle.entity_form.specs.Values.{refs_of}
use Rattle.entity_form.specs.declared.value.Value.{Value}
use Rattle.entity_form.specs.declared.value.Value.TheVariants.{Int, Text, Bytes, Ref, Lazy, Refs}
use Rattle.session_model.specs.Instances.{Instance, Instances, has_instance, instance_at}
use Rattle.session_model.specs.Loading.{load}
use Rattle.session_model.specs.Answer.{State, Refusal, follow_turn, id_of, is_bound, is_root_name, lacks_member, loaded_turn, member_at, name_taken, named_instance, no_member, no_name, no_target, ref_in, reserved, value_of, with_loaded, wrong_kind}
use Rattle.session_model.specs.Sound.{IsHere, IsSound}
use Rattle.session_model.proofs.Filling.{IsFilled, filled}
use Rattle.session_model.proofs.Frames.{name_bound}
use Rattle.session_model.proofs.IdLists.{edge_is_listed}
use Rattle.session_model.proofs.Judging.{judged_sound}
use Rattle.session_model.proofs.Setting.{bound_here, named_by_value, value_stands}

-- a state with the objects that a load gives
loaded_sound : (state : State) (id : ℕ) (ks : Instances) → IsSound state → state.started ≡ true → IsFilled state.types state.next_id state.graph state.instances ks id
    → IsSound (record state { instances = ks })
loaded_sound state id ks s started f = record {
  types = s.types;
  pairs = s.pairs;
  root_spared = s.root_spared;
  low = s.low;
  high = s.high;
  graph = s.graph;
  order = f.order;
  each = f.each;
  distinct = s.distinct;
  root_name = s.root_name;
  bound = λ begun name x is. f.here x (s.bound begun name x is);
  root = λ begun. f.here 1 (s.root begun);
  unstarted = λ unbegun. absurd (cc (started, unbegun));
  unbound = λ unbegun. absurd (cc (started, unbegun));
}

-- a value that names one object
record NamesOne (o : Option Value) : Type 0 where
  pub value : Value
  pub id : ℕ
  pub is : o ≡ Some value
  pub names : ref_in (Some value) ≡ Some id
  pub named : has id (refs_of value) ≡ true

names_one : (o : Option Value) → is_none (ref_in o) ≡ false → NamesOne o
names_one None e = absurd cc
names_one (Some (Int n)) e = absurd cc
names_one (Some (Text t)) e = absurd cc
names_one (Some (Bytes b)) e = absurd cc
names_one (Some (Ref id)) e = record { value = Ref id; id = id; is = refl; names = refl; named = or_left (nat_eq id id) false (eq-eqb id id refl) }
names_one (Some (Lazy id)) e = record { value = Lazy id; id = id; is = refl; names = refl; named = or_left (nat_eq id id) false (eq-eqb id id refl) }
names_one (Some (Refs ids)) e = absurd cc

-- an id that an object in memory names is in memory or in the graph
here_or_stored : (state : State) → IsSound state → (x : ℕ) (i : Instance) → instance_at state.instances x ≡ Some i → (at : ℕ) (value : Value) → slice_get i.object.values at ≡ Some value
    → (id : ℕ) → has id (refs_of value) ≡ true → nat_eq id 0 ≡ false → IsHere state.instances id ⊎ (lists state.graph id ≡ true)
here_or_stored state s x i here at value stands id named other = elim ((s.each x i here).lazy id (named_by_value refs_of i.object.values at value id stands named)) [
  | inl nothing ↦ let t = eq-eqb id 0 nothing in absurd cc
  | inr (inl there) ↦ inl there
  | inr (inr edge) ↦ inr (s.graph.whole x id (edge_is_listed state.graph x id edge) edge)
]

is_there : (o : Option Instance) → is_some o ≡ true → (i : Instance) × (o ≡ Some i)
is_there None e = absurd cc
is_there (Some i) e = (i, refl)

loaded_turn_sound : (state : State) (new : List ℕ) (id : ℕ) → IsSound state → state.started ≡ true → is_bound state new ≡ false → is_root_name new ≡ false
    → IsHere state.instances id ⊎ (lists state.graph id ≡ true) → IsSound (loaded_turn state new id (with_loaded state id)).state
loaded_turn_sound state new id s started free other there = by (has_instance state.instances id) refl
  where
    listed : has_instance state.instances id ≡ false → IsHere state.instances id ⊎ (lists state.graph id ≡ true) → lists state.graph id ≡ true
    listed absent (inl here) = let t : has_instance state.instances id ≡ true = ap (λ (o : Option Instance). is_some o) here.1 in absurd cc
    listed absent (inr l) = l

    of_load : has_instance state.instances id ≡ false → (r : Result Instances (List ℕ)) → load state.types state.pairs state.graph state.instances id ≡ r → IsSound (loaded_turn state new id r).state
    of_load absent (Err code) e = s
    of_load absent (Ok ks) e =
        let f = filled state.types state.pairs state.next_id state.graph state.instances id ks s.types s.root_spared s.graph s.order s.each e in
        name_bound (record state { instances = ks }) new id (loaded_sound state id ks s started f) started free other (f.new (listed absent there))

    by : (b : Bool) → has_instance state.instances id ≡ b → IsSound (loaded_turn state new id (cond b (Ok state.instances) (load state.types state.pairs state.graph state.instances id))).state
    by true e = name_bound state new id s started free other (is_there (instance_at state.instances id) e)
    by false e = of_load e (load state.types state.pairs state.graph state.instances id) refl

pub follow_line_sound : (state : State) (name member new : List ℕ) → IsSound state → state.started ≡ true → IsSound (follow_turn state name member new).state
follow_line_sound state name member new s started = judged_sound state refusals (loaded_turn state new target (with_loaded state target)) s
    (λ none. effect (not-false (is_bound state name) none.0) (names_one (value_of state name member) none.1.1.0) none.1.1.1.0 none.1.1.1.1.0 none.1.1.1.1.1.0)
  where
    target : ℕ
    target = unwrap_or (ref_in (value_of state name member)) 0

    refusals : List Refusal
    refusals = no_name (not (is_bound state name)) ∷ no_member (lacks_member state name member) ∷ wrong_kind (is_none (ref_in (value_of state name member)))
        ∷ reserved (is_root_name new) ∷ name_taken (is_bound state new) ∷ no_target (nat_eq target 0) ∷ []

    effect : is_bound state name ≡ true → NamesOne (value_of state name member) → is_root_name new ≡ false → is_bound state new ≡ false → nat_eq target 0 ≡ false
        → IsSound (loaded_turn state new target (with_loaded state target)).state
    effect is one other free some =
        let same : target ≡ one.id = ap (λ (o : Option Value). unwrap_or (ref_in o) 0) one.is ∙ ap (λ (o : Option ℕ). unwrap_or o 0) one.names in
        let some_id : nat_eq one.id 0 ≡ false = ap (λ (y : ℕ). nat_eq y 0) (sym same) ∙ some in
        subst (λ (y : ℕ). IsSound (loaded_turn state new y (with_loaded state y)).state) (sym same)
        (loaded_turn_sound state new one.id s started free other
        (here_or_stored state s (id_of state name) (named_instance state name) (bound_here state name s started is) (unwrap_or (member_at state (named_instance state name) member) 0) one.value
        (value_stands state name member one.value one.is) one.id one.named some_id))
