-- The walk when the asked id's entity was taken.
use Rattle.std.proofs.Common.{◌≡◌, ℕ, Bool, true, false, cond, not, ◌||◌, List, [], ◌∷◌, ◌++◌, Option, Some, None, ◌⊎◌, inl, inr, refl, sym, ap, ◌∙◌, subst}
use Rattle.std.specs.Prelude.{nat_eq, is_some, option_and_then}
use Rattle.std.specs.List.{filter}
use Rattle.std.proofs.lemmas.Bool.{or_cases, or_left, or_right, eq-eqb, eqb-true}
use Rattle.std.specs.Option.{option_or}
use Rattle.graph_model.specs.Ids.{has}
use Rattle.graph_model.specs.Graph.{Graph, edges_of, entity_of, lists}
use Rattle.graph_model.specs.declared.entity.Entity.{Entity}
use Rattle.graph_model.proofs.IdSets.{has_append, has_insert}
use Rattle.graph_model.proofs.Walks.{IsSearch, looks_now}
use Rattle.type_desc.specs.declared.desc.TypeDesc.{TypeDesc}
use Rattle.entity_form.specs.declared.value.Object.{Object}
use Rattle.refactor_table.specs.declared.name.Pair.{Pair}
use Rattle.session_model.specs.Instances.{Instances, has_instance}
use Rattle.session_model.specs.Loading.{Converted, conversion, eager_refs, loading_graph}
use Rattle.lazy_refs.specs.Steps.{IsLeast, IsNamedIn, IsOutward, IsWalked, object_in, object_of, reason_in, reason_of}
use Rattle.lazy_refs.specs.Walks.{Progress, Takes, loaded_ids, loads_with, object_at, wanted}
use Rattle.lazy_refs.proofs.Orders.{loaded_ids-append, named_more, object_at-append, or_none, outward_more}
use Rattle.lazy_refs.proofs.Refusing.{IsMore, least_more, which}
use Rattle.lazy_refs.proofs.Turning.{nothing_more}

-- ---- the graph that loading walks

abbrev named_by : List TypeDesc → List Pair → Instances → Entity → Entity
named_by types pairs instances e = record { type_id = e.type_id; refs = filter (λ (id : ℕ). not (has_instance instances id)) (eager_refs (conversion types pairs e)); plain = [] }

entity_loading : (types : List TypeDesc) (pairs : List Pair) (instances : Instances) (g : Graph) (x : ℕ) (e : Entity) → entity_of g x ≡ Some e
    → entity_of (loading_graph types pairs instances g) x ≡ Some (named_by types pairs instances e)
entity_loading types pairs instances [] x e h = absurd cc
entity_loading types pairs instances (r ∷ g) x e h = by (nat_eq x r.id) h (entity_loading types pairs instances g x e)
  where
    by : (b : Bool) → cond b (Some r.entity) (entity_of g x) ≡ Some e → (entity_of g x ≡ Some e → entity_of (loading_graph types pairs instances g) x ≡ Some (named_by types pairs instances e))
        → cond b (Some (named_by types pairs instances r.entity)) (entity_of (loading_graph types pairs instances g) x) ≡ Some (named_by types pairs instances e)
    by true here ih = let one : r.entity ≡ e = cc in ap (λ (f : Entity). Some (named_by types pairs instances f)) one
    by false there ih = ih there

edges_loading : (types : List TypeDesc) (pairs : List Pair) (instances : Instances) (g : Graph) (x : ℕ) (e : Entity) (converted : Converted) → entity_of g x ≡ Some e → conversion types pairs e ≡ converted
    → edges_of (entity_of (loading_graph types pairs instances g) x) ≡ wanted instances (eager_refs converted)
edges_loading types pairs instances g x e converted at is = ap edges_of (entity_loading types pairs instances g x e at) ∙ ap (λ (c : Converted). wanted instances (eager_refs c)) is

pub search_of : (types : List TypeDesc) (pairs : List Pair) (instances : Instances) (g : Graph) (start : ℕ) (p : Progress) (open_ids : List ℕ) → IsWalked types pairs instances g start p open_ids
    → IsSearch (loading_graph types pairs instances g) (start ∷ []) p.done open_ids
search_of types pairs instances g start p open_ids w = record {
  starts_known = λ x h. elim (or_cases (nat_eq x start) false h) [
    | inl same ↦ subst (λ (y : ℕ). (has y p.done || has y open_ids) ≡ true) (sym (eqb-true x start same)) w.start_known
    | inr never ↦ absurd cc
  ];
  edges_known = w.edges_known;
  is_reached = w.reached;
  order = w.order;
}

-- ---- what is loaded

own_object : (a x : ℕ) (converted : Converted) → nat_eq x a ≡ true → object_at (loads_with a converted) x ≡ object_of converted
own_object a x (Converted.Loaded o) e = ap (λ (b : Bool). cond b (Some o) None) e
own_object a x Converted.NoType e = refl
own_object a x Converted.WrongKind e = refl

no_object : (a x : ℕ) (converted : Converted) → nat_eq x a ≡ false → object_at (loads_with a converted) x ≡ None
no_object a x (Converted.Loaded o) e = ap (λ (b : Bool). cond b (Some o) None) e
no_object a x Converted.NoType e = refl
no_object a x Converted.WrongKind e = refl

loads_more : (found : ℕ → Option Object) (ps : List (ℕ × Object)) (done : List ℕ) (a : ℕ) (converted : Converted) → has a done ≡ false → found a ≡ object_of converted
    → ((x : ℕ) → object_at ps x ≡ cond (has x done) (found x) None) → (x : ℕ) → object_at (ps ++ loads_with a converted) x ≡ cond (nat_eq x a || has x done) (found x) None
loads_more found ps done a converted new is loads x = object_at-append ps (loads_with a converted) x ∙ by (nat_eq x a) refl
  where
    by : (b : Bool) → nat_eq x a ≡ b → option_or (object_at ps x) (object_at (loads_with a converted) x) ≡ cond (b || has x done) (found x) None
    by true e =
        let same : x ≡ a = eqb-true x a e in
        let none : object_at ps x ≡ None = loads x ∙ ap (λ (b : Bool). cond b (found x) None) (ap (λ (y : ℕ). has y done) same ∙ new) in
        ap (λ (o : Option Object). option_or o (object_at (loads_with a converted) x)) none ∙ own_object a x converted e ∙ sym is ∙ ap found (sym same)
    by false e = ap (option_or (object_at ps x)) (no_object a x converted e) ∙ or_none (object_at ps x) ∙ loads x

outward_next : (g : Graph) (start a : ℕ) (ps : List (ℕ × Object)) (converted : Converted) → object_at ps a ≡ None
    → (loaded_ids ps ≡ []) ⊎ IsOutward g start (loaded_ids ps) → (a ≡ start) ⊎ IsNamedIn g (loaded_ids ps) a
    → (loaded_ids (ps ++ loads_with a converted) ≡ []) ⊎ IsOutward g start (loaded_ids (ps ++ loads_with a converted))
outward_next g start a ps (Converted.Loaded o) new before n = inr (subst (IsOutward g start) (sym (loaded_ids-append ps ((a, o) ∷ []))) (outward_more g start ps a o new before n))
outward_next g start a ps Converted.NoType new before n = subst (λ (qs : List (ℕ × Object)). (loaded_ids qs ≡ []) ⊎ IsOutward g start (loaded_ids qs)) (nothing_more ps) before
outward_next g start a ps Converted.WrongKind new before n = subst (λ (qs : List (ℕ × Object)). (loaded_ids qs ≡ []) ⊎ IsOutward g start (loaded_ids qs)) (nothing_more ps) before

-- a new edge leads from what was loaded
named_new : (g : Graph) (instances : Instances) (a y : ℕ) (ps : List (ℕ × Object)) (converted : Converted) → edges_of (entity_of g a) ≡ wanted instances (eager_refs converted)
    → has y (wanted instances (eager_refs converted)) ≡ true → IsNamedIn g (loaded_ids (ps ++ loads_with a converted)) y
named_new g instances a y ps (Converted.Loaded o) edges h = (a, there, ap (has y) edges ∙ h)
  where
    there : has a (loaded_ids (ps ++ (a, o) ∷ [])) ≡ true
    there = ap (has a) (loaded_ids-append ps ((a, o) ∷ [])) ∙ has_append a (loaded_ids ps) (a ∷ []) ∙ or_right (has a (loaded_ids ps)) (has a (a ∷ [])) (or_left (nat_eq a a) false (eq-eqb a a refl))
named_new g instances a y ps Converted.NoType edges h = absurd (let never : false ≡ true = h in cc)
named_new g instances a y ps Converted.WrongKind edges h = absurd (let never : false ≡ true = h in cc)

named_still : (g : Graph) (start a y : ℕ) (ps : List (ℕ × Object)) (converted : Converted) → (y ≡ start) ⊎ IsNamedIn g (loaded_ids ps) y → (y ≡ start) ⊎ IsNamedIn g (loaded_ids (ps ++ loads_with a converted)) y
named_still g start a y ps converted (inl same) = inl same
named_still g start a y ps converted (inr n) = inr (subst (λ (xs : List ℕ). IsNamedIn g xs y) (sym (loaded_ids-append ps (loads_with a converted))) (named_more g (loaded_ids ps) (loaded_ids (loads_with a converted)) y n))

-- ---- the walk

pub taken : (types : List TypeDesc) (pairs : List Pair) (instances : Instances) (g : Graph) (start : ℕ) (old between : Progress) (e : Entity) (converted : Converted)
    → IsWalked types pairs instances g start old (old.waiting ++ old.asked ∷ []) → has old.asked old.done ≡ false → entity_of g old.asked ≡ Some e → conversion types pairs e ≡ converted
    → Takes instances converted old between → IsWalked types pairs instances g start between between.waiting
taken types pairs instances g start old between e converted w new at is t = record {
  start_known = searched.starts_known start (or_left (nat_eq start start) false (eq-eqb start start refl));
  edges_known = searched.edges_known;
  reached = searched.is_reached;
  order = searched.order;
  listed = λ x h. elim (which old.done between.done old.asked x more h) [
    | inl same ↦ subst (λ (y : ℕ). lists g y ≡ true) (sym same) (ap is_some at)
    | inr there ↦ w.listed x there
  ];
  loads = λ x. ap (λ (ps : List (ℕ × Object)). object_at ps x) t.loaded
      ∙ loads_more (object_in types pairs g) old.loaded old.done old.asked converted new object w.loads x
      ∙ sym (ap (λ (b : Bool). cond b (object_in types pairs g x) None) (more x));
  least = subst (IsLeast types pairs g between.done) (sym t.refused) (least_more types pairs g old.done between.done old.asked converted old.refused more reason w.least);
  outward = subst (λ (ps : List (ℕ × Object)). (loaded_ids ps ≡ []) ⊎ IsOutward (loading_graph types pairs instances g) start (loaded_ids ps)) (sym t.loaded) (outward_next (loading_graph types pairs instances g) start old.asked old.loaded converted unloaded w.outward (w.named old.asked last));
  named = λ y h. subst (λ (ps : List (ℕ × Object)). (y ≡ start) ⊎ IsNamedIn (loading_graph types pairs instances g) (loaded_ids ps) y) (sym t.loaded) (elim (or_cases (has y old.waiting) (has y (wanted instances (eager_refs converted))) (sym (has_append y old.waiting (wanted instances (eager_refs converted))) ∙ ap (has y) (sym t.waiting) ∙ h)) [
    | inl there ↦ named_still (loading_graph types pairs instances g) start old.asked y old.loaded converted (w.named y (has_append y old.waiting (old.asked ∷ []) ∙ or_left (has y old.waiting) (has y (old.asked ∷ [])) there))
    | inr edge ↦ inr (named_new (loading_graph types pairs instances g) instances old.asked y old.loaded converted edges edge)
  ]);
}
  where
    more : IsMore old.done between.done old.asked
    more x = ap (has x) (t.done new) ∙ has_insert x old.asked old.done

    edges : edges_of (entity_of (loading_graph types pairs instances g) old.asked) ≡ wanted instances (eager_refs converted)
    edges = edges_loading types pairs instances g old.asked e converted at is

    object : object_in types pairs g old.asked ≡ object_of converted
    object = ap (option_and_then (λ (f : Entity). object_of (conversion types pairs f))) at ∙ ap object_of is

    reason : reason_in types pairs g old.asked ≡ reason_of converted
    reason = ap (option_and_then (λ (f : Entity). reason_of (conversion types pairs f))) at ∙ ap reason_of is

    unloaded : object_at old.loaded old.asked ≡ None
    unloaded = w.loads old.asked ∙ ap (λ (b : Bool). cond b (object_in types pairs g old.asked) None) new

    last : has old.asked (old.waiting ++ old.asked ∷ []) ≡ true
    last = has_append old.asked old.waiting (old.asked ∷ []) ∙ or_right (has old.asked old.waiting) (has old.asked (old.asked ∷ [])) (or_left (nat_eq old.asked old.asked) false (eq-eqb old.asked old.asked refl))

    waits : between.waiting ≡ old.waiting ++ edges_of (entity_of (loading_graph types pairs instances g) old.asked)
    waits = t.waiting ∙ ap (λ (es : List ℕ). old.waiting ++ es) (sym edges)

    searched : IsSearch (loading_graph types pairs instances g) (start ∷ []) between.done between.waiting
    searched =
        let now = looks_now (loading_graph types pairs instances g) (start ∷ []) old.done old.waiting old.asked new (search_of types pairs instances g start old (old.waiting ++ old.asked ∷ []) w) in
        subst (λ (ws : List ℕ). IsSearch (loading_graph types pairs instances g) (start ∷ []) between.done ws) (sym waits)
        (subst (λ (ds : List ℕ). IsSearch (loading_graph types pairs instances g) (start ∷ []) ds (old.waiting ++ edges_of (entity_of (loading_graph types pairs instances g) old.asked))) (sym (t.done new)) now)
