-- A call on a walk: the next id is asked for, or the walk has ended.
use Rattle.std.proofs.Common.{◌≡◌, ℕ, ◌≤◌, Bool, true, false, cond, ◌||◌, List, [], ◌∷◌, ◌++◌, Option, Some, None, inl, inr, refl, sym, ap, ◌∙◌, subst}
use Rattle.std.specs.Prelude.{option_and_then}
use Rattle.std.specs.List.{filter}
use Rattle.std.proofs.lemmas.Bool.{or_cases, or_left, or_right}
use Rattle.graph_model.specs.Ids.{has, rises}
use Rattle.graph_model.specs.Graph.{Graph, entity_of, ids, lists}
use Rattle.graph_model.specs.declared.entity.Entity.{Entity}
use Rattle.graph_model.specs.declared.entity.Record.{Record}
use Rattle.graph_model.proofs.Graphs.{entity_of_filter}
use Rattle.graph_model.proofs.Rising.{filter_ids, rises_filter}
use Rattle.type_desc.specs.declared.desc.TypeDesc.{TypeDesc}
use Rattle.entity_form.specs.declared.value.Object.{Object}
use Rattle.refactor_table.specs.declared.name.Pair.{Pair}
use Rattle.session_model.specs.Instances.{Instances, reached}
use Rattle.session_model.specs.Loading.{Converted, conversion, load, load_all, loading_graph}
use Rattle.session_model.proofs.Reached.{walks-reached}
use Rattle.object_registry.proofs.Finds.{search_finds}
use Rattle.lazy_refs.specs.Mappings.{seen}
use Rattle.lazy_refs.specs.Steps.{IsLeast, IsLoading, IsOutward, IsReady, IsRefusal, IsStep, IsWalked, object_in, object_of, reason_in, reason_of}
use Rattle.lazy_refs.specs.Walks.{AreKnown, AsksFor, IsNextStep, Progress, TurnsBy, TurnsWith, loaded_ids, object_at, refused_as}
use Rattle.lazy_refs.specs.declared.step.LoadStep.{LoadStep}
use Rattle.lazy_refs.specs.declared.step.LoadStep.TheVariants as steps
use Rattle.lazy_refs.specs.declared.step.Reason.{Reason}
use Rattle.lazy_refs.specs.declared.step.Reason.TheVariants as reasons
use Rattle.lazy_refs.specs.declared.step.Refused.{Refused}
use Rattle.lazy_refs.proofs.Loads.{code_of, loads_all, refuses_all}
use Rattle.lazy_refs.proofs.Taking.{search_of, taken}

-- ---- the next id

pub asks_next : (types : List TypeDesc) (pairs : List Pair) (instances : Instances) (g : Graph) (start : ℕ) (old new : Progress) (id : ℕ)
    → IsWalked types pairs instances g start old old.waiting → AsksFor old new id → IsWalked types pairs instances g start new (new.waiting ++ id ∷ [])
asks_next types pairs instances g start old new id w a = subst (λ (p : Progress). IsWalked types pairs instances g start p (new.waiting ++ id ∷ [])) (sym same) (record {
  start_known = lift start w.start_known;
  edges_known = λ x y h e. lift y (w.edges_known x y h e);
  reached = λ x h. w.reached x (elim (or_cases (has x old.done) (has x (new.waiting ++ id ∷ [])) h) [
    | inl there ↦ or_left (has x old.done) (has x old.waiting) there
    | inr waits ↦ or_right (has x old.done) (has x old.waiting) (a.next.within x waits)
  ]);
  order = w.order;
  listed = w.listed;
  loads = w.loads;
  least = w.least;
  outward = w.outward;
  named = λ y h. w.named y (a.next.within y h);
})
  where
    lift : (x : ℕ) → (has x old.done || has x old.waiting) ≡ true → (has x old.done || has x (new.waiting ++ id ∷ [])) ≡ true
    lift x h = elim (or_cases (has x old.done) (has x old.waiting) h) [
      | inl there ↦ or_left (has x old.done) (has x (new.waiting ++ id ∷ [])) there
      | inr waits ↦ a.next.known x waits
    ]

    same : new ≡ record new { done = old.done; loaded = old.loaded; refused = old.refused }
    same = ap (λ (d : List ℕ). record new { done = d }) a.done
        ∙ ap (λ (ps : List (ℕ × Object)). record new { done = old.done; loaded = ps }) a.loaded
        ∙ ap (λ (r : Option Refused). record new { done = old.done; loaded = old.loaded; refused = r }) a.refused

-- ---- the end

-- a walk with nothing left
pub record IsEnded (types : List TypeDesc) (pairs : List Pair) (instances : Instances) (g : Graph) (start : ℕ) (p : Progress) : Type 0 where
  pub graph : rises (ids g) ≡ true
  pub walked : IsWalked types pairs instances g start p p.waiting
  pub known : AreKnown p.done p.waiting

all_done : (types : List TypeDesc) (pairs : List Pair) (instances : Instances) (g : Graph) (start : ℕ) (p : Progress) → IsEnded types pairs instances g start p
    → (x : ℕ) → (has x p.done || has x p.waiting) ≡ true → has x p.done ≡ true
all_done types pairs instances g start p e x h = elim (or_cases (has x p.done) (has x p.waiting) h) [ inl there ↦ there | inr waits ↦ e.known x waits ]

done_is : (types : List TypeDesc) (pairs : List Pair) (instances : Instances) (g : Graph) (start : ℕ) (p : Progress) → IsEnded types pairs instances g start p
    → p.done ≡ reached (loading_graph types pairs instances g) (start ∷ [])
done_is types pairs instances g start p e =
    let s = search_of types pairs instances g start p p.waiting e.walked in
    search_finds (loading_graph types pairs instances g) (start ∷ []) p.done (record {
      starts_known = λ x h. or_left (has x p.done) false (all_done types pairs instances g start p e x (s.starts_known x h));
      edges_known = λ x y h f. or_left (has y p.done) false (all_done types pairs instances g start p e y (s.edges_known x y h f));
      is_reached = λ x h. s.is_reached x (elim (or_cases (has x p.done) false h) [ inl there ↦ or_left (has x p.done) (has x p.waiting) there | inr never ↦ absurd cc ]);
      order = s.order;
    })

-- the records of the done ids
abbrev done_records : Graph → Progress → Graph
done_records g p = filter (λ (r : Record). has r.id p.done) g

closure_is : (types : List TypeDesc) (pairs : List Pair) (instances : Instances) (g : Graph) (start : ℕ) (p : Progress) → IsEnded types pairs instances g start p
    → load types pairs g instances start ≡ load_all types pairs (done_records g p) instances
closure_is types pairs instances g start p e = ap (λ (xs : List ℕ). load_all types pairs (filter (λ (r : Record). has r.id xs) g) instances) (sym (done_is types pairs instances g start p e))

records_rise : (g : Graph) (p : Progress) → rises (ids g) ≡ true → rises (ids (done_records g p)) ≡ true
records_rise g p h = ap rises (filter_ids (λ (x : ℕ). has x p.done) g) ∙ rises_filter (λ (x : ℕ). has x p.done) (ids g) h

chosen : {A B : Type 0} (f : A → Option B) (b : Bool) (o : Option A) → option_and_then f (cond b o None) ≡ cond b (option_and_then f o) None
chosen f true o = refl
chosen f false o = refl

object_there : (types : List TypeDesc) (pairs : List Pair) (g : Graph) (p : Progress) (x : ℕ) → object_in types pairs (done_records g p) x ≡ cond (has x p.done) (object_in types pairs g x) None
object_there types pairs g p x = ap (option_and_then (λ (f : Entity). object_of (conversion types pairs f))) (entity_of_filter (λ (y : ℕ). has y p.done) g x)
    ∙ chosen (λ (f : Entity). object_of (conversion types pairs f)) (has x p.done) (entity_of g x)

reason_there : (types : List TypeDesc) (pairs : List Pair) (g : Graph) (p : Progress) (x : ℕ) → reason_in types pairs (done_records g p) x ≡ cond (has x p.done) (reason_in types pairs g x) None
reason_there types pairs g p x = ap (option_and_then (λ (f : Entity). reason_of (conversion types pairs f))) (entity_of_filter (λ (y : ℕ). has y p.done) g x)
    ∙ chosen (λ (f : Entity). reason_of (conversion types pairs f)) (has x p.done) (entity_of g x)

-- every done id was converted
ready : (types : List TypeDesc) (pairs : List Pair) (instances : Instances) (g : Graph) (start : ℕ) (p : Progress) → IsEnded types pairs instances g start p → p.refused ≡ None
    → IsReady types pairs instances g start p.loaded
ready types pairs instances g start p e fine = record {
  loads = closure_is types pairs instances g start p e ∙ loads_all types pairs (done_records g p) p.loaded instances (records_rise g p e.graph)
      (λ x. e.walked.loads x ∙ sym (object_there types pairs g p x)) (λ x. reason_there types pairs g p x ∙ none (has x p.done) x refl);
  outward = elim e.walked.outward as (λ _. IsOutward (loading_graph types pairs instances g) start (loaded_ids p.loaded)) [ inl empty ↦ absurd (begun p.loaded empty (e.walked.loads start)) | inr out ↦ out ];
}
  where
    converted : IsLeast types pairs g p.done None
    converted = subst (IsLeast types pairs g p.done) fine e.walked.least

    none : (b : Bool) (x : ℕ) → has x p.done ≡ b → cond b (reason_in types pairs g x) None ≡ None
    none true x h = converted x h
    none false x h = refl

    start_done : has start p.done ≡ true
    start_done = all_done types pairs instances g start p e start e.walked.start_known

    there : (o : Option Entity) → entity_of g start ≡ o → lists g start ≡ true → option_and_then (λ (f : Entity). reason_of (conversion types pairs f)) o ≡ None
        → option_and_then (λ (f : Entity). object_of (conversion types pairs f)) o ≡ None → ⊥
    there None at l r n = absurd (let t : false ≡ true = sym (ap (λ (o : Option Entity). elim o as (λ _. Bool) [ None ↦ false | Some f ↦ true ]) at) ∙ l in cc)
    there (Some f) at l r n = either (conversion types pairs f) r n
      where
        either : (c : Converted) → reason_of c ≡ None → object_of c ≡ None → ⊥
        either (Converted.Loaded o) r n = absurd cc
        either Converted.NoType r n = absurd cc
        either Converted.WrongKind r n = absurd cc

    begun : (ps : List (ℕ × Object)) → loaded_ids ps ≡ [] → object_at ps start ≡ cond (has start p.done) (object_in types pairs g start) None → ⊥
    begun [] empty found = there (entity_of g start) refl (e.walked.listed start start_done) (converted start start_done)
        (sym (found ∙ ap (λ (b : Bool). cond b (object_in types pairs g start) None) start_done))
    begun (q ∷ ps) empty found = absurd cc

refusal : (types : List TypeDesc) (pairs : List Pair) (instances : Instances) (g : Graph) (start : ℕ) (p : Progress) (r : Refused) → IsEnded types pairs instances g start p → p.refused ≡ Some r
    → IsRefusal types pairs instances g start (code_of r.reason) r
refusal types pairs instances g start p r e is = record {
  refuses = closure_is types pairs instances g start p e ∙ refuses_all types pairs (done_records g p) r.id r.reason instances (records_rise g p e.graph)
      (reason_there types pairs g p r.id ∙ ap (λ (b : Bool). cond b (reason_in types pairs g r.id) None) l.0 ∙ l.1) (λ y other h. below y other (has y p.done) refl (sym (reason_there types pairs g p y) ∙ h));
  reached = e.walked.reached r.id (or_left (has r.id p.done) (has r.id p.waiting) l.0);
  reason = l.1;
  least = λ x other walk why. l.2 x other (ap (has x) (done_is types pairs instances g start p e) ∙ walks-reached (loading_graph types pairs instances g) (start ∷ []) x walk) why;
}
  where
    l : IsLeast types pairs g p.done (Some r)
    l = subst (IsLeast types pairs g p.done) is e.walked.least

    below : (y : ℕ) (other : Reason) (b : Bool) → has y p.done ≡ b → cond b (reason_in types pairs g y) None ≡ Some other → r.id ≤ y
    below y other true h why = l.2 y other h why
    below y other false h why = absurd cc

-- ---- a call

goes_on : (types : List TypeDesc) (pairs : List Pair) (instances : Instances) (g : Graph) (start : ℕ) (between new : Progress) (step : LoadStep) → rises (ids g) ≡ true
    → IsWalked types pairs instances g start between between.waiting → IsNextStep between new step → IsStep types pairs instances g start new step
goes_on types pairs instances g start between new (steps.Want id) rising w a = (
  a.asked,
  record {
    graph = rising;
    walked = subst (λ (x : ℕ). IsWalked types pairs instances g start new (new.waiting ++ x ∷ [])) (sym a.asked) (asks_next types pairs instances g start between new id w a);
    fresh = ap (λ (x : ℕ). has x new.done) a.asked ∙ ap (has id) a.done ∙ a.next.fresh;
  },
)
goes_on types pairs instances g start between new (steps.Ready all) rising w a =
    subst (IsReady types pairs instances g start) (sym a.1.1) (ready types pairs instances g start between (record { graph = rising; walked = w; known = a.0 }) a.1.0)
goes_on types pairs instances g start between new (steps.NoType id) rising w a = refusal types pairs instances g start between (refused_as id reasons.NoType) (record { graph = rising; walked = w; known = a.0 }) a.1
goes_on types pairs instances g start between new (steps.WrongKind id) rising w a = refusal types pairs instances g start between (refused_as id reasons.WrongKind) (record { graph = rising; walked = w; known = a.0 }) a.1
goes_on types pairs instances g start between new (steps.Broken id) rising w a = tt

turned : (types : List TypeDesc) (pairs : List Pair) (instances : Instances) (g : Graph) (start : ℕ) (entity : Entity) (object : Object) (old new : Progress) (step : LoadStep)
    → IsLoading types pairs instances g start old → entity_of g old.asked ≡ Some entity
    → (t : TurnsBy types pairs instances object old new step) → conversion types pairs entity ≡ seen t.outcome → IsStep types pairs instances g start new step
turned types pairs instances g start entity object old new step l at t is =
    goes_on types pairs instances g start t.turns.between new step l.graph (taken types pairs instances g start old t.turns.between entity (seen t.outcome) l.walked l.fresh at is t.turns.takes) t.turns.goes_on

pub stepped : (types : List TypeDesc) (pairs : List Pair) (instances : Instances) (g : Graph) (start : ℕ) (entity : Entity) (old new : Progress) (step : LoadStep)
    → IsLoading types pairs instances g start old → entity_of g old.asked ≡ Some entity → TurnsWith types pairs instances entity old new step → IsStep types pairs instances g start new step
stepped types pairs instances g start entity old new (steps.Broken id) l at t = tt
stepped types pairs instances g start entity old new (steps.Want id) l at t = turned types pairs instances g start entity t.0 old new (steps.Want id) l at t.2 (t.2.becomes entity t.1.held)
stepped types pairs instances g start entity old new (steps.Ready all) l at t = turned types pairs instances g start entity t.0 old new (steps.Ready all) l at t.2 (t.2.becomes entity t.1.held)
stepped types pairs instances g start entity old new (steps.NoType id) l at t = turned types pairs instances g start entity t.0 old new (steps.NoType id) l at t.2 (t.2.becomes entity t.1.held)
stepped types pairs instances g start entity old new (steps.WrongKind id) l at t = turned types pairs instances g start entity t.0 old new (steps.WrongKind id) l at t.2 (t.2.becomes entity t.1.held)
