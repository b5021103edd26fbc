-- The lines `store` and `store-all`: what is gathered is stored, and is saved in memory before the storage is asked.
use Rattle.std.proofs.Common.{◌≡◌, ◌+◌, ◌<◌, ℕ, Bool, true, false, cond, not, ◌||◌, List, [], ◌∷◌, ◌++◌, Option, Some, None, option_map, is_some, Err, ap, ◌∙◌, refl, sym, subst, arith, length}
use Rattle.std.specs.Prelude.{codes, nat_eq, unwrap_or}
use Rattle.std.specs.Fmt.{decimal}
use Rattle.std.proofs.lemmas.Bool.{eq-eqb, or_left, or_right}
use Rattle.graph_model.specs.Ids.{has}
use Rattle.graph_model.specs.Graph.{ids, put_all}
use Rattle.graph_model.specs.Stores.{is_valid_store}
use Rattle.graph_model.specs.declared.ask.Ask.TheVariants as asks
use Rattle.graph_model.specs.declared.ask.Reply.{Reply}
use Rattle.graph_model.specs.declared.entity.Entity.{Entity}
use Rattle.graph_model.specs.declared.entity.Record.{Record}
use Rattle.graph_model.specs.declared.entity.StoreOp.{StoreOp}
use Rattle.graph_model.specs.Served.{IsSame, MayStore, Served, Storage, Stores}
use Rattle.graph_model.proofs.Graphs.{has_ids}
use Rattle.graph_model.proofs.Places.{nat_eq-swap}
use Rattle.entity_form.specs.Values as form
use Rattle.session_model.specs.Instances.{Held, Instance, Instances, has_instance, held_ids, instance_at}
use Rattle.session_model.specs.Answer.{Binding, State, Turn, are_too_big, gathered_records, id_in, id_of, is_bound, no_name, saved_instances, store_turn, stored, too_big}
use Rattle.session_model.specs.Sound.{IsHere, IsSound}
use Rattle.session_model.proofs.Asking.{ask_stays_allowed}
use Rattle.session_model.proofs.Finding.{ids_of}
use Rattle.session_model.proofs.Gathering.{IsGathered as IsWalked, eagerly, gathered_is, gathered_is_some, gathered_is_valid, gathered_op, lazily}
use Rattle.session_model.proofs.Holding.{held_stored}
use Rattle.session_model.proofs.Storing.{store_line_sound}
use Rattle.object_registry.specs.Registered.{Registered}
use Rattle.session_lines.specs.declared.memory.Memory.{Memory}
use Rattle.session_lines.specs.declared.outcome.Phase.TheVariants as phases
use Rattle.session_lines.specs.declared.refusal.Stop.{Stop}
use Rattle.session_lines.specs.declared.refusal.Stop.TheVariants.{Refused, NoMemory}
use Rattle.session_lines.specs.declared.refusal.Refusal.TheVariants as refusals
use Rattle.storer.specs.Gathered.{gathered_ids}
use Rattle.storer.specs.declared.gathering.Gathering.{Gathering}
use Rattle.storer.specs.declared.gathering.Gathering.TheVariants.{Lazy, Eager}
use Rattle.session_lines.specs.Due.{Awaits, Replied, stored_text, without}
use Rattle.session_lines.specs.Limits.{most_bytes}
use Rattle.session_lines.specs.Refusals.{IsRefusal}
use Rattle.session_lines.specs.Stands.{Stands, IsAtState}
use Rattle.session.specs.StoreAsks.{Gathers, IsGathered}
use Rattle.session_lines.proofs.Judged.{judged_first, judged_next}
use Rattle.session_lines.proofs.Lines.{stored_no_feed}
use Rattle.session_lines.proofs.Told.{answers_turn}

-- ---- what was gathered is saved

has_object : (hs : Instances) (y : ℕ) → has y (ids_of hs) ≡ has_instance hs y
has_object [] y = refl
has_object (h ∷ hs) y = by (nat_eq h.id y) refl (has_object hs y)
  where
    by : (b : Bool) → nat_eq h.id y ≡ b → has y (ids_of hs) ≡ has_instance hs y → (nat_eq y h.id || has y (ids_of hs)) ≡ is_some (cond b (Some h.instance) (instance_at hs y))
    by true e ih = or_left (nat_eq y h.id) (has y (ids_of hs)) (nat_eq-swap y h.id ∙ e)
    by false e ih = ap (λ (b : Bool). b || has y (ids_of hs)) (nat_eq-swap y h.id ∙ e) ∙ ih

-- of the ids of objects those that were gathered have a record
recorded : (hs : Instances) (xs : List ℕ) (y : ℕ) → has y (ids_of hs) ≡ true → has y (ids (gathered_records hs xs)) ≡ has y xs
recorded hs xs y there = has_ids (gathered_records hs xs) y ∙ (ap (λ (o : Option Entity). is_some o) (gathered_is hs xs y) ∙ by (has y xs) (instance_at hs y) (sym (has_object hs y) ∙ there))
  where
    by : (b : Bool) (o : Option Instance) → is_some o ≡ true → is_some (option_map (λ (i : Instance). form.entity_of i.object) (cond b o None)) ≡ b
    by true None e = e
    by true (Some i) e = refl
    by false None e = refl
    by false (Some i) e = refl

abbrev as_saved : Held → Held
as_saved h = record h { instance = record h.instance { saved = true; changed = false } }

saved_same : (hs : Instances) (xs zs : List ℕ) → ((y : ℕ) → has y (ids_of hs) ≡ true → has y xs ≡ has y zs) → saved_instances hs xs ≡ saved_instances hs zs
saved_same [] xs zs same = refl
saved_same (h ∷ hs) xs zs same =
    ap (λ (b : Bool). cond b (as_saved h) h ∷ saved_instances hs xs) (same h.id (or_left (nat_eq h.id h.id) (has h.id (ids_of hs)) (eq-eqb h.id h.id refl)))
    ∙ ap (λ (rest : Instances). cond (has h.id zs) (as_saved h) h ∷ rest) (saved_same hs xs zs (λ y there. same y (or_right (nat_eq y h.id) (has y (ids_of hs)) there)))

saved_gathered : (hs : Instances) (xs : List ℕ) → saved_instances hs (ids (gathered_records hs xs)) ≡ saved_instances hs xs
saved_gathered hs xs = saved_same hs (ids (gathered_records hs xs)) xs (λ y there. recorded hs xs y there)

-- ---- the turn

gathers_all : (gathering : Gathering) (hs : Instances) (x : ℕ) → IsWalked hs x (gathered_ids gathering hs x)
gathers_all Lazy hs x = lazily hs x
gathers_all Eager hs x = eagerly hs x

-- what is gathered from the object of the name
abbrev gathered_in : Gathering → State → List ℕ → List ℕ
gathered_in gathering state name = gathered_ids gathering state.instances (id_of state name)

abbrev records_in : Gathering → State → List ℕ → List Record
records_in gathering state name = gathered_records state.instances (gathered_in gathering state name)

abbrev effect : Gathering → State → List ℕ → Turn
effect gathering state name = stored state (gathered_in gathering state name) (gathered_op state (gathered_in gathering state name))

same_records : (gathering : Gathering) (memory : Memory) (storage : Storage) (state : State) (name : List ℕ) (start : ℕ) → Stands memory storage state → id_in memory.registry.names name ≡ Some start
    → gathered_records memory.registry.instances (gathered_ids gathering memory.registry.instances start) ≡ records_in gathering state name
same_records gathering memory storage state name start s named =
    ap (λ (hs : Instances). gathered_records hs (gathered_ids gathering hs start)) s.instances
    ∙ ap (λ (o : Option ℕ). gathered_records state.instances (gathered_ids gathering state.instances (unwrap_or o 0))) (sym named ∙ s.names name)

is_bound_by : (memory : Memory) (storage : Storage) (state : State) (name : List ℕ) (start : ℕ) → Stands memory storage state → id_in memory.registry.names name ≡ Some start → not (is_bound state name) ≡ false
is_bound_by memory storage state name start s named = ap (λ (o : Option ℕ). not (is_some o)) (sym (s.names name) ∙ named)

pub gathered_refusal : (gathering : Gathering) (memory : Memory) (storage : Storage) (state : State) (name : List ℕ) (stop : Stop) → IsAtState memory storage state → IsGathered gathering memory name (Err stop)
    → IsRefusal state (store_turn most_bytes state name (gathered_ids gathering)) stop
gathered_refusal gathering memory storage state name (Refused refusals.NoName) at none =
    judged_first state (no_name (not (is_bound state name))) (too_big (are_too_big most_bytes (records_in gathering state name)) ∷ []) (effect gathering state name)
    (ap (λ (o : Option ℕ). not (is_some o)) (sym (at.stands.names name) ∙ none))
gathered_refusal gathering memory storage state name (Refused refusals.TooBig) at much =
    judged_next state (no_name (not (is_bound state name))) (too_big (are_too_big most_bytes (records_in gathering state name)) ∷ []) (effect gathering state name)
    (is_bound_by memory storage state name much.start at.stands much.named)
    ∙ judged_first state (too_big (are_too_big most_bytes (records_in gathering state name))) [] (effect gathering state name)
    (ap (are_too_big most_bytes) (sym (same_records gathering memory storage state name much.start at.stands much.named)) ∙ much.big)
gathered_refusal gathering memory storage state name NoMemory at is = tt
gathered_refusal gathering memory storage state name (Refused refusals.Reserved) at is = absurd is
gathered_refusal gathering memory storage state name (Refused refusals.Duplicate) at is = absurd is
gathered_refusal gathering memory storage state name (Refused refusals.Full) at is = absurd is
gathered_refusal gathering memory storage state name (Refused refusals.NameTaken) at is = absurd is
gathered_refusal gathering memory storage state name (Refused refusals.NoType) at is = absurd is
gathered_refusal gathering memory storage state name (Refused refusals.NoMember) at is = absurd is
gathered_refusal gathering memory storage state name (Refused refusals.WrongKind) at is = absurd is
gathered_refusal gathering memory storage state name (Refused refusals.Range) at is = absurd is
gathered_refusal gathering memory storage state name (Refused refusals.NoRoot) at is = absurd is
gathered_refusal gathering memory storage state name (Refused refusals.NoTarget) at is = absurd is
gathered_refusal gathering memory storage state name (Refused refusals.BadLine) at is = absurd is

-- ---- what is gathered, as the state has it

record IsDueStore (gathering : Gathering) (state : State) (name : List ℕ) (op : StoreOp) : Type 0 where
  pub records : op.records ≡ records_in gathering state name
  pub op_is : op ≡ gathered_op state (gathered_in gathering state name)
  pub small : are_too_big most_bytes (records_in gathering state name) ≡ false
  pub here : IsHere state.instances (id_of state name)
  pub turn_is : store_turn most_bytes state name (gathered_ids gathering) ≡ stored state (gathered_in gathering state name) op

abbrev made_op : List Record → ℕ → StoreOp
made_op records next_id = record { records = records; next_id = next_id }

due_store : (gathering : Gathering) (memory : Memory) (storage : Storage) (state : State) (name : List ℕ) (op : StoreOp) → IsAtState memory storage state → state.started ≡ true → Gathers gathering memory name op
    → IsDueStore gathering state name op
due_store gathering memory storage state name op at started g = record {
  records = records;
  op_is = op_is;
  small = small;
  here = subst (λ (x : ℕ). IsHere state.instances x) (ap (λ (o : Option ℕ). unwrap_or o 0) (sym found)) (at.stands.sound.bound started name g.start found);
  turn_is = judged_next state (no_name (not (is_bound state name))) (too_big (are_too_big most_bytes (records_in gathering state name)) ∷ []) (effect gathering state name)
      (is_bound_by memory storage state name g.start at.stands g.named)
      ∙ (judged_next state (too_big (are_too_big most_bytes (records_in gathering state name))) [] (effect gathering state name) small ∙ ap (stored state (gathered_in gathering state name)) (sym op_is));
}
  where
    found : id_in state.names name ≡ Some g.start
    found = sym (at.stands.names name) ∙ g.named

    records : op.records ≡ records_in gathering state name
    records = g.records ∙ same_records gathering memory storage state name g.start at.stands g.named

    op_is : op ≡ gathered_op state (gathered_in gathering state name)
    op_is = ap (λ (rs : List Record). made_op rs op.next_id) records ∙ ap (made_op (records_in gathering state name)) (g.next_id ∙ at.stands.next_id)

    small : are_too_big most_bytes (records_in gathering state name) ≡ false
    small = ap (are_too_big most_bytes) (sym records) ∙ g.fits

-- ---- the ask

may_store : (is_next_type : List (List ℕ) → List ℕ → Bool) (gathering : Gathering) (memory : Memory) (storage : Storage) (state : State) (name : List ℕ) (op : StoreOp) → IsAtState memory storage state
    → IsDueStore gathering state name op → MayStore storage op
may_store is_next_type gathering memory storage state name op at d = ask_stays_allowed is_next_type by_model storage (asks.Store op) same may
  where
    by_model : Storage
    by_model = record storage { graph = state.graph; held = held_ids state.instances }

    same : IsSame by_model storage
    same = record { others = record { graph = at.stands.graph; number = refl; next_id = refl; types = refl }; held = at.held }

    may : MayStore by_model op
    may = record {
      not_empty = subst (λ (rs : List Record). 0 < length rs) (sym d.records) (gathered_is_some state.instances (id_of state name) (gathered_in gathering state name) (gathers_all gathering state.instances (id_of state name)) d.here);
      valid = subst (λ (o : StoreOp). is_valid_store state.graph (held_ids state.instances) storage.next_id o ≡ true) (sym d.op_is)
          (gathered_is_valid state at.stands.sound (id_of state name) (gathered_in gathering state name) (gathers_all gathering state.instances (id_of state name)) most_bytes storage.next_id d.small (omega arith) at.stands.stored_next);
    }

-- where the storage made the store, both stand at the state after it
stands_stored : (gathering : Gathering) (memory : Memory) (registry : Registered) (storage new : Storage) (state : State) (name : List ℕ) (op : StoreOp) (reply : Reply) → IsAtState memory storage state → state.started ≡ true
    → IsDueStore gathering state name op → op.next_id ≡ memory.next_id → registry.names ≡ memory.registry.names → registry.instances ≡ saved_instances memory.registry.instances (ids op.records)
    → Stores storage op reply new → IsAtState (record memory { registry = registry }) new (stored state (gathered_in gathering state name) op).state
stands_stored gathering memory registry storage new state name op reply at started d next names saved served = record {
  stands = record {
    types = at.stands.types;
    pairs = at.stands.pairs;
    names = λ n. ap (λ (bs : List Binding). id_in bs n) names ∙ at.stands.names n;
    instances = instances;
    next_id = at.stands.next_id;
    started = at.stands.started;
    rooted = λ e. absurd (let t = started in cc);
    sound = subst (λ (t : Turn). IsSound t.state) d.turn_is (store_line_sound most_bytes state name (gathered_ids gathering) (gathers_all gathering) at.stands.sound started);
    graph = served.graph ∙ ap (put_all op.records) at.stands.graph;
    number = served.number ∙ ap (λ (n : ℕ). n + 1) at.stands.number;
    stored_next = (let a = served.next_id ∙ (next ∙ at.stands.next_id) in omega arith);
    records = served.types ∙ at.stands.records;
  };
  held = λ y. served.held y ∙ (ap (λ (rs : List Record). has y (ids rs) || has y storage.held) d.records
      ∙ (ap (λ (b : Bool). has y (ids (records_in gathering state name)) || b) (at.held y) ∙ sym (held_stored state.instances (gathered_in gathering state name) at.stands.sound.order y)));
}
  where
    instances : registry.instances ≡ saved_instances state.instances (gathered_in gathering state name)
    instances = saved ∙ (ap (λ (hs : Instances). saved_instances hs (ids op.records)) at.stands.instances
        ∙ (ap (λ (rs : List Record). saved_instances state.instances (ids rs)) d.records ∙ saved_gathered state.instances (gathered_in gathering state name)))

pub store_awaits : (is_next_type : List (List ℕ) → List ℕ → Bool) (gathering : Gathering) (memory : Memory) (registry : Registered) (op : StoreOp) (count : ℕ) (name : List ℕ) (storage : Storage) (state : State)
    → Gathers gathering memory name op → IsAtState memory storage state → state.started ≡ true
    → registry.names ≡ memory.registry.names → registry.instances ≡ saved_instances memory.registry.instances (ids op.records) → count ≡ length op.records
    → Awaits is_next_type (asks.Store op) (phases.Storing count) (record memory { registry = registry }) storage (store_turn most_bytes state name (gathered_ids gathering))
store_awaits is_next_type gathering memory registry op count name storage state g at started names saved counted =
    subst (λ (t : Turn). Awaits is_next_type (asks.Store op) (phases.Storing count) (record memory { registry = registry }) storage t) (sym d.turn_is)
    (record { may = may_store is_next_type gathering memory storage state name op at d; due = refl; suits = counted; then_ = replied })
  where
    d : IsDueStore gathering state name op
    d = due_store gathering memory storage state name op at started g

    last : Turn
    last = without (asks.Store op) (stored state (gathered_in gathering state name) op)

    front : List ℕ
    front = codes "stored " ++ (decimal (state.number + 1) ++ (32 ∷ decimal (length op.records)))

    told : stored_text (storage.number + 1) count ≡ front ++ 10 ∷ []
    told = ap (λ (n : ℕ). stored_text (n + 1) count) at.stands.number ∙ ap (stored_text (state.number + 1)) counted

    replied : (reply : Reply) (new : Storage) → Served storage (asks.Store op) reply new → Replied (phases.Storing count) reply (record memory { registry = registry }) new last
    replied reply new served = subst (λ (r : Reply). Replied (phases.Storing count) r (record memory { registry = registry }) new last) (sym served.reply_is)
        (answers_turn front (stored_text (storage.number + 1) count) (record memory { registry = registry }) new last.state last (stored_no_feed (state.number + 1) (length op.records)) told refl
        (stands_stored gathering memory registry storage new state name op reply at started d g.next_id names saved served))
