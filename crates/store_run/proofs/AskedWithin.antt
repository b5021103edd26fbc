-- Within a line: what is asked may be asked, and what is held once it is served.
use Rattle.std.proofs.Common.{◌≡◌, ◌≤◌, ◌⊎◌, ℕ, ◌+◌, Bool, List, [], ◌∷◌, ◌++◌, length, refl, inl, inr, sym, ap, ◌∙◌, subst, arith}
use Rattle.graph_model.specs.declared.ask.Ask.{Ask}
use Rattle.graph_model.specs.declared.ask.Ask.TheVariants as asks
use Rattle.graph_model.specs.declared.ask.Reply.{Reply}
use Rattle.graph_model.specs.declared.entity.StoreOp.{StoreOp}
use Rattle.graph_model.specs.Graph.{after, put_all}
use Rattle.graph_model.specs.Served.{Served}
use Rattle.graph_model.specs.Stores.{total_size}
use Rattle.type_desc.specs.declared.desc.TypeDesc.{TypeDesc}
use Rattle.type_dictionary.specs.Records.{IsNextRecord, records_from}
use Rattle.session_model.specs.Answer.{Turn}
use Rattle.session.specs.Dealing.{Asks, IsDueStep}
use Rattle.session_lines.specs.Due.{rest_of, without}
use Rattle.session.specs.Sessions.{SessionView as Session}
use Rattle.session.specs.declared.session.SessionStep.{SessionStep as Step}
use Rattle.session.specs.declared.session.SessionStep.TheVariants as step
use Rattle.session_lines.proofs.TypeWords.{records_behind}
use Rattle.plain_storage.specs.Held.{IsSoundGraph, PlainHeld}
use Rattle.plain_storage.specs.Keeping.{IsNext, MayServe, Plain, held_in, storage_of, types_with}
use Rattle.graph_model.specs.Stores.{next_after}
use Rattle.store_run.specs.Answer.{held_behind}
use Rattle.store_run.specs.Within.{IsBefore, IsBehind, IsWithin, LineBegun, MakesOne, MayCarry, any_record}
use Rattle.store_run.proofs.RecordLengths.{record_fits, record_some}

abbrev pub Stage : LineBegun → Turn → List ℕ → PlainHeld → Type 0
Stage line due put held = IsBefore line due put held ⊎ IsBehind line due held

same_first : {A : Type 0} (x y : A) (xs ys : List A) → x ∷ xs ≡ y ∷ ys → x ≡ y
same_first x y xs ys e = cc

pub no_first : {A : Type 0} (x : A) (xs : List A) (P : Type 0) → ◌≡◌ {A = List A} [] (x ∷ xs) → P
no_first x xs P e = absurd cc

-- ---- a store or a record is asked before anything is made or put

-- the store is the one that the line makes
record StoreDue (line : LineBegun) (op : StoreOp) (due : Turn) (put : List ℕ) (held : PlainHeld) : Type 0 where
  pub before : IsBefore line due put held
  pub stores : line.turn.stores ≡ op ∷ []
  pub records : line.turn.records ≡ []
  pub types : line.turn.state.types ≡ line.held.types
  pub fits : total_size op.records ≤ 1048560
  pub sound : IsSoundGraph line.held.types (put_all op.records line.held.graph)

store_of : (line : LineBegun) (op : StoreOp) (rest : List StoreOp) (due : Turn) (put : List ℕ) (held : PlainHeld) → IsBefore line due put held → due.stores ≡ op ∷ rest
    → MakesOne line.held line.turn → StoreDue line op due put held
store_of line op rest due put held before asked (inl nothing) = no_first op rest _ (sym nothing.stores ∙ (sym before.stores ∙ asked))
store_of line op rest due put held before asked (inr (inl made)) = no_first op rest _ (sym made.stores ∙ (sym before.stores ∙ asked))
store_of line op rest due put held before asked (inr (inr made)) =
    let is : made.op ≡ op = same_first made.op op [] rest (sym made.stores ∙ (sym before.stores ∙ asked)) in
    record {
      before = before;
      stores = made.stores ∙ ap (λ (o : StoreOp). o ∷ []) is;
      records = made.records;
      types = made.types;
      fits = subst (λ (o : StoreOp). total_size o.records ≤ 1048560) is made.fits;
      sound = subst (λ (o : StoreOp). IsSoundGraph line.held.types (put_all o.records line.held.graph)) is made.sound;
    }

store_due : (line : LineBegun) (op : StoreOp) (rest : List StoreOp) (due : Turn) (put : List ℕ) (held : PlainHeld) → Stage line due put held → due.stores ≡ op ∷ rest
    → MakesOne line.held line.turn → StoreDue line op due put held
store_due line op rest due put held (inl before) asked makes = store_of line op rest due put held before asked makes
store_due line op rest due put held (inr behind) asked makes = no_first op rest _ (sym behind.stores ∙ asked)

-- the record is the one that the line makes
record TypeDue (line : LineBegun) (text : List ℕ) (due : Turn) (put : List ℕ) (held : PlainHeld) : Type 0 where
  pub before : IsBefore line due put held
  pub desc : TypeDesc
  pub next : IsNextRecord line.held.types text desc
  pub records : line.turn.records ≡ text ∷ []
  pub stores : line.turn.stores ≡ []
  pub types : line.turn.state.types ≡ line.held.types ++ desc ∷ []

type_of : (line : LineBegun) (text : List ℕ) (rest : List (List ℕ)) (due : Turn) (put : List ℕ) (held : PlainHeld) → IsBefore line due put held → due.records ≡ text ∷ rest
    → MakesOne line.held line.turn → TypeDue line text due put held
type_of line text rest due put held before asked (inl nothing) = no_first text rest _ (sym nothing.records ∙ (sym before.records ∙ asked))
type_of line text rest due put held before asked (inr (inr made)) = no_first text rest _ (sym made.records ∙ (sym before.records ∙ asked))
type_of line text rest due put held before asked (inr (inl made)) =
    let is : made.text ≡ text = same_first made.text text [] rest (sym made.records ∙ (sym before.records ∙ asked)) in
    record {
      before = before;
      desc = made.desc;
      next = subst (λ (t : List ℕ). IsNextRecord line.held.types t made.desc) is made.next;
      records = made.records ∙ ap (λ (t : List ℕ). t ∷ []) is;
      stores = made.stores;
      types = made.types;
    }

type_due : (line : LineBegun) (text : List ℕ) (rest : List (List ℕ)) (due : Turn) (put : List ℕ) (held : PlainHeld) → Stage line due put held → due.records ≡ text ∷ rest
    → MakesOne line.held line.turn → TypeDue line text due put held
type_due line text rest due put held (inl before) asked makes = type_of line text rest due put held before asked makes
type_due line text rest due put held (inr behind) asked makes = no_first text rest _ (sym behind.records ∙ asked)

-- ---- what is asked may be asked

text_may : (text : List ℕ) (types : List TypeDesc) (desc : TypeDesc) → IsNextRecord types text desc → (1 ≤ length text) × (length text ≤ 1048576)
text_may text types desc next = subst (λ (t : List ℕ). (1 ≤ length t) × (length t ≤ 1048576)) (sym next.spelled)
    (record_some (16 + length types) desc, record_fits (length types) desc next.room next.recorded.sound.grammar)

ask_may : (ask : Ask) (session : Session) (line : LineBegun) (plain : Plain) (types : List TypeDesc) (due : Turn) (put : List ℕ)
    → Asks any_record ask session (storage_of plain (records_from 16 types)) due → Stage line due put (held_in plain types) → MakesOne line.held line.turn → MayServe plain ask
ask_may (asks.Look x) session line plain types due put gives stage makes = gives.may.listed
ask_may (asks.Store op) session line plain types due put gives stage makes =
    let made = store_due line op (rest_of due.stores) due put (held_in plain types) stage gives.due_next makes in
    record { some = gives.may.not_empty; valid = gives.may.valid; fits = made.fits }
ask_may (asks.KeepType text) session line plain types due put gives stage makes =
    let made = type_due line text (rest_of due.records) due put (held_in plain types) stage gives.due_next makes in
    text_may text line.held.types made.desc made.next
ask_may (asks.Hold xs) session line plain types due put gives stage makes = tt
ask_may (asks.Release xs) session line plain types due put gives stage makes = tt
ask_may asks.Collect session line plain types due put gives stage makes = tt
ask_may asks.Tidy session line plain types due put gives stage makes = tt

pub step_may : (told kept : Bool) (line : LineBegun) (next : Step) (session : Session) (plain : Plain) (reads : ℕ → List ℕ) (written : List ℕ)
    → IsWithin told kept line (IsDueStep any_record next session) plain reads written → MayCarry plain next
step_may told kept line (step.Ask ask) session plain reads written within = ask_may ask session line plain within.types within.due within.put within.stands within.stage within.makes
step_may told kept line (step.Print text) session plain reads written within = tt
step_may told kept line step.Done session plain reads written within = tt
step_may told kept line (step.Broken id) session plain reads written within = within.stands

-- ---- what is held behind an ask

-- with these types the storage has the records behind the ask, and this is held
pub record Follows (line : LineBegun) (ask : Ask) (plain : Plain) (types : List TypeDesc) (due : Turn) (put : List ℕ) : Type 0 where
  pub next_types : List TypeDesc
  pub next : PlainHeld
  pub records : records_from 16 next_types ≡ types_with ask (records_from 16 types)
  pub is_next : IsNext ask (held_in plain types) next
  pub stage : Stage line (without ask due) put next
  pub served : (new : Plain) (reply : Reply) → Served (storage_of plain (records_from 16 types)) ask reply (storage_of new (types_with ask (records_from 16 types))) → held_in new next_types ≡ next

-- what is held after these stores, with these types
abbrev pub held_by : PlainHeld → List TypeDesc → List StoreOp → PlainHeld
held_by held types stores = record { types = types; graph = after held.graph stores; number = held.number + length stores; next_id = next_after held.next_id stores }

same_held : (plain new : Plain) (types : List TypeDesc) → new.graph ≡ plain.graph → new.stores_log.count ≡ plain.stores_log.count → new.next_id ≡ plain.next_id
    → held_in new types ≡ held_in plain types
same_held plain new types graph number next_id = cc

-- of what is due only records and stores count
same_stage : (line : LineBegun) (due left : Turn) (put : List ℕ) (held : PlainHeld) → left.records ≡ due.records → left.stores ≡ due.stores → Stage line due put held → Stage line left put held
same_stage line due left put held records stores (inl before) = inl (record { put_none = before.put_none; records = records ∙ before.records; stores = stores ∙ before.stores; held_is = before.held_is })
same_stage line due left put held records stores (inr behind) = inr (record { records = records ∙ behind.records; stores = stores ∙ behind.stores; held_is = behind.held_is })

-- an ask that keeps nothing
unwritten : (line : LineBegun) (plain : Plain) (types : List TypeDesc) (due : Turn) (put : List ℕ) (ask : Ask) → types_with ask (records_from 16 types) ≡ records_from 16 types
    → (without ask due).records ≡ due.records → (without ask due).stores ≡ due.stores → IsNext ask (held_in plain types) (held_in plain types) → Stage line due put (held_in plain types)
    → ((new : Plain) (reply : Reply) → Served (storage_of plain (records_from 16 types)) ask reply (storage_of new (types_with ask (records_from 16 types))) → held_in new types ≡ held_in plain types)
    → Follows line ask plain types due put
unwritten line plain types due put ask records same_records same_stores is stage served = record {
  next_types = types;
  next = held_in plain types;
  records = sym records;
  is_next = is;
  stage = same_stage line due (without ask due) put (held_in plain types) same_records same_stores stage;
  served = served;
}

store_follows : (line : LineBegun) (op : StoreOp) (plain : Plain) (types : List TypeDesc) (due : Turn) (put : List ℕ) → StoreDue line op due put (held_in plain types)
    → Follows line (asks.Store op) plain types due put
store_follows line op plain types due put made = record {
  next_types = types;
  next = next;
  records = refl;
  is_next = record { sound = sound; next_is = refl };
  stage = inr (record {
    records = made.before.records ∙ made.records;
    stores = ap rest_of (made.before.stores ∙ made.stores);
    held_is = held_is;
  });
  served = λ new reply s. stored new s.graph s.number s.next_id;
}
  where
    next : PlainHeld
    next = record { types = types; graph = put_all op.records plain.graph; number = plain.stores_log.count + 1; next_id = op.next_id }

    with_store : PlainHeld → PlainHeld
    with_store held = record held { graph = put_all op.records held.graph; number = held.number + 1; next_id = op.next_id }

    sound : IsSoundGraph types (put_all op.records plain.graph)
    sound = subst (λ (held : PlainHeld). IsSoundGraph held.types (put_all op.records held.graph)) (sym made.before.held_is) made.sound

    behind : (ts : List TypeDesc) (stores : List StoreOp) → ts ≡ line.held.types → stores ≡ op ∷ []
        → with_store line.held ≡ held_by line.held ts stores
    behind ts stores e f =
        subst (λ (os : List StoreOp). with_store line.held ≡ held_by line.held ts os) (sym f)
        (ap (λ (t : List TypeDesc). record (with_store line.held) { types = t }) (sym e))

    held_is : next ≡ held_behind line.held line.turn
    held_is = ap with_store made.before.held_is ∙ behind line.turn.state.types line.turn.stores made.types made.stores

    stored : (new : Plain) → new.graph ≡ put_all op.records plain.graph → new.stores_log.count ≡ plain.stores_log.count + 1 → new.next_id ≡ op.next_id → held_in new types ≡ next
    stored new graph number next_id = cc

type_follows : (line : LineBegun) (text : List ℕ) (plain : Plain) (types : List TypeDesc) (due : Turn) (put : List ℕ) → TypeDue line text due put (held_in plain types)
    → Follows line (asks.KeepType text) plain types due put
type_follows line text plain types due put made = record {
  next_types = types ++ made.desc ∷ [];
  next = with_type (held_in plain types);
  records = records_behind 16 types made.desc ∙ ap (λ (t : List ℕ). records_from 16 types ++ t ∷ []) (sym next.spelled);
  is_next = record { desc = made.desc; record_ = next; next_is = refl };
  stage = inr (record {
    records = ap rest_of (made.before.records ∙ made.records);
    stores = made.before.stores ∙ made.stores;
    held_is = ap with_type made.before.held_is ∙ behind line.turn.state.types line.turn.stores made.types made.stores;
  });
  served = λ new reply s. same_held plain new (types ++ made.desc ∷ []) s.graph s.number s.next_id;
}
  where
    next : IsNextRecord types text made.desc
    next = subst (λ (held : PlainHeld). IsNextRecord held.types text made.desc) (sym made.before.held_is) made.next

    with_type : PlainHeld → PlainHeld
    with_type held = record held { types = held.types ++ made.desc ∷ [] }

    behind : (ts : List TypeDesc) (stores : List StoreOp) → ts ≡ line.held.types ++ made.desc ∷ [] → stores ≡ []
        → with_type line.held ≡ held_by line.held ts stores
    behind ts stores e f =
        let none : line.held.number ≡ line.held.number + 0 = omega arith in
        subst (λ (os : List StoreOp). with_type line.held ≡ held_by line.held ts os) (sym f)
        (ap (λ (n : ℕ). record (with_type line.held) { number = n }) none ∙ ap (λ (t : List TypeDesc). record line.held { types = t; number = line.held.number + 0 }) (sym e))

pub follows : (ask : Ask) (session : Session) (line : LineBegun) (plain : Plain) (types : List TypeDesc) (due : Turn) (put : List ℕ)
    → Asks any_record ask session (storage_of plain (records_from 16 types)) due → Stage line due put (held_in plain types) → MakesOne line.held line.turn → Follows line ask plain types due put
follows (asks.Store op) session line plain types due put gives stage makes =
    store_follows line op plain types due put (store_due line op (rest_of due.stores) due put (held_in plain types) stage gives.due_next makes)
follows (asks.KeepType text) session line plain types due put gives stage makes =
    type_follows line text plain types due put (type_due line text (rest_of due.records) due put (held_in plain types) stage gives.due_next makes)
follows (asks.Look x) session line plain types due put gives stage makes =
    unwritten line plain types due put (asks.Look x) refl refl refl refl stage (λ new reply s. same_held plain new types s.same.others.graph s.same.others.number s.same.others.next_id)
follows (asks.Hold xs) session line plain types due put gives stage makes =
    unwritten line plain types due put (asks.Hold xs) refl refl refl refl stage (λ new reply s. same_held plain new types s.others.graph s.others.number s.others.next_id)
follows (asks.Release xs) session line plain types due put gives stage makes =
    unwritten line plain types due put (asks.Release xs) refl refl refl refl stage (λ new reply s. same_held plain new types s.others.graph s.others.number s.others.next_id)
follows asks.Collect session line plain types due put gives stage makes =
    unwritten line plain types due put asks.Collect refl refl refl refl stage (λ new reply s. same_held plain new types s.same.others.graph s.same.others.number s.same.others.next_id)
follows asks.Tidy session line plain types due put gives stage makes =
    unwritten line plain types due put asks.Tidy refl refl refl refl stage (λ new reply s. same_held plain new types s.same.others.graph s.same.others.number s.same.others.next_id)
