-- Within a line: from what is due to what is due behind the next step, and where nothing is due any more.
use Rattle.std.proofs.Common.{◌≡◌, ℕ, ◌+◌, Bool, IsTrue, Some, None, List, [], ◌∷◌, ◌++◌, refl, inl, inr, sym, ap, ◌∙◌, subst, arith, append_assoc, append-nil}
use Rattle.graph_model.specs.declared.ask.Ask.{Ask}
use Rattle.graph_model.specs.declared.ask.Ask.TheVariants as asks
use Rattle.graph_model.specs.declared.ask.Reply.{Reply}
use Rattle.graph_model.specs.declared.entity.StoreOp.{StoreOp}
use Rattle.graph_model.specs.Served.{Served, Storage}
use Rattle.type_desc.specs.declared.desc.TypeDesc.{TypeDesc}
use Rattle.type_dictionary.specs.Records.{records_from}
use Rattle.session_model.specs.Answer.{State, Turn}
use Rattle.session.specs.Dealing.{AfterReply, AwaitsLine, IsDueStep, IsDone, Prints}
use Rattle.session_lines.specs.Due.{without}
use Rattle.session_lines.specs.Lines.{IsLine}
use Rattle.session_lines.specs.Stands.{IsAtState}
use Rattle.session.specs.declared.session.Given.TheVariants as given
use Rattle.session.specs.Sessions.{SessionView as Session}
use Rattle.session.specs.declared.session.SessionStep.TheVariants as step
use Rattle.plain_storage.specs.Held.{PlainHeld}
use Rattle.plain_storage.specs.Keeping.{IsNext, Keeps, Plain, held_in, storage_of, types_with}
use Rattle.store_run.specs.Answer.{held_behind}
use Rattle.store_run.specs.Run.{EndsLine}
use Rattle.store_run.specs.Within.{IsBehind, IsWithin, LineBegun, MakesNothing, MakesOne, StandsFor, any_record}
use Rattle.store_run.proofs.AskedWithin.{Follows, Stage, follows, held_by, no_first}

-- where the session stands otherwise over the same storage
pub within_so : (told kept : Bool) (line : LineBegun) (Before After : Storage → Turn → Type 0) (plain : Plain) (reads : ℕ → List ℕ) (written : List ℕ)
    → ((storage : Storage) (due : Turn) → Before storage due → After storage due) → IsWithin told kept line Before plain reads written → IsWithin told kept line After plain reads written
within_so told kept line Before After plain reads written so within = record {
  types = within.types;
  due = within.due;
  put = within.put;
  stands = so (storage_of plain (records_from 16 within.types)) within.due within.stands;
  makes = within.makes;
  text = within.text;
  state = within.state;
  whole = within.whole;
  stage = within.stage;
  keeps = within.keeps;
  wrote = within.wrote;
}

-- ---- behind an ask

without_text : (ask : Ask) (turn : Turn) → (without ask turn).text ≡ turn.text
without_text (asks.Store op) turn = refl
without_text (asks.KeepType text) turn = refl
without_text (asks.Look x) turn = refl
without_text (asks.Hold xs) turn = refl
without_text (asks.Release xs) turn = refl
without_text asks.Collect turn = refl
without_text asks.Tidy turn = refl

without_state : (ask : Ask) (turn : Turn) → (without ask turn).state ≡ turn.state
without_state (asks.Store op) turn = refl
without_state (asks.KeepType text) turn = refl
without_state (asks.Look x) turn = refl
without_state (asks.Hold xs) turn = refl
without_state (asks.Release xs) turn = refl
without_state asks.Collect turn = refl
without_state asks.Tidy turn = refl

pub served_within : (told kept : Bool) (line : LineBegun) (ask : Ask) (session : Session) (plain new : Plain) (reads new_reads : ℕ → List ℕ) (written : List ℕ) (reply : Reply)
    → IsWithin told kept line (IsDueStep any_record (step.Ask ask) session) plain reads written
    → ((types : List (List ℕ)) → Served (storage_of plain types) ask reply (storage_of new (types_with ask types)))
    → (IsTrue kept → (types next_types : List TypeDesc) → Keeps plain types reads → IsNext ask (held_in plain types) (held_in new next_types) → Keeps new next_types new_reads)
    → IsWithin told kept line (StandsFor (Some (given.Reply reply)) session) new new_reads written
served_within told kept line ask session plain new reads new_reads written reply within served keep = record {
  types = behind.next_types;
  due = without ask within.due;
  put = within.put;
  stands = subst (λ (records : List (List ℕ)). AfterReply session.waiting reply session.memory (storage_of new records) (without ask within.due)) (sym behind.records)
      (within.stands.then_ reply (storage_of new (types_with ask (records_from 16 within.types))) (served (records_from 16 within.types)));
  makes = within.makes;
  text = within.text ∙ ap (λ (t : List ℕ). within.put ++ t) (sym (without_text ask within.due));
  state = without_state ask within.due ∙ within.state;
  whole = within.whole;
  stage = subst (λ (held : PlainHeld). Stage line (without ask within.due) within.put held) (sym held) behind.stage;
  keeps = λ k. keep k within.types behind.next_types (within.keeps k) (subst (λ (h : PlainHeld). IsNext ask (held_in plain within.types) h) (sym held) behind.is_next);
  wrote = within.wrote;
}
  where
    behind : Follows line ask plain within.types within.due within.put
    behind = follows ask session line plain within.types within.due within.put within.stands within.stage within.makes

    held : held_in new behind.next_types ≡ behind.next
    held = behind.served new reply (served (records_from 16 within.types))

-- ---- where nothing is left to be made

none_held : (line : LineBegun) (types : List TypeDesc) (stores : List StoreOp) → types ≡ line.held.types → stores ≡ [] → line.held ≡ held_by line.held types stores
none_held line types stores e f =
    let none : line.held.number ≡ line.held.number + 0 = omega arith in
    subst (λ (os : List StoreOp). line.held ≡ held_by line.held types os) (sym f)
    (ap (λ (n : ℕ). record line.held { number = n }) none ∙ ap (λ (t : List TypeDesc). record line.held { types = t; number = line.held.number + 0 }) (sym e))

makes_nothing : (held : PlainHeld) (turn : Turn) → MakesOne held turn → turn.records ≡ [] → turn.stores ≡ [] → MakesNothing held turn
makes_nothing held turn (inl nothing) records stores = nothing
makes_nothing held turn (inr (inl made)) records stores = no_first made.text [] _ (sym records ∙ made.records)
makes_nothing held turn (inr (inr made)) records stores = no_first made.op [] _ (sym stores ∙ made.stores)

-- all that the line makes is made where nothing is due of it
pub is_behind : (line : LineBegun) (due : Turn) (put : List ℕ) (held : PlainHeld) → Stage line due put held → MakesOne line.held line.turn → due.records ≡ [] → due.stores ≡ [] → IsBehind line due held
is_behind line due put held (inr behind) makes records stores = behind
is_behind line due put held (inl before) makes records stores =
    let nothing = makes_nothing line.held line.turn makes (sym before.records ∙ records) (sym before.stores ∙ stores) in
    record { records = records; stores = stores; held_is = before.held_is ∙ none_held line line.turn.state.types line.turn.stores nothing.types nothing.stores }

-- ---- behind a print

more_lines : (put line : List ℕ) → IsLine line → EndsLine (put ++ line)
more_lines put line is = inr (put ++ is.text, ap (λ (l : List ℕ). put ++ l) is.bytes_is ∙ sym (append_assoc put is.text (10 ∷ [])))

pub printed_within : (told kept : Bool) (line : LineBegun) (text : List ℕ) (session : Session) (plain : Plain) (reads : ℕ → List ℕ) (written new_written : List ℕ)
    → IsWithin told kept line (IsDueStep any_record (step.Print text) session) plain reads written → (IsTrue told → new_written ≡ written ++ text)
    → IsWithin told kept line (StandsFor (Some given.Printed) session) plain reads new_written
printed_within told kept line text session plain reads written new_written within put = record {
  types = within.types;
  due = record within.due { text = prints.rest };
  put = within.put ++ text;
  stands = prints.then_;
  makes = within.makes;
  text = within.text ∙ (ap (λ (t : List ℕ). within.put ++ t) prints.text ∙ sym (append_assoc within.put text prints.rest));
  state = within.state;
  whole = more_lines within.put text prints.is_line;
  stage = inr (record { records = behind.records; stores = behind.stores; held_is = behind.held_is });
  keeps = within.keeps;
  wrote = λ t. put t ∙ (ap (λ (w : List ℕ). w ++ text) (within.wrote t) ∙ append_assoc line.written within.put text);
}
  where
    prints : Prints text session (storage_of plain (records_from 16 within.types)) within.due
    prints = within.stands

    behind : IsBehind line within.due (held_in plain within.types)
    behind = is_behind line within.due within.put (held_in plain within.types) within.stage within.makes prints.records prints.stores

-- ---- at the end of the line

pub record IsThrough (told kept : Bool) (line : LineBegun) (session : Session) (plain : Plain) (reads : ℕ → List ℕ) (written : List ℕ) : Type 0 where
  pub waits : AwaitsLine session.waiting
  pub stands : IsAtState session.memory (storage_of plain (records_from 16 line.turn.state.types)) line.turn.state
  pub held : held_in plain line.turn.state.types ≡ held_behind line.held line.turn
  pub keeps : IsTrue kept → Keeps plain line.turn.state.types reads
  pub wrote : IsTrue told → written ≡ line.written ++ line.turn.text

pub through : (told kept : Bool) (line : LineBegun) (session : Session) (plain : Plain) (reads : ℕ → List ℕ) (written : List ℕ)
    → IsWithin told kept line (StandsFor None session) plain reads written → IsThrough told kept line session plain reads written
through told kept line session plain reads written within = record {
  waits = within.stands.0;
  stands = subst (λ (ts : List TypeDesc). IsAtState session.memory (storage_of plain (records_from 16 ts)) line.turn.state) types
      (subst (λ (s : State). IsAtState session.memory (storage_of plain (records_from 16 within.types)) s) within.state done.stands);
  held = subst (λ (ts : List TypeDesc). held_in plain ts ≡ held_behind line.held line.turn) types behind.held_is;
  keeps = λ k. subst (λ (ts : List TypeDesc). Keeps plain ts reads) types (within.keeps k);
  wrote = λ t. within.wrote t ∙ ap (λ (l : List ℕ). line.written ++ l) (sym text);
}
  where
    done : IsDone session.memory (storage_of plain (records_from 16 within.types)) within.due
    done = within.stands.1

    behind : IsBehind line within.due (held_in plain within.types)
    behind = is_behind line within.due within.put (held_in plain within.types) within.stage within.makes done.records done.stores

    types : within.types ≡ line.turn.state.types
    types = ap (λ (h : PlainHeld). h.types) behind.held_is

    text : line.turn.text ≡ within.put
    text = within.text ∙ (ap (λ (t : List ℕ). within.put ++ t) done.text ∙ append-nil within.put)
