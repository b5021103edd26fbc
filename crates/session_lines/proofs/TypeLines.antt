-- The line `type`: which refusal is due, and what is due of a type that is known and of one that is new.
use Rattle.std.proofs.Common.{◌≡◌, ◌≤◌, ◌+◌, ℕ, Bool, true, false, cond, not, ◌&&◌, List, [], ◌∷◌, ◌++◌, Option, Ok, Err, ap, ◌∙◌, refl, sym, subst, length, arith}
use Rattle.std.specs.Prelude.{codes, nat_le, unwrap_or}
use Rattle.std.specs.Fmt.{decimal}
use Rattle.std.proofs.lemmas.Bool.{le-leb, leb-true}
use Rattle.graph_model.specs.declared.ask.Ask.TheVariants as asks
use Rattle.graph_model.specs.declared.ask.Reply.{Reply}
use Rattle.graph_model.specs.Served.{KeepsType, Served, Storage}
use Rattle.type_desc.specs.Grammar.{IsDesc, record_text}
use Rattle.type_desc.specs.declared.desc.TypeDesc.{TypeDesc}
use Rattle.type_dictionary.specs.declared.declaration.Declared.{Declared}
use Rattle.type_dictionary.specs.declared.declaration.Declared.TheVariants.{Known, New}
use Rattle.type_dictionary.specs.declared.fault.DeclareFault.{DeclareFault}
use Rattle.type_dictionary.specs.declared.fault.DeclareFault.TheVariants.{TooManyTypes}
use Rattle.type_dictionary.specs.Declaring.{IsDeclaredAs, IsRecordable}
use Rattle.type_dictionary.specs.Faults.{RefusesType}
use Rattle.type_dictionary.specs.Records.{records_from}
use Rattle.session_model.specs.Types.{is_root_type, repeats_member}
use Rattle.session_model.specs.Answer.{Refusal, State, Turn, answered, duplicate, is_full, is_known, reserved, type_known, type_new, type_turn}
use Rattle.session_model.specs.Sound.{IsSound}
use Rattle.session_model.proofs.Declaring.{type_line_sound}
use Rattle.session_lines.specs.declared.memory.Memory.{Memory}
use Rattle.session_lines.specs.declared.outcome.Phase.TheVariants as phases
use Rattle.session_lines.specs.declared.refusal.Stop.{Stop}
use Rattle.session_lines.specs.declared.refusal.Stop.TheVariants.{Refused, NoMemory}
use Rattle.session_lines.specs.declared.refusal.Refusal.TheVariants as refusals
use Rattle.session_lines.specs.Declarations.{HasNoRoom, IsJudgedType, IsNewType, IsOldType, MayBeDeclared, RepeatsMember}
use Rattle.session_lines.specs.Due.{Answers, Awaits, Replied, without}
use Rattle.session_lines.specs.Refusals.{IsRefusal}
use Rattle.session_lines.specs.Stands.{Admits, IsAtState}
use Rattle.session_lines.proofs.Judged.{judged_first, judged_next, judged_none}
use Rattle.session_lines.proofs.Lines.{numbered_no_feed}
use Rattle.session_lines.proofs.Told.{answers_turn}
use Rattle.session_lines.proofs.TypeWords.{is_other, known_id, known_is_latest, new_is_not_latest, own_names, records_behind}

-- ---- the refusals

abbrev effect : State → TypeDesc → Turn
effect state desc = cond (is_known state desc) (type_known state desc) (type_new state desc)

abbrev lacks_room : State → TypeDesc → Bool
lacks_room state desc = nat_le 65536 (length state.types) && not (is_known state desc)

abbrev behind_reserved : State → TypeDesc → List Refusal
behind_reserved state desc = duplicate (repeats_member desc.members) ∷ is_full (lacks_room state desc) ∷ []

both : (a b : Bool) → a ≡ true → b ≡ false → (a && not b) ≡ true
both true false e f = refl
both true true e f = absurd cc
both false b e f = absurd cc

not_first : (a b : Bool) → a ≡ false → (a && not b) ≡ false
not_first false b e = refl
not_first true b e = absurd cc

not_second : (a b : Bool) → b ≡ true → (a && not b) ≡ false
not_second false b e = refl
not_second true true e = refl
not_second true false e = absurd cc

refused_full : (state : State) (desc : TypeDesc) → IsSound state → IsDesc desc → HasNoRoom state.types desc → IsRefusal state (type_turn state desc) (Refused refusals.Full)
refused_full state desc s spelled h =
    judged_next state (reserved (is_root_type desc.name)) (behind_reserved state desc) (effect state desc) h.may.other
    ∙ (judged_next state (duplicate (repeats_member desc.members)) (is_full (lacks_room state desc) ∷ []) (effect state desc) h.may.once
    ∙ judged_first state (is_full (lacks_room state desc)) [] (effect state desc)
    (both (nat_le 65536 (length state.types)) (is_known state desc) (le-leb 65536 (length state.types) h.full) (new_is_not_latest state.types desc s.types spelled h.fresh)))

refused_duplicate : (state : State) (desc : TypeDesc) → RepeatsMember desc → IsRefusal state (type_turn state desc) (Refused refusals.Duplicate)
refused_duplicate state desc h =
    judged_next state (reserved (is_root_type desc.name)) (behind_reserved state desc) (effect state desc) h.other
    ∙ judged_first state (duplicate (repeats_member desc.members)) (is_full (lacks_room state desc) ∷ []) (effect state desc) h.twice

by_state : (state : State) (desc : TypeDesc) (stop : Stop) → IsSound state → IsDesc desc → IsJudgedType state.types desc (Err stop) → IsRefusal state (type_turn state desc) stop
by_state state desc (Refused refusals.Reserved) s spelled is = judged_first state (reserved (is_root_type desc.name)) (behind_reserved state desc) (effect state desc) is
by_state state desc (Refused refusals.Duplicate) s spelled is = refused_duplicate state desc is
by_state state desc (Refused refusals.Full) s spelled is = refused_full state desc s spelled is
by_state state desc NoMemory s spelled is = tt
by_state state desc (Refused refusals.NameTaken) s spelled is = absurd is
by_state state desc (Refused refusals.NoType) s spelled is = absurd is
by_state state desc (Refused refusals.NoName) s spelled is = absurd is
by_state state desc (Refused refusals.NoMember) s spelled is = absurd is
by_state state desc (Refused refusals.WrongKind) s spelled is = absurd is
by_state state desc (Refused refusals.Range) s spelled is = absurd is
by_state state desc (Refused refusals.NoRoot) s spelled is = absurd is
by_state state desc (Refused refusals.NoTarget) s spelled is = absurd is
by_state state desc (Refused refusals.TooBig) s spelled is = absurd is
by_state state desc (Refused refusals.BadLine) s spelled is = absurd is

pub type_refusal : (memory : Memory) (storage : Storage) (state : State) (desc : TypeDesc) (stop : Stop) → IsAtState memory storage state → IsDesc desc → IsJudgedType memory.types desc (Err stop)
    → IsRefusal state (type_turn state desc) stop
type_refusal memory storage state desc stop at spelled is =
    by_state state desc stop at.stands.sound spelled (subst (λ (types : List TypeDesc). IsJudgedType types desc (Err stop)) at.stands.types is)

-- no refusal is due
goes_on : (state : State) (desc : TypeDesc) → MayBeDeclared desc → lacks_room state desc ≡ false → type_turn state desc ≡ effect state desc
goes_on state desc may room = judged_none state (reserved (is_root_type desc.name) ∷ behind_reserved state desc) (effect state desc) (may.other, (may.once, (room, tt)))

-- ---- a known type

known_turn : (state : State) (desc : TypeDesc) (id : ℕ) → IsOldType state.types desc id → type_turn state desc ≡ answered state (codes "type " ++ decimal id)
known_turn state desc id old =
    let known : is_known state desc ≡ true = known_is_latest state.types desc id old.known in
    goes_on state desc old.may (not_second (nat_le 65536 (length state.types)) (is_known state desc) known)
    ∙ (ap (λ (b : Bool). cond b (type_known state desc) (type_new state desc)) known
    ∙ ap (λ (o : Option ℕ). answered state (codes "type " ++ decimal (unwrap_or o 0))) (known_id state.types desc id old.known))

pub type_answers : (memory : Memory) (storage : Storage) (state : State) (desc : TypeDesc) (id : ℕ) (text : List ℕ) → IsAtState memory storage state → IsOldType memory.types desc id
    → text ≡ (codes "type " ++ decimal id) ++ 10 ∷ [] → Answers text memory storage (type_turn state desc)
type_answers memory storage state desc id text at old told = answers_turn (codes "type " ++ decimal id) text memory storage state (type_turn state desc) (numbered_no_feed (codes "type ") id refl) told
    (known_turn state desc id (subst (λ (types : List TypeDesc). IsOldType types desc id) at.stands.types old)) at

-- ---- a new type

new_turn_is : (state : State) (desc : TypeDesc) (id : ℕ) (text : List ℕ) → IsSound state → IsNewType state.types desc id text → type_turn state desc ≡ type_new state desc
new_turn_is state desc id text s new =
    goes_on state desc new.may (not_first (nat_le 65536 (length state.types)) (is_known state desc) (few (nat_le 65536 (length state.types)) refl))
    ∙ ap (λ (b : Bool). cond b (type_known state desc) (type_new state desc)) (new_is_not_latest state.types desc s.types new.next.recorded.sound.grammar new.given.fresh)
  where
    few : (b : Bool) → nat_le 65536 (length state.types) ≡ b → b ≡ false
    few false e = refl
    few true e = absurd (let high : 65536 ≤ length state.types = leb-true 65536 (length state.types) e in let low = new.given.room in omega arith)

stands_more : (memory : Memory) (types : List TypeDesc) (storage new : Storage) (state : State) (desc : TypeDesc) (text : List ℕ) (reply : Reply) → IsAtState memory storage state
    → IsSound (type_new state desc).state → types ≡ state.types ++ desc ∷ [] → text ≡ record_text (16 + length state.types, desc) → KeepsType storage text reply new
    → IsAtState (record memory { types = types }) new (type_new state desc).state
stands_more memory types storage new state desc text reply at sound gained spelled served = record {
  stands = record {
    types = gained;
    pairs = at.stands.pairs;
    names = at.stands.names;
    instances = at.stands.instances;
    next_id = at.stands.next_id;
    started = at.stands.started;
    rooted = at.stands.rooted;
    sound = sound;
    graph = served.graph ∙ at.stands.graph;
    number = served.number ∙ at.stands.number;
    stored_next = subst (λ (n : ℕ). n ≤ state.next_id) (sym served.next_id) at.stands.stored_next;
    records = served.types ∙ (ap (λ (rs : List (List ℕ)). rs ++ text ∷ []) at.stands.records
        ∙ (ap (λ (bytes : List ℕ). records_from 16 state.types ++ bytes ∷ []) spelled ∙ sym (records_behind 16 state.types desc)));
  };
  held = λ x. served.held x ∙ at.held x;
}

pub type_awaits : (is_next_type : List (List ℕ) → List ℕ → Bool) (memory : Memory) (types : List TypeDesc) (storage : Storage) (state : State) (desc : TypeDesc) (id : ℕ) (text answer : List ℕ)
    → Admits is_next_type → IsAtState memory storage state → IsNewType memory.types desc id text → types ≡ memory.types ++ desc ∷ [] → answer ≡ (codes "type " ++ decimal id) ++ 10 ∷ []
    → Awaits is_next_type (asks.KeepType text) (phases.Saying answer) (record memory { types = types }) storage (type_turn state desc)
type_awaits is_next_type memory types storage state desc id text answer admits at new gained told =
    subst (λ (t : Turn). Awaits is_next_type (asks.KeepType text) (phases.Saying answer) (record memory { types = types }) storage t) (sym turn_is)
    (record { may = may; due = ap (λ (bytes : List ℕ). bytes ∷ []) (sym n.given.spelled); suits = tt; then_ = replied })
  where
    n : IsNewType state.types desc id text
    n = subst (λ (ts : List TypeDesc). IsNewType ts desc id text) at.stands.types new

    turn_is : type_turn state desc ≡ type_new state desc
    turn_is = new_turn_is state desc id text at.stands.sound n

    may : is_next_type storage.types text ≡ true
    may = ap (λ (records : List (List ℕ)). is_next_type records text) at.stands.records ∙ (ap (is_next_type (records_from 16 state.types)) n.given.spelled
        ∙ admits state.types desc n.given.room (record { spelled = n.next.recorded.sound.grammar; no_repeat = n.may.once; not_root = n.may.other }))

    sound : IsSound (type_new state desc).state
    sound = subst (λ (t : Turn). IsSound t.state) turn_is (type_line_sound state desc at.stands.sound n.next.recorded.sound.grammar)

    replied : (reply : Reply) (later : Storage) → Served storage (asks.KeepType text) reply later
        → Replied (phases.Saying answer) reply (record memory { types = types }) later (without (asks.KeepType text) (type_new state desc))
    replied reply later served = answers_turn (codes "type " ++ decimal (16 + length state.types)) answer (record memory { types = types }) later (type_new state desc).state
        (without (asks.KeepType text) (type_new state desc)) (numbered_no_feed (codes "type ") (16 + length state.types) refl) (told ∙ ap (λ (i : ℕ). (codes "type " ++ decimal i) ++ 10 ∷ []) n.given.next) refl
        (stands_more memory types storage later state desc text reply at sound (gained ∙ ap (λ (ts : List TypeDesc). ts ++ desc ∷ []) at.stands.types) n.given.spelled served)

-- ---- what the dictionary tells

pub judged_given : (types : List TypeDesc) (desc : TypeDesc) (declared : Declared) → MayBeDeclared desc → IsDeclaredAs types desc declared → IsRecordable types desc declared
    → IsJudgedType types desc (Ok declared)
judged_given types desc (Known id) may given recordable = record { may = may; known = given }
judged_given types desc (New id text) may given recordable =
    record { may = may; given = given; next = recordable (is_other desc.name may.other) (own_names desc.members may.once) }

pub no_room : (types : List TypeDesc) (desc : TypeDesc) (fault : DeclareFault) → MayBeDeclared desc → fault ≡ TooManyTypes → RefusesType types desc fault → HasNoRoom types desc
no_room types desc fault may is refuses =
    let both = subst (λ (f : DeclareFault). RefusesType types desc f) is refuses in record { may = may; fresh = both.0; full = both.1 }
