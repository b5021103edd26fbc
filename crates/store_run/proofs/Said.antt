-- The lines of an answer: by each row of the table of commands, which of them says that a store was kept.
use Rattle.std.proofs.Common.{◌≡◌, ◌+◌, ◌++◌, [], ◌∷◌, ℕ, Bool, true, false, cond, not, ◌&&◌, if◌then◌else◌, List, length, map, nat_le, count_by, codes, decimal, flat_map, Option, Some, None, unwrap_or, Result, Ok, Err, refl, ap, sym, ◌∙◌, arith, append_assoc}
use Rattle.std.proofs.lemmas.List.Sums.{sum_by-cons}
use Rattle.graph_model.specs.Graph.{Graph, lists}
use Rattle.graph_model.specs.declared.entity.Record.{Record}
use Rattle.graph_model.specs.declared.entity.StoreOp.{StoreOp}
use Rattle.type_desc.specs.declared.desc.TypeDesc.{TypeDesc}
use Rattle.type_desc.specs.Root.{root_desc}
use Rattle.type_dictionary.specs.Latest.{desc_of, latest_of}
use Rattle.entity_form.specs.declared.value.Object.{Object}
use Rattle.entity_form.specs.Reading.{values_at}
use Rattle.entity_form.specs.Values.{kinds_of}
use Rattle.graph_export.specs.Line.{line}
use Rattle.session_model.specs.Commands as cmd
use Rattle.session_model.specs.Commands.{Command, command_of}
use Rattle.session_model.specs.Instances.{Instances, gathered_eagerly, gathered_lazily, has_instance, put_instance}
use Rattle.session_model.specs.Loading.{Converted, Loaded, NoType, WrongKind, closure_of, conversion, load, load_all, then_load, values_in}
use Rattle.session_model.specs.Answer.{State, Turn, answered, collect_turn, command_turn, desc_of_instance, export_turn, first_instances, follow_turn, forget_turn, fresh, id_of, is_known, loaded_turn, named_instance, needs_start, no_desc, reached_records, refused, show_turn, started_turn, store_turn, stored, tidy_turn, turn, turn_of, type_known, type_new, type_turn, with_loaded}
use Rattle.session_model.specs.Types.{is_root_type, repeats_member}
use Rattle.session_lines.specs.Limits.{most_bytes}
use Rattle.graph_export.specs.Line.{HasNoFeed}
use Rattle.store_run.specs.Lines.{AllHaveNoFeed, ended}
use Rattle.store_run.specs.Acknowledged.{says_stored}
use Rattle.graph_export.proofs.Feedless.{decimal_no_feed, feedless, feedless_is, line_no_feed, no_feed-append}

-- the last line says that a store was kept where one is made, and no other line does
pub record IsSaid (made : Turn) : Type 0 where
  pub others : List (List ℕ)
  pub last : List ℕ
  pub text : made.text ≡ ended others ++ (last ++ 10 ∷ [])
  pub others_feed : AllHaveNoFeed others
  pub last_feed : HasNoFeed last
  pub others_say : count_by says_stored others ≡ 0
  pub says : cond (says_stored last) 1 0 ≡ length made.stores

said_line : (made : Turn) (last : List ℕ) → made.text ≡ last ++ 10 ∷ [] → HasNoFeed last → cond (says_stored last) 1 0 ≡ length made.stores → IsSaid made
said_line made last text plain says = record { others = []; last = last; text = text; others_feed = tt; last_feed = plain; others_say = refl; says = says }

said_ok : (made : Turn) → made.text ≡ codes "ok" ++ 10 ∷ [] → made.stores ≡ [] → IsSaid made
said_ok made text none = said_line made (codes "ok") text (feedless_is (codes "ok") refl) (sym (ap length none))

-- a word and a number
said_number : (made : Turn) (word : List ℕ) (n : ℕ) → made.text ≡ (word ++ decimal n) ++ 10 ∷ [] → feedless word ≡ true
    → cond (says_stored (word ++ decimal n)) 1 0 ≡ length made.stores → IsSaid made
said_number made word n text plain says = said_line made (word ++ decimal n) text (no_feed-append word (decimal n) (feedless_is word plain) (decimal_no_feed n)) says

said_refused : (state : State) (code : List ℕ) → HasNoFeed code → IsSaid (refused state code)
said_refused state code plain = said_line (refused state code) (codes "refused " ++ code) refl (no_feed-append (codes "refused ") code (feedless_is (codes "refused ") refl) plain) refl

-- a refusal where one is due, else the rest
said_unless : (due : Bool) (state : State) (code : List ℕ) (effect : Turn) → feedless code ≡ true → IsSaid effect → IsSaid (if due then refused state code else effect)
said_unless true state code effect plain said = said_refused state code (feedless_is code plain)
said_unless false state code effect plain said = said

-- ---- loads

-- the code of what cannot be loaded has no line feed
abbrev HasPlainCode : Result Instances (List ℕ) → Type 0
HasPlainCode (Ok instances) = Unit {0}
HasPlainCode (Err code) = HasNoFeed code

then_load_plain : (id : ℕ) (converted : Converted) (loaded : Result Instances (List ℕ)) → HasPlainCode loaded → HasPlainCode (then_load id converted loaded)
then_load_plain id (Loaded object) (Ok instances) plain = tt
then_load_plain id (Loaded object) (Err code) plain = plain
then_load_plain id NoType loaded plain = feedless_is (codes "no-type") refl
then_load_plain id WrongKind loaded plain = feedless_is (codes "wrong-kind") refl

load_all_plain : (state : State) (records : Graph) (instances : Instances) → HasPlainCode (load_all state.types state.pairs records instances)
load_all_plain state [] instances = tt
load_all_plain state (r ∷ records) instances =
    then_load_plain r.id (conversion state.types state.pairs r.entity) (load_all state.types state.pairs records instances) (load_all_plain state records instances)

load_plain : (state : State) (instances : Instances) (id : ℕ) → HasPlainCode (load state.types state.pairs state.graph instances id)
load_plain state instances id = load_all_plain state (closure_of state.types state.pairs instances state.graph id) instances

either_plain : (b : Bool) (t u : Result Instances (List ℕ)) → HasPlainCode t → HasPlainCode u → HasPlainCode (if b then t else u)
either_plain true t u h k = h
either_plain false t u h k = k

first_plain : (state : State) → HasPlainCode (first_instances state)
first_plain state = either_plain (lists state.graph 1) (load state.types state.pairs state.graph [] 1) (Ok (put_instance 1 (fresh 1 root_desc) [])) (load_plain state [] 1) tt

with_loaded_plain : (state : State) (id : ℕ) → HasPlainCode (with_loaded state id)
with_loaded_plain state id =
    either_plain (has_instance state.instances id) (Ok state.instances) (load state.types state.pairs state.graph state.instances id) tt (load_plain state state.instances id)

said_loaded : (state : State) (new : List ℕ) (id : ℕ) (loaded : Result Instances (List ℕ)) → HasPlainCode loaded → IsSaid (loaded_turn state new id loaded)
said_loaded state new id (Ok instances) plain = said_ok _ refl refl
said_loaded state new id (Err code) plain = said_refused state code plain

-- ---- lines of JSON

-- a line of JSON begins with a brace
line_says : (id : ℕ) (o : Object) (desc : TypeDesc) → says_stored (line id o desc) ≡ false
unfolding line
line_says id o desc = refl

abbrev pub as_count : Bool → ℕ
as_count says = cond says 1 0

-- a line that is no word of a store
abbrev IsQuiet : List ℕ → Type 0
IsQuiet text = HasNoFeed text × (says_stored text ≡ false)

quiet_lines : (text_of : Record → List ℕ) → ((r : Record) → IsQuiet (text_of r)) → (records : Graph)
    → AllHaveNoFeed (map text_of records) × (count_by says_stored (map text_of records) ≡ 0)
quiet_lines text_of each [] = (tt, refl)
quiet_lines text_of each (r ∷ records) =
    let more = quiet_lines text_of each records in
    let here : cond (says_stored (text_of r)) 1 0 ≡ 0 = ap as_count (each r).1 in
    (((each r).0, more.0), sum_by-cons (λ (l : List ℕ). cond (says_stored l) 1 0) (text_of r) (map text_of records) ∙ omega (arith, here, more.1))

lines_ended : (text_of : Record → List ℕ) (records : Graph) → flat_map (λ (r : Record). text_of r ++ 10 ∷ []) records ≡ ended (map text_of records)
lines_ended text_of [] = refl
lines_ended text_of (r ∷ records) =
    ap (λ (l : List ℕ). (text_of r ++ 10 ∷ []) ++ l) (lines_ended text_of records) ∙ append_assoc (text_of r) (10 ∷ []) (ended (map text_of records))

-- lines of records, and one more that tells how many they were
said_records : (made : Turn) (text_of : Record → List ℕ) (records : Graph) → ((r : Record) → IsQuiet (text_of r))
    → made.text ≡ flat_map (λ (r : Record). text_of r ++ 10 ∷ []) records ++ ((codes "end " ++ decimal (length records)) ++ 10 ∷ []) → made.stores ≡ [] → IsSaid made
said_records made text_of records each text none =
    let last = codes "end " ++ decimal (length records) in
    let quiet = quiet_lines text_of each records in
    record {
      others = map text_of records;
      last = last;
      text = text ∙ ap (λ (l : List ℕ). l ++ (last ++ 10 ∷ [])) (lines_ended text_of records);
      others_feed = quiet.0;
      last_feed = no_feed-append (codes "end ") (decimal (length records)) (feedless_is (codes "end ") refl) (decimal_no_feed (length records));
      others_say = quiet.1;
      says = sym (ap length none);
    }

said_export : (state : State) → IsSaid (export_turn state)
said_export state = said_records (export_turn state) text_of (reached_records state.graph (1 ∷ []))
    (λ r. (line_no_feed r.id (object_of r) (type_of r), line_says r.id (object_of r) (type_of r))) refl refl
  where
    type_of : Record → TypeDesc
    type_of r = unwrap_or (desc_of state.types r.entity.type_id) no_desc

    object_of : Record → Object
    object_of r = record { type_id = r.entity.type_id; values = values_in (values_at (kinds_of (type_of r)) 0 r.entity.refs r.entity.plain) }

    text_of : Record → List ℕ
    text_of r = line r.id (object_of r) (type_of r)

-- ---- each row of the table

said_if : (b : Bool) (t u : Turn) → IsSaid t → IsSaid u → IsSaid (if b then t else u)
said_if true t u h k = h
said_if false t u h k = k

said_type : (state : State) (desc : TypeDesc) → IsSaid (type_turn state desc)
said_type state desc =
    said_unless (is_root_type desc.name) state (codes "reserved") _ refl
    (said_unless (repeats_member desc.members) state (codes "duplicate") _ refl
    (said_unless (nat_le 65536 (length state.types) && not (is_known state desc)) state (codes "full") _ refl declared))
  where
    declared : IsSaid (if is_known state desc then type_known state desc else type_new state desc)
    declared = said_if (is_known state desc) (type_known state desc) (type_new state desc)
        (said_number (type_known state desc) (codes "type ") (unwrap_or (latest_of state.types desc.name) 0) refl refl refl)
        (said_number (type_new state desc) (codes "type ") (16 + length state.types) refl refl refl)

said_new : (made : State) (id : ℕ) → IsSaid (answered made (codes "new " ++ decimal id))
said_new made id = said_number (answered made (codes "new " ++ decimal id)) (codes "new ") id refl refl refl

said_stored : (state : State) (ids : List ℕ) (op : StoreOp) → IsSaid (stored state ids op)
said_stored state ids op =
    let number = decimal (state.number + 1) in
    let count = decimal (length op.records) in
    let counts : HasNoFeed (number ++ (32 ∷ count)) = no_feed-append number (32 ∷ count) (decimal_no_feed (state.number + 1)) (refl, decimal_no_feed (length op.records)) in
    said_line (stored state ids op) (codes "stored " ++ (number ++ (32 ∷ count))) refl
    (no_feed-append (codes "stored ") (number ++ (32 ∷ count)) (feedless_is (codes "stored ") refl) counts) refl

said_store : (most : ℕ) (state : State) (name : List ℕ) (gather : Instances → ℕ → List ℕ) → IsSaid (store_turn most state name gather)
said_store most state name gather = search (said_unless, said_stored) depth 8

said_show : (state : State) (name : List ℕ) → IsSaid (show_turn state name)
said_show state name = search (said_unless, shown) depth 8
  where
    object : Object
    object = (named_instance state name).object

    type_of : TypeDesc
    type_of = desc_of_instance state (named_instance state name)

    shown : IsSaid (answered state (line (id_of state name) object type_of))
    shown = said_line (answered state (line (id_of state name) object type_of)) (line (id_of state name) object type_of) refl
        (line_no_feed (id_of state name) object type_of) (ap as_count (line_says (id_of state name) object type_of))

said_follow : (state : State) (name member new : List ℕ) → IsSaid (follow_turn state name member new)
said_follow state name member new = search (said_unless, followed) depth 12
  where
    followed : (id : ℕ) → IsSaid (loaded_turn state new id (with_loaded state id))
    followed id = said_loaded state new id (with_loaded state id) (with_loaded_plain state id)

said_command : (most : ℕ) (state : State) (command : Command) → IsSaid (command_turn most state command)
said_command most state (cmd.DeclareType desc) = said_type state desc
said_command most state (cmd.Refactor old new) = search (said_unless, said_ok) depth 12
said_command most state (cmd.New name type_name) = search (said_unless, said_new) depth 12
said_command most state (cmd.SetMember name member rest) = search (said_unless, said_ok) depth 12
said_command most state (cmd.AddTo name member target) = search (said_unless, said_ok) depth 12
said_command most state (cmd.CutFrom name member index) = search (said_unless, said_ok) depth 12
said_command most state (cmd.SetRoot name) = search (said_unless, said_ok) depth 12
said_command most state (cmd.Store name) = said_store most state name gathered_lazily
said_command most state (cmd.StoreAll name) = said_store most state name gathered_eagerly
said_command most state (cmd.Show name) = said_show state name
said_command most state (cmd.Home name) = search (said_unless, said_ok) depth 12
said_command most state (cmd.Follow name member new) = said_follow state name member new
said_command most state (cmd.Pick name member index new) = search (said_unless, said_ok) depth 12
said_command most state (cmd.DropName name) = search (said_unless, said_ok) depth 12
said_command most state cmd.Forget = said_number (forget_turn state) (codes "forgot ") _ refl refl refl
said_command most state cmd.Collect = said_number (collect_turn state) (codes "kept ") _ refl refl refl
said_command most state cmd.Tidy = said_line (tidy_turn state) (codes "tidied") refl (feedless_is (codes "tidied") refl) refl
said_command most state cmd.Export = said_export state

said_started : (most : ℕ) (state : State) (command : Command) (first : Result Instances (List ℕ)) → HasPlainCode first → IsSaid (started_turn most state command first)
said_started most state command (Ok instances) plain = said_command most (record state { instances = instances; started = true }) command
said_started most state command (Err code) plain = said_refused state code plain

said_spelled : (most : ℕ) (state : State) (command : Option Command) → IsSaid (turn_of most state command)
said_spelled most state None = said_refused state (codes "bad-line") (feedless_is (codes "bad-line") refl)
said_spelled most state (Some command) =
    said_if (needs_start command && not state.started) (started_turn most state command (first_instances state)) (command_turn most state command)
    (said_started most state command (first_instances state) (first_plain state)) (said_command most state command)

pub said : (state : State) (text : List ℕ) → IsSaid (turn most_bytes state text)
unfolding turn
said state text = said_spelled most_bytes state (command_of text)
