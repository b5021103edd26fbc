-- The one-map model: what each line of a script is answered, and what it stores.
use Rattle.std.specs.Prelude.{ℕ, ℤ, ◌+◌, ◌-◌, ◌*◌, ◌^◌, ◌==◌, nat_le, nat_lt, ◌&&◌, ◌||◌, not, Bool, true, false, if◌then◌else◌, Option, Some, None, Result, Ok, Err, is_some, is_none, option_and_then, option_map, unwrap_or, List, [], ◌∷◌, ◌++◌, codes, length, map, slice_get, set, sum_by, pos, negsuc}
use Rattle.std.specs.List.{filter, list_any, flat_map}
use Rattle.std.specs.Fmt.{decimal}
use Rattle.std.specs.Str.{bytes_eq}
use Rattle.graph_model.specs.Limits.{entity_limit, id_limit}
use Rattle.graph_model.specs.Ids.{has}
use Rattle.graph_model.specs.Graph.{Graph, lists, entity_size, after}
use Rattle.graph_model.specs.declared.entity.Record.{Record}
use Rattle.graph_model.specs.declared.entity.StoreOp.{StoreOp}
use Rattle.type_desc.specs.Grammar.{record_text}
use Rattle.type_desc.specs.Root.{root_desc}
use Rattle.type_desc.specs.declared.desc.Kind.{Kind}
use Rattle.type_desc.specs.declared.desc.TypeDesc.{TypeDesc}
use Rattle.type_dictionary.specs.Latest.{desc_of, latest_of}
use Rattle.entity_form.specs.Reading.{values_at}
use Rattle.entity_form.specs.Values.{kinds_of, default_of, entity_of}
use Rattle.entity_form.specs.declared.value.Value.{Value}
use Rattle.entity_form.specs.declared.value.Value.TheVariants.{Int, Text, Bytes, Ref, Lazy, Refs}
use Rattle.refactor_table.specs.declared.name.Pair.{Pair}
use Rattle.refactor_table.specs.declared.name.RefName.{RefName}
use Rattle.refactor_table.specs.declared.name.RefName.TheVariants.{OfMember}
use Rattle.graph_export.specs.Line.{line}
use Rattle.refactor_table.specs.Names.{same_name}
use Rattle.session_model.specs.Commands as cmd
use Rattle.session_model.specs.Commands.{Command, Target, command_of, integer_of}
use Rattle.session_model.specs.Types.{is_root_type, latest_desc, is_same_desc, member_index, kind_of_member, is_same_kind, repeats_member, type_in}
use Rattle.session_model.specs.Instances.{Instance, Instances, Held, instance_at, has_instance, put_instance, held_ids, reached, gathered_lazily, gathered_eagerly, kept_instances}
use Rattle.session_model.specs.Loading.{load, values_in}

pub record Binding : Type 0 where
  pub name : List ℕ
  pub id : ℕ

-- what stands between two lines
pub record State : Type 0 where
  pub types : List TypeDesc
  pub pairs : List Pair
  pub graph : Graph
  pub number : ℕ
  pub next_id : ℕ
  pub names : List Binding
  pub instances : Instances
  pub started : Bool

-- what a line has the storage do for itself: remove what is not kept, or dissolve files that are used too little
pub data Housekeeping : Type 0 where
  Collecting : Housekeeping
  Tidying : Housekeeping

-- what a line comes to: the state behind it, the lines answered, the dictionary records made, the stores made and the housekeeping done
pub record Turn : Type 0 where
  pub state : State
  pub text : List ℕ
  pub records : List (List ℕ)
  pub stores : List StoreOp
  pub housekeeping : List Housekeeping

-- ---- answers

abbrev pub answered : State → List ℕ → Turn
answered state text = record { state = state; text = text ++ 10 ∷ []; records = []; stores = []; housekeeping = [] }

abbrev pub ok : State → Turn
ok state = answered state (codes "ok")

abbrev pub refused : State → List ℕ → Turn
refused state code = answered state (codes "refused " ++ code)

-- a refusal code, and whether it is due
pub record Refusal : Type 0 where
  pub due : Bool
  pub code : List ℕ

-- the first refusal that is due, else the effect
abbrev pub judged : State → List Refusal → Turn → Turn
judged state [] effect = effect
judged state (r ∷ refusals) effect = if r.due then refused state r.code else judged state refusals effect

abbrev pub no_name : Bool → Refusal
no_name due = record { due = due; code = codes "no-name" }

abbrev pub no_member : Bool → Refusal
no_member due = record { due = due; code = codes "no-member" }

abbrev pub wrong_kind : Bool → Refusal
wrong_kind due = record { due = due; code = codes "wrong-kind" }

abbrev pub out_of_range : Bool → Refusal
out_of_range due = record { due = due; code = codes "range" }

abbrev pub reserved : Bool → Refusal
reserved due = record { due = due; code = codes "reserved" }

abbrev pub name_taken : Bool → Refusal
name_taken due = record { due = due; code = codes "name-taken" }

abbrev pub no_type : Bool → Refusal
no_type due = record { due = due; code = codes "no-type" }

abbrev pub is_full : Bool → Refusal
is_full due = record { due = due; code = codes "full" }

abbrev pub duplicate : Bool → Refusal
duplicate due = record { due = due; code = codes "duplicate" }

abbrev pub no_target : Bool → Refusal
no_target due = record { due = due; code = codes "no-target" }

abbrev pub no_root : Bool → Refusal
no_root due = record { due = due; code = codes "no-root" }

abbrev pub too_big : Bool → Refusal
too_big due = record { due = due; code = codes "too-big" }

-- ---- names

abbrev pub id_in : List Binding → List ℕ → Option ℕ
id_in [] name = None
id_in (b ∷ bs) name = if bytes_eq b.name name then Some b.id else id_in bs name

abbrev pub is_root_name : List ℕ → Bool
is_root_name name = bytes_eq name (codes "root")

abbrev pub is_bound : State → List ℕ → Bool
is_bound state name = is_some (id_in state.names name)

abbrev pub bound : State → List ℕ → ℕ → State
bound state name id = record state { names = record { name = name; id = id } ∷ state.names }

-- the id of a name, 0 where it is not bound
abbrev pub id_of : State → List ℕ → ℕ
id_of state name = unwrap_or (id_in state.names name) 0

-- ---- members

abbrev pub nothing : Instance
nothing = record { object = record { type_id = 0; values = [] }; saved = false; changed = false }

abbrev pub no_desc : TypeDesc
no_desc = record { name = []; members = [] }

-- the instance of a name
abbrev pub named_instance : State → List ℕ → Instance
named_instance state name = unwrap_or (instance_at state.instances (id_of state name)) nothing

abbrev pub desc_of_instance : State → Instance → TypeDesc
desc_of_instance state i = unwrap_or (desc_of state.types i.object.type_id) no_desc

abbrev pub member_at : State → Instance → List ℕ → Option ℕ
member_at state i member = member_index (desc_of_instance state i) member

abbrev pub value_in : Instance → Option ℕ → Option Value
value_in i None = None
value_in i (Some at) = slice_get i.object.values at

-- the value of a named instance's member
abbrev pub value_of : State → (name member : List ℕ) → Option Value
value_of state name member = let i = named_instance state name in value_in i (member_at state i member)

abbrev pub lacks_member : State → (name member : List ℕ) → Bool
lacks_member state name member = is_none (value_of state name member)

-- the instance of an id with another value of a member, which makes it changed
abbrev pub with_value : State → ℕ → Instance → ℕ → Value → State
with_value state id i at value =
    record state { instances = put_instance id (record i { object = record i.object { values = set i.object.values at value }; changed = true }) state.instances }

abbrev pub set_value : State → (name member : List ℕ) → Value → State
set_value state name member value =
    let i = named_instance state name in with_value state (id_of state name) i (unwrap_or (member_at state i member) 0) value

-- ---- values in a line

abbrev pub hex_digit : ℕ → Option ℕ
hex_digit b = if nat_le 48 b && nat_le b 57 then Some (b - 48) else (if nat_le 97 b && nat_le b 102 then Some (b - 87) else None)

abbrev pub hex_byte : Option ℕ → Option ℕ → Option ℕ
hex_byte (Some high) (Some low) = Some (16 * high + low)
hex_byte _ _ = None

-- pairs of small hexadecimal digits
abbrev pub hex_bytes : List ℕ → Option (List ℕ)
hex_bytes [] = Some []
hex_bytes (a ∷ []) = None
hex_bytes (a ∷ (b ∷ rest)) = option_and_then (λ byte. option_map (λ bytes. byte ∷ bytes) (hex_bytes rest)) (hex_byte (hex_digit a) (hex_digit b))

abbrev pub is_in_range : ℤ → Bool
is_in_range (pos n) = nat_lt n (2 ^ 63)
is_in_range (negsuc n) = nat_lt n (2 ^ 63)

-- the id that a name or `null` stands for, if it stands for one
abbrev pub target_id : State → Option Target → Option ℕ
target_id state None = None
target_id state (Some cmd.Null) = Some 0
target_id state (Some (cmd.Named name)) = id_in state.names name

-- what the rest of a `set` line is for a member with this value
pub data Given : Type 0 where
  Fits : Value → Given
  Misfits : Given
  OutOfRange : Given
  Unbound : Given

abbrev pub given_int : Option ℤ → Given
given_int None = Misfits
given_int (Some z) = if is_in_range z then Fits (Int z) else OutOfRange

abbrev pub given_bytes : Option (List ℕ) → Given
given_bytes None = Misfits
given_bytes (Some bytes) = Fits (Bytes bytes)

abbrev pub found_id : (ℕ → Value) → Option ℕ → Given
found_id make None = Unbound
found_id make (Some id) = Fits (make id)

abbrev pub given_id : (ℕ → Value) → State → Option Target → Given
given_id make state None = Misfits
given_id make state (Some target) = found_id make (target_id state (Some target))

abbrev pub given : State → List ℕ → Option Value → Given
given state rest None = Misfits
given state rest (Some (Int n)) = given_int (integer_of rest)
given state rest (Some (Text t)) = Fits (Text rest)
given state rest (Some (Bytes b)) = given_bytes (hex_bytes rest)
given state rest (Some (Ref id)) = given_id Ref state (cmd.target_of rest)
given state rest (Some (Lazy id)) = given_id Lazy state (cmd.target_of rest)
given state rest (Some (Refs ids)) = Misfits

abbrev pub misfits : Given → Bool
misfits (Fits value) = false
misfits Misfits = true
misfits OutOfRange = false
misfits Unbound = false

abbrev pub is_out_of_range : Given → Bool
is_out_of_range (Fits value) = false
is_out_of_range Misfits = false
is_out_of_range OutOfRange = true
is_out_of_range Unbound = false

abbrev pub is_unbound : Given → Bool
is_unbound (Fits value) = false
is_unbound Misfits = false
is_unbound OutOfRange = false
is_unbound Unbound = true

abbrev pub given_value : Given → Value
given_value (Fits value) = value
given_value _ = Ref 0

-- ---- what a value names

abbrev pub refs_in : Option Value → Option (List ℕ)
refs_in (Some (Refs ids)) = Some ids
refs_in _ = None

abbrev pub ref_in : Option Value → Option ℕ
ref_in (Some (Ref id)) = Some id
ref_in (Some (Lazy id)) = Some id
ref_in _ = None

-- the list without the element at this index
abbrev pub without_at : List ℕ → ℕ → List ℕ
without_at [] index = []
without_at (x ∷ xs) index = if index == 0 then xs else x ∷ without_at xs (index - 1)

-- ---- the table of lines

-- `type`
abbrev pub is_latest : Option TypeDesc → TypeDesc → Bool
is_latest None desc = false
is_latest (Some latest) desc = is_same_desc latest desc

-- the latest type of its name is this one
abbrev pub is_known : State → TypeDesc → Bool
is_known state desc = is_latest (latest_desc state.types desc.name) desc

abbrev pub type_known : State → TypeDesc → Turn
type_known state desc = answered state (codes "type " ++ decimal (unwrap_or (latest_of state.types desc.name) 0))

abbrev pub type_new : State → TypeDesc → Turn
type_new state desc =
    let id = 16 + length state.types in
    record (answered (record state { types = state.types ++ desc ∷ [] }) (codes "type " ++ decimal id)) { records = record_text (id, desc) ∷ [] }

abbrev pub type_turn : State → TypeDesc → Turn
type_turn state desc = judged state
    (reserved (is_root_type desc.name)
    ∷ duplicate (repeats_member desc.members)
    ∷ is_full (nat_le 65536 (length state.types) && not (is_known state desc))
    ∷ [])
    (if is_known state desc then type_known state desc else type_new state desc)

-- `refactor`: some record of the old type has the old member with another kind than the new member has in the latest record of the new type
abbrev pub has_other_kind : Option Kind → Option Kind → Bool
has_other_kind (Some a) (Some b) = not (is_same_kind a b)
has_other_kind _ _ = false

abbrev pub kind_in : Option TypeDesc → List ℕ → Option Kind
kind_in None member = None
kind_in (Some desc) member = kind_of_member desc member

abbrev pub differs : State → RefName → RefName → Bool
differs state (OfMember old old_member) (OfMember new new_member) =
    let kind = kind_in (latest_desc state.types new) new_member in
    list_any (λ (desc : TypeDesc). bytes_eq desc.name old && has_other_kind (kind_of_member desc old_member) kind) state.types
differs state _ _ = false

abbrev pub refactor_turn : State → RefName → RefName → Turn
refactor_turn state old new = judged state
    (reserved (is_root_type (type_in old) || is_root_type (type_in new))
    ∷ duplicate (list_any (λ (p : Pair). same_name p.old old || same_name p.new new) state.pairs)
    ∷ wrong_kind (differs state old new)
    ∷ [])
    (ok (record state { pairs = state.pairs ++ record { old = old; new = new } ∷ [] }))

-- an unsaved instance with the default of each member
abbrev pub fresh : ℕ → TypeDesc → Instance
fresh type_id desc = record { object = record { type_id = type_id; values = map default_of (kinds_of desc) }; saved = false; changed = false }

abbrev pub new_turn : State → (name type_name : List ℕ) → Turn
new_turn state name type_name =
    let id = state.next_id in
    let instance = fresh (unwrap_or (latest_of state.types type_name) 0) (unwrap_or (latest_desc state.types type_name) no_desc) in
    judged state
    (reserved (is_root_name name || is_root_type type_name)
    ∷ name_taken (is_bound state name)
    ∷ no_type (is_none (latest_of state.types type_name))
    ∷ is_full (nat_le id_limit id)
    ∷ [])
    (answered (record (bound state name id) { next_id = id + 1; instances = put_instance id instance state.instances }) (codes "new " ++ decimal id))

abbrev pub set_turn : State → (name member rest : List ℕ) → Turn
set_turn state name member rest =
    let value = given state rest (value_of state name member) in
    judged state
    (no_name (not (is_bound state name))
    ∷ no_member (lacks_member state name member)
    ∷ wrong_kind (misfits value)
    ∷ out_of_range (is_out_of_range value)
    ∷ no_name (is_unbound value)
    ∷ [])
    (ok (set_value state name member (given_value value)))

abbrev pub add_turn : State → (name member : List ℕ) → Target → Turn
add_turn state name member target =
    let ids = refs_in (value_of state name member) in
    let id = target_id state (Some target) in
    judged state
    (no_name (not (is_bound state name))
    ∷ no_member (lacks_member state name member)
    ∷ wrong_kind (is_none ids)
    ∷ no_name (is_none id)
    ∷ [])
    (ok (set_value state name member (Refs (unwrap_or ids [] ++ unwrap_or id 0 ∷ []))))

abbrev pub cut_turn : State → (name member : List ℕ) → ℕ → Turn
cut_turn state name member index =
    let ids = refs_in (value_of state name member) in
    judged state
    (no_name (not (is_bound state name))
    ∷ no_member (lacks_member state name member)
    ∷ wrong_kind (is_none ids)
    ∷ out_of_range (nat_le (length (unwrap_or ids [])) index)
    ∷ [])
    (ok (set_value state name member (Refs (without_at (unwrap_or ids []) index))))

abbrev pub root_turn : State → List ℕ → Turn
root_turn state name = judged state
    (no_name (not (is_bound state name)) ∷ [])
    (ok (with_value state 1 (unwrap_or (instance_at state.instances 1) nothing) 0 (Ref (id_of state name))))

-- ---- stores

abbrev pub gathered_records : Instances → List ℕ → List Record
gathered_records instances ids =
    map (λ (h : Held). record { id = h.id; entity = entity_of h.instance.object }) (filter (λ (h : Held). has h.id ids) instances)

abbrev pub saved_instances : Instances → List ℕ → Instances
saved_instances instances ids =
    map (λ (h : Held). if has h.id ids then record h { instance = record h.instance { saved = true; changed = false } } else h) instances

-- an entity above its most bytes, or all together above theirs
abbrev pub are_too_big : ℕ → List Record → Bool
are_too_big most records =
    list_any (λ (r : Record). nat_lt entity_limit (entity_size r.entity)) records || nat_lt most (sum_by (λ (r : Record). entity_size r.entity) records)

abbrev pub stored : State → List ℕ → StoreOp → Turn
stored state ids op =
    let number = state.number + 1 in
    record (answered (record state { graph = after state.graph (op ∷ []); number = number; instances = saved_instances state.instances ids })
    (codes "stored " ++ (decimal number ++ (32 ∷ decimal (length op.records))))) { stores = op ∷ [] }

abbrev pub store_turn : ℕ → State → List ℕ → (Instances → ℕ → List ℕ) → Turn
store_turn most state name gather =
    let ids = gather state.instances (id_of state name) in
    let op : StoreOp = record { records = gathered_records state.instances ids; next_id = state.next_id } in
    judged state
    (no_name (not (is_bound state name))
    ∷ too_big (are_too_big most op.records)
    ∷ [])
    (stored state ids op)

-- ---- looking and loading

abbrev pub show_turn : State → List ℕ → Turn
show_turn state name = let i = named_instance state name in judged state
    (no_name (not (is_bound state name)) ∷ [])
    (answered state (line (id_of state name) i.object (desc_of_instance state i)))

abbrev pub root_target : State → ℕ
root_target state = unwrap_or (ref_in (value_in (unwrap_or (instance_at state.instances 1) nothing) (Some 0))) 0

abbrev pub home_turn : State → List ℕ → Turn
home_turn state name = judged state
    (reserved (is_root_name name)
    ∷ name_taken (is_bound state name)
    ∷ no_root (root_target state == 0)
    ∷ [])
    (ok (bound state name (root_target state)))

-- the instances once an id has one; or why it cannot be loaded
abbrev pub with_loaded : State → ℕ → Result Instances (List ℕ)
with_loaded state id = if has_instance state.instances id then Ok state.instances else load state.types state.pairs state.graph state.instances id

abbrev pub loaded_turn : State → List ℕ → ℕ → Result Instances (List ℕ) → Turn
loaded_turn state new id (Ok instances) = ok (bound (record state { instances = instances }) new id)
loaded_turn state new id (Err code) = refused state code

abbrev pub follow_turn : State → (name member new : List ℕ) → Turn
follow_turn state name member new =
    let target = ref_in (value_of state name member) in
    judged state
    (no_name (not (is_bound state name))
    ∷ no_member (lacks_member state name member)
    ∷ wrong_kind (is_none target)
    ∷ reserved (is_root_name new)
    ∷ name_taken (is_bound state new)
    ∷ no_target (unwrap_or target 0 == 0)
    ∷ [])
    (loaded_turn state new (unwrap_or target 0) (with_loaded state (unwrap_or target 0)))

abbrev pub pick_turn : State → (name member : List ℕ) → ℕ → List ℕ → Turn
pick_turn state name member index new =
    let ids = refs_in (value_of state name member) in
    let target = unwrap_or (slice_get (unwrap_or ids []) index) 0 in
    judged state
    (no_name (not (is_bound state name))
    ∷ no_member (lacks_member state name member)
    ∷ wrong_kind (is_none ids)
    ∷ out_of_range (nat_le (length (unwrap_or ids [])) index)
    ∷ reserved (is_root_name new)
    ∷ name_taken (is_bound state new)
    ∷ no_target (target == 0)
    ∷ [])
    (ok (bound state new target))

abbrev pub drop_turn : State → List ℕ → Turn
drop_turn state name = judged state
    (reserved (is_root_name name)
    ∷ no_name (not (is_bound state name))
    ∷ [])
    (ok (record state { names = filter (λ (b : Binding). not (bytes_eq b.name name)) state.names }))

-- ---- the whole store

abbrev pub forget_turn : State → Turn
forget_turn state =
    let kept = kept_instances state.instances (map (λ (b : Binding). b.id) state.names) in
    answered (record state { instances = kept }) (codes "forgot " ++ decimal (length state.instances - length kept))

-- the entities that walks from these ids reach
abbrev pub reached_records : Graph → List ℕ → Graph
reached_records g starts = let ids = reached g starts in filter (λ (r : Record). has r.id ids) g

abbrev pub collect_turn : State → Turn
collect_turn state =
    record (answered state (codes "kept " ++ decimal (length (reached_records state.graph (1 ∷ held_ids state.instances))))) { housekeeping = Collecting ∷ [] }

abbrev pub tidy_turn : State → Turn
tidy_turn state = record (answered state (codes "tidied")) { housekeeping = Tidying ∷ [] }

-- an entity as it is stored, by its stored type
abbrev pub exported : State → Record → List ℕ
exported state r =
    let desc = unwrap_or (desc_of state.types r.entity.type_id) no_desc in
    line r.id (record { type_id = r.entity.type_id; values = values_in (values_at (kinds_of desc) 0 r.entity.refs r.entity.plain) }) desc ++ 10 ∷ []

abbrev pub export_turn : State → Turn
export_turn state =
    let records = reached_records state.graph (1 ∷ []) in
    let last = answered state (codes "end " ++ decimal (length records)) in
    record last { text = flat_map (exported state) records ++ last.text }

-- ---- a whole script

abbrev pub command_turn : ℕ → State → Command → Turn
command_turn most state (cmd.DeclareType desc) = type_turn state desc
command_turn most state (cmd.Refactor old new) = refactor_turn state old new
command_turn most state (cmd.New name type_name) = new_turn state name type_name
command_turn most state (cmd.SetMember name member rest) = set_turn state name member rest
command_turn most state (cmd.AddTo name member target) = add_turn state name member target
command_turn most state (cmd.CutFrom name member index) = cut_turn state name member index
command_turn most state (cmd.SetRoot name) = root_turn state name
command_turn most state (cmd.Store name) = store_turn most state name gathered_lazily
command_turn most state (cmd.StoreAll name) = store_turn most state name gathered_eagerly
command_turn most state (cmd.Show name) = show_turn state name
command_turn most state (cmd.Home name) = home_turn state name
command_turn most state (cmd.Follow name member new) = follow_turn state name member new
command_turn most state (cmd.Pick name member index new) = pick_turn state name member index new
command_turn most state (cmd.DropName name) = drop_turn state name
command_turn most state cmd.Forget = forget_turn state
command_turn most state cmd.Collect = collect_turn state
command_turn most state cmd.Tidy = tidy_turn state
command_turn most state cmd.Export = export_turn state

-- lines about types alone need no start
abbrev pub needs_start : Command → Bool
needs_start (cmd.DeclareType desc) = false
needs_start (cmd.Refactor old new) = false
needs_start _ = true

-- the instances at the start: what is loaded with the root, or a root without a target
abbrev pub first_instances : State → Result Instances (List ℕ)
first_instances state =
    if lists state.graph 1 then load state.types state.pairs state.graph [] 1
    else Ok (put_instance 1 (fresh 1 root_desc) [])

abbrev pub started_turn : ℕ → State → Command → Result Instances (List ℕ) → Turn
started_turn most state command (Ok instances) = command_turn most (record state { instances = instances; started = true }) command
started_turn most state command (Err code) = refused state code

abbrev pub turn_of : ℕ → State → Option Command → Turn
turn_of most state None = refused state (codes "bad-line")
turn_of most state (Some command) =
    if needs_start command && not state.started then started_turn most state command (first_instances state)
    else command_turn most state command

-- what a line comes to, where one store has at most so many bytes
unfoldable pub turn : ℕ → State → List ℕ → Turn
turn most state text = turn_of most state (command_of text)

pub record Answer : Type 0 where
  pub bytes : List ℕ
  pub records : List (List ℕ)
  pub stores : List StoreOp

abbrev pub no_answer : Answer
no_answer = record { bytes = []; records = []; stores = [] }

abbrev pub and_then : Turn → Answer → Answer
and_then turn answer = record { bytes = turn.text ++ answer.bytes; records = turn.records ++ answer.records; stores = turn.stores ++ answer.stores }

-- what the lines of a script are answered, and the records and the stores that they make, in order
abbrev pub answer_from : ℕ → State → List (List ℕ) → Answer
answer_from most state [] = no_answer
answer_from most state (text ∷ lines) = let made = turn most state text in and_then made (answer_from most made.state lines)

-- where a script begins: the name `root` is bound to 1, and no object is in memory
abbrev pub opened : (types : List TypeDesc) → Graph → (number next_id : ℕ) → State
opened types graph number next_id = record {
  types = types;
  pairs = [];
  graph = graph;
  number = number;
  next_id = next_id;
  names = record { name = codes "root"; id = 1 } ∷ [];
  instances = [];
  started = false;
}
