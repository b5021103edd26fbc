-- What a line makes: nothing, one record of a type, or one store.
use Rattle.std.proofs.Common.{◌≡◌, ◌<◌, ◌≤◌, ◌⊎◌, ℕ, ◌+◌, Bool, true, false, cond, not, ◌&&◌, ◌||◌, List, [], ◌∷◌, length, Option, Some, None, Result, Ok, Err, refl, inl, inr, sym, subst}
use Rattle.std.specs.Prelude.{◌^◌, codes, is_none, is_some, nat_eq, nat_le, nat_lt, slice_get, sum_by, unwrap_or}
use Rattle.std.specs.List.{list_any}
use Rattle.std.proofs.lemmas.Bool.{leb-false, ltb-false, or_parts}
use Rattle.graph_model.specs.declared.entity.Record.{Record}
use Rattle.graph_model.specs.declared.entity.StoreOp.{StoreOp}
use Rattle.graph_model.specs.Graph.{Graph, edges_of, entity_of, entity_size, put_all}
use Rattle.graph_model.specs.Ids.{has}
use Rattle.graph_model.specs.declared.entity.Entity.{Entity}
use Rattle.graph_model.specs.Stores.{total_size}
use Rattle.type_desc.specs.Grammar.{IsDesc, record_text}
use Rattle.type_desc.specs.declared.desc.TypeDesc.{TypeDesc}
use Rattle.type_dictionary.specs.Latest.{latest_of}
use Rattle.refactor_table.specs.Names.{same_name}
use Rattle.session_model.specs.Commands as cmd
use Rattle.session_model.specs.Commands.{Command, Target, command_of}
use Rattle.session_model.specs.Types.{is_root_type, repeats_member, type_in}
use Rattle.session_model.specs.Instances.{Instances, gathered_eagerly, gathered_lazily}
use Rattle.session_model.specs.Answer.{Refusal, State, Turn, answered, are_too_big, collect_turn, command_turn, export_turn, first_instances, forget_turn, gathered_records, given, id_of, is_known, judged, loaded_turn, needs_start, nothing, ref_in, refs_in}
use Rattle.session_model.specs.Answer.{refused, root_target, started_turn, store_turn, stored, target_id, tidy_turn, turn, turn_of, type_known, type_new, type_turn, value_of, with_loaded}
use Rattle.session_model.specs.Answer.{differs, duplicate, is_bound, is_full, is_out_of_range, is_root_name, is_unbound, lacks_member, misfits, name_taken, no_member, no_name, no_root, no_target, no_type, out_of_range, reserved, too_big, wrong_kind}
use Rattle.session_model.specs.Sound.{IsProperCommand, IsRightGraph, IsSound}
use Rattle.session_model.proofs.IdLists.{total_is_sum}
use Rattle.session_model.proofs.Judging.{NoneDue}
use Rattle.session_model.proofs.Spelled.{spelled_proper}
use Rattle.session_model.proofs.Turning.{turn_sound}
use Rattle.session_lines.proofs.TypeWords.{is_other, own_names}
use Rattle.session_lines.specs.Limits.{most_bytes}
use Rattle.plain_storage.specs.Held.{IsSoundGraph, PlainHeld}
use Rattle.store_run.specs.Within.{MakesNothing, MakesOne, MakesType}

-- a store that is not too big, and the graph behind it
record MakesGraph (held : PlainHeld) (turn : Turn) : Type 0 where
  pub op : StoreOp
  pub records : turn.records ≡ []
  pub stores : turn.stores ≡ op ∷ []
  pub types : turn.state.types ≡ held.types
  pub fits : are_too_big most_bytes op.records ≡ false
  pub graph : turn.state.graph ≡ put_all op.records held.graph

abbrev Makes : PlainHeld → Turn → Type 0
Makes held turn = MakesNothing held turn ⊎ (MakesType held turn ⊎ MakesGraph held turn)

-- the types and the graph of a state
abbrev held_at : State → ℕ → ℕ → PlainHeld
held_at state number next_id = record { types = state.types; graph = state.graph; number = number; next_id = next_id }

quiet : (held : PlainHeld) (turn : Turn) → turn.records ≡ [] → turn.stores ≡ [] → turn.state.types ≡ held.types → Makes held turn
quiet held turn records stores types = inl (record { records = records; stores = stores; types = types })

-- what is refused makes nothing
judged_makes : (held : PlainHeld) (state : State) (refusals : List Refusal) (effect : Turn) → state.types ≡ held.types → (NoneDue refusals → Makes held effect)
    → Makes held (judged state refusals effect)
judged_makes held state [] effect same then = then tt
judged_makes held state (r ∷ refusals) effect same then = by r.due refl (λ e. judged_makes held state refusals effect same (λ none. then (e, none)))
  where
    by : (b : Bool) → r.due ≡ b → (r.due ≡ false → Makes held (judged state refusals effect)) → Makes held (cond b (refused state r.code) (judged state refusals effect))
    by true e rest = quiet held (refused state r.code) refl refl same
    by false e rest = rest e

-- a line whose effect makes nothing
judged_quiet : (held : PlainHeld) (state : State) (refusals : List Refusal) (effect : Turn) → state.types ≡ held.types → effect.records ≡ [] → effect.stores ≡ [] → effect.state.types ≡ held.types
    → Makes held (judged state refusals effect)
judged_quiet held state refusals effect same records stores types = judged_makes held state refusals effect same (λ none. quiet held effect records stores types)

-- ---- the lines that make something

type_makes : (state : State) (number next_id : ℕ) (desc : TypeDesc) → IsDesc desc → Makes (held_at state number next_id) (type_turn state desc)
type_makes state number next_id desc spelled = judged_makes held state refusals (cond (is_known state desc) (type_known state desc) (type_new state desc)) refl
    (λ none. effect (is_known state desc) none.0 none.1.0 none.1.1.0)
  where
    held : PlainHeld
    held = held_at state number next_id

    refusals : List Refusal
    refusals = reserved (is_root_type desc.name) ∷ duplicate (repeats_member desc.members) ∷ is_full (nat_le 65536 (length state.types) && not (is_known state desc)) ∷ []

    room : (b : Bool) → nat_le 65536 (length state.types) ≡ b → (b && true) ≡ false → length state.types < 65536
    room true e f = absurd cc
    room false e f = leb-false 65536 (length state.types) e

    effect : (known : Bool) → is_root_type desc.name ≡ false → repeats_member desc.members ≡ false → (nat_le 65536 (length state.types) && not known) ≡ false
        → Makes held (cond known (type_known state desc) (type_new state desc))
    effect true other once full = quiet held (type_known state desc) refl refl refl
    effect false other once full = inr (inl (record {
      text = record_text (16 + length state.types, desc);
      desc = desc;
      next = record {
        room = room (nat_le 65536 (length state.types)) refl full;
        recorded = record { sound = record { grammar = spelled; own_names = own_names desc.members once }; named = is_other desc.name other };
        spelled = refl;
      };
      records = refl;
      stores = refl;
      types = refl;
    }))

store_makes : (state : State) (number next_id : ℕ) (name : List ℕ) (gather : Instances → ℕ → List ℕ) → Makes (held_at state number next_id) (store_turn most_bytes state name gather)
store_makes state number next_id name gather = judged_makes (held_at state number next_id) state refusals (stored state ids op) refl
    (λ none. inr (inr (record { op = op; records = refl; stores = refl; types = refl; fits = none.1.0; graph = refl })))
  where
    ids : List ℕ
    ids = gather state.instances (id_of state name)

    op : StoreOp
    op = record { records = gathered_records state.instances ids; next_id = state.next_id }

    refusals : List Refusal
    refusals = no_name (not (is_bound state name)) ∷ too_big (are_too_big most_bytes op.records) ∷ []

loaded_makes : (held : PlainHeld) (state : State) (new : List ℕ) (id : ℕ) (loaded : Result Instances (List ℕ)) → state.types ≡ held.types → Makes held (loaded_turn state new id loaded)
loaded_makes held state new id (Ok instances) same = quiet held (loaded_turn state new id (Ok instances)) refl refl same
loaded_makes held state new id (Err code) same = quiet held (loaded_turn state new id (Err code)) refl refl same

-- ---- each line

command_makes : (state : State) (number next_id : ℕ) (command : Command) → IsProperCommand command → Makes (held_at state number next_id) (command_turn most_bytes state command)
command_makes state n x (cmd.DeclareType desc) proper = type_makes state n x desc proper
command_makes state n x (cmd.Refactor old new) proper = judged_quiet (held_at state n x) state
    (reserved (is_root_type (type_in old) || is_root_type (type_in new))
    ∷ duplicate (list_any (λ p. same_name p.old old || same_name p.new new) state.pairs)
    ∷ wrong_kind (differs state old new)
    ∷ []) _ refl refl refl refl
command_makes state n x (cmd.New name type_name) proper = judged_quiet (held_at state n x) state
    (reserved (is_root_name name || is_root_type type_name) ∷ name_taken (is_bound state name) ∷ no_type (is_none (latest_of state.types type_name)) ∷ is_full (nat_le (2 ^ 48) state.next_id) ∷ [])
    _ refl refl refl refl
command_makes state n x (cmd.SetMember name member rest) proper =
    let value = given state rest (value_of state name member) in
    judged_quiet (held_at state n x) state
    (no_name (not (is_bound state name)) ∷ no_member (lacks_member state name member) ∷ wrong_kind (misfits value) ∷ out_of_range (is_out_of_range value) ∷ no_name (is_unbound value) ∷ [])
    _ refl refl refl refl
command_makes state n x (cmd.AddTo name member target) proper = judged_quiet (held_at state n x) state
    (no_name (not (is_bound state name)) ∷ no_member (lacks_member state name member) ∷ wrong_kind (is_none (refs_in (value_of state name member))) ∷ no_name (is_none (target_id state (Some target))) ∷ [])
    _ refl refl refl refl
command_makes state n x (cmd.CutFrom name member index) proper =
    let ids = refs_in (value_of state name member) in
    judged_quiet (held_at state n x) state
    (no_name (not (is_bound state name)) ∷ no_member (lacks_member state name member) ∷ wrong_kind (is_none ids) ∷ out_of_range (nat_le (length (unwrap_or ids [])) index) ∷ []) _ refl refl refl refl
command_makes state n x (cmd.SetRoot name) proper = judged_quiet (held_at state n x) state (no_name (not (is_bound state name)) ∷ []) _ refl refl refl refl
command_makes state n x (cmd.Store name) proper = store_makes state n x name gathered_lazily
command_makes state n x (cmd.StoreAll name) proper = store_makes state n x name gathered_eagerly
command_makes state n x (cmd.Show name) proper = judged_quiet (held_at state n x) state (no_name (not (is_bound state name)) ∷ []) _ refl refl refl refl
command_makes state n x (cmd.Home name) proper = judged_quiet (held_at state n x) state
    (reserved (is_root_name name) ∷ name_taken (is_bound state name) ∷ no_root (nat_eq (root_target state) 0) ∷ []) _ refl refl refl refl
command_makes state n x (cmd.Follow name member new) proper =
    let target = ref_in (value_of state name member) in
    judged_makes (held_at state n x) state
    (no_name (not (is_bound state name))
    ∷ no_member (lacks_member state name member)
    ∷ wrong_kind (is_none target)
    ∷ reserved (is_root_name new)
    ∷ name_taken (is_bound state new)
    ∷ no_target (nat_eq (unwrap_or target 0) 0)
    ∷ []) _ refl (λ none. loaded_makes (held_at state n x) state new (unwrap_or target 0) (with_loaded state (unwrap_or target 0)) refl)
command_makes state n x (cmd.Pick name member index new) proper =
    let ids = refs_in (value_of state name member) in
    judged_quiet (held_at state n x) state
    (no_name (not (is_bound state name))
    ∷ no_member (lacks_member state name member)
    ∷ wrong_kind (is_none ids)
    ∷ out_of_range (nat_le (length (unwrap_or ids [])) index)
    ∷ reserved (is_root_name new)
    ∷ name_taken (is_bound state new)
    ∷ no_target (nat_eq (unwrap_or (slice_get (unwrap_or ids []) index) 0) 0)
    ∷ []) _ refl refl refl refl
command_makes state n x (cmd.DropName name) proper = judged_quiet (held_at state n x) state (reserved (is_root_name name) ∷ no_name (not (is_bound state name)) ∷ []) _ refl refl refl refl
command_makes state n x cmd.Forget proper = quiet (held_at state n x) (forget_turn state) refl refl refl
command_makes state n x cmd.Collect proper = quiet (held_at state n x) (collect_turn state) refl refl refl
command_makes state n x cmd.Tidy proper = quiet (held_at state n x) (tidy_turn state) refl refl refl
command_makes state n x cmd.Export proper = quiet (held_at state n x) (export_turn state) refl refl refl

started_makes : (state : State) (number next_id : ℕ) (command : Command) (first : Result Instances (List ℕ)) → IsProperCommand command
    → Makes (held_at state number next_id) (started_turn most_bytes state command first)
started_makes state number next_id command (Ok instances) proper = command_makes (record state { instances = instances; started = true }) number next_id command proper
started_makes state number next_id command (Err code) proper = quiet (held_at state number next_id) (refused state code) refl refl refl

line_makes : (state : State) (number next_id : ℕ) (text : List ℕ) → Makes (held_at state number next_id) (turn most_bytes state text)
unfolding turn
line_makes state number next_id text = of_command (command_of text) refl
  where
    held : PlainHeld
    held = held_at state number next_id

    by : (b : Bool) (command : Command) → IsProperCommand command → Makes held (cond b (started_turn most_bytes state command (first_instances state)) (command_turn most_bytes state command))
    by true command proper = started_makes state number next_id command (first_instances state) proper
    by false command proper = command_makes state number next_id command proper

    of_command : (o : Option Command) → command_of text ≡ o → Makes held (turn_of most_bytes state o)
    of_command None is = quiet held (refused state (codes "bad-line")) refl refl refl
    of_command (Some command) is = by (needs_start command && not state.started) command (spelled_proper text command is)

-- ---- a store that is made is one payload, and leaves a sound graph

fits_payload : (rs : List Record) → are_too_big most_bytes rs ≡ false → total_size rs ≤ 1048560
fits_payload rs small =
    let parts = or_parts (list_any (λ (r : Record). nat_lt 1048576 (entity_size r.entity)) rs) (nat_lt most_bytes (sum_by (λ (r : Record). entity_size r.entity) rs)) small in
    let sum : sum_by (λ (r : Record). entity_size r.entity) rs ≤ 1048560 = ltb-false most_bytes (sum_by (λ (r : Record). entity_size r.entity) rs) parts.1 in
    subst (λ (n : ℕ). n ≤ 1048560) (sym (total_is_sum rs)) sum

edge_from_listed : (y : ℕ) (o : Option Entity) → has y (edges_of o) ≡ true → is_some o ≡ true
edge_from_listed y None edge = absurd cc
edge_from_listed y (Some entity) edge = refl

sound_graph : (types : List TypeDesc) (next_id : ℕ) (graph : Graph) → IsRightGraph types next_id graph → IsSoundGraph types graph
sound_graph types next_id graph right = record {
  forms = λ x entity is. let form = right.forms x entity is in record { desc = form.desc; known = form.known; values = form.values; holds = form.holds; root = form.root };
  whole = λ x y edge. right.whole x y (edge_from_listed y (entity_of graph x) edge) edge;
}

makes_one : (held : PlainHeld) (turn : Turn) → IsSound turn.state → Makes held turn → MakesOne held turn
makes_one held turn sound (inl nothing) = inl nothing
makes_one held turn sound (inr (inl made)) = inr (inl made)
makes_one held turn sound (inr (inr made)) = inr (inr (record {
  op = made.op;
  records = made.records;
  stores = made.stores;
  types = made.types;
  fits = fits_payload made.op.records made.fits;
  sound = subst (λ (types : List TypeDesc). IsSoundGraph types (put_all made.op.records held.graph)) made.types
      (subst (λ (graph : Graph). IsSoundGraph turn.state.types graph) made.graph (sound_graph turn.state.types turn.state.next_id turn.state.graph sound.graph));
}))

-- over a storage with the state's graph
pub line_makes_one : (state : State) (text : List ℕ) (graph : Graph) (number next_id : ℕ) → IsSound state → graph ≡ state.graph
    → MakesOne (record { types = state.types; graph = graph; number = number; next_id = next_id }) (turn most_bytes state text)
line_makes_one state text graph number next_id sound same =
    subst (λ (g : Graph). MakesOne (record { types = state.types; graph = g; number = number; next_id = next_id }) (turn most_bytes state text)) (sym same)
    (makes_one (held_at state number next_id) (turn most_bytes state text) (turn_sound most_bytes state text sound) (line_makes state number next_id text))
