-- The lines of an export.
use Rattle.std.proofs.Common.{◌≡◌, ℕ, ◌<◌, Bool, true, false, cond, List, [], ◌∷◌, ◌++◌, length, Option, Some, None, refl, sym, ap, ◌∙◌, subst, arith}
use Rattle.std.specs.Prelude.{nat_eq, is_some, unwrap_or}
use Rattle.std.specs.List.{flat_map}
use Rattle.std.proofs.lemmas.Bool.{eq-eqb, ne_eqb}
use Rattle.std.proofs.lemmas.List.{length-map}
use Rattle.graph_model.specs.Ids.{has, rises}
use Rattle.graph_model.specs.Graph.{Graph, entity_of, ids}
use Rattle.graph_model.specs.declared.entity.Entity.{Entity}
use Rattle.graph_model.specs.declared.entity.Record.{Record}
use Rattle.graph_model.proofs.Graphs.{entity_of_filter, has_ids}
use Rattle.type_desc.specs.declared.desc.TypeDesc.{TypeDesc}
use Rattle.type_dictionary.specs.Latest.{desc_of}
use Rattle.entity_form.specs.Form.{Holds}
use Rattle.entity_form.specs.Reading.{values_at}
use Rattle.entity_form.specs.Values.{kinds_of}
use Rattle.entity_form.specs.declared.value.Object.{Object}
use Rattle.entity_form.specs.declared.value.Value.{Value}
use Rattle.entity_form.proofs.Forms.{holds_again}
use Rattle.graph_export.specs.Line.{line}
use Rattle.graph_export.proofs.Feedless.{line_no_feed}
use Rattle.lazy_refs.specs.Forms.{IsObjectOf}
use Rattle.session_model.specs.Instances.{reached}
use Rattle.session_model.specs.Loading.{values_in}
use Rattle.session_model.specs.Answer.{State, exported, no_desc}
use Rattle.session_model.specs.Sound.{IsRightGraph}
use Rattle.session_model.proofs.SameIds.{above_first, rises-tail}
use Rattle.session_lines.specs.Lines.{IsLine}
use Rattle.session_lines.specs.Exports.{IsLineOf, IsTelling, IsWalking, line_at, no_entity, reached_from_root, starts}
use Rattle.session_lines.specs.declared.exporting.Stage.TheVariants as stages
use Rattle.session_lines.proofs.ExportWalks.{all_reached, records_rise}

-- an object's line is the line of an entity that holds it
pub told_line : (types : List TypeDesc) (id : ℕ) (entity : Entity) (desc : TypeDesc) (object : Object) (bytes : List ℕ) (state : State) → desc_of types entity.type_id ≡ Some desc → object.type_id ≡ entity.type_id
    → Holds (kinds_of desc) entity.refs entity.plain object.values → bytes ≡ line id object desc ++ 10 ∷ [] → state.types ≡ types → bytes ≡ exported state (record { id = id; entity = entity })
told_line types id entity desc object bytes state known of_type holds told same =
    told ∙ (ap (λ (t : ℕ). line id (as_object t object.values) desc ++ 10 ∷ []) of_type
    ∙ (ap (λ (vs : List Value). line id (as_object entity.type_id vs) desc ++ 10 ∷ []) (sym (ap values_in (holds_again (kinds_of desc) 0 entity.refs entity.plain object.values holds)))
    ∙ ap (λ (d : TypeDesc). line id (as_object entity.type_id (values_in (values_at (kinds_of d) 0 entity.refs entity.plain))) d ++ 10 ∷ [])
    (sym (ap (λ (ts : List TypeDesc). unwrap_or (desc_of ts entity.type_id) no_desc) same ∙ ap (λ (o : Option TypeDesc). unwrap_or o no_desc) known))))
  where
    as_object : ℕ → List Value → Object
    as_object t vs = record { type_id = t; values = vs }

pub line_is : (types : List TypeDesc) (id : ℕ) (object : Object) (desc : TypeDesc) (bytes : List ℕ) → desc_of types object.type_id ≡ Some desc → bytes ≡ line id object desc ++ 10 ∷ [] → IsLineOf types id object bytes
line_is types id object desc bytes known told = λ state entity same is.
    let found : desc_of types entity.type_id ≡ Some desc = ap (desc_of types) (sym is.of_type) ∙ known in
    let one : is.desc ≡ desc = (let e : Some is.desc ≡ Some desc = sym is.known ∙ found in cc) in
    told_line types id entity desc object bytes state found is.of_type (subst (λ (d : TypeDesc). Holds (kinds_of d) entity.refs entity.plain object.values) one is.holds) told same

-- it is one line
pub is_line : (state : State) (types : List TypeDesc) (id : ℕ) (entity : Entity) (object : Object) (bytes : List ℕ) → state.types ≡ types → IsObjectOf types entity object → IsLineOf types id object bytes → IsLine bytes
is_line state types id entity object bytes same is line_of = record { text = _; bytes_is = line_of state entity same is; no_feed = line_no_feed _ _ _ }

-- the lines by the ids of records that stand in the graph
lines_are : (state : State) (rs : Graph) → rises (ids rs) ≡ true → ((x : ℕ) (e : Entity) → entity_of rs x ≡ Some e → entity_of state.graph x ≡ Some e)
    → flat_map (line_at state) (ids rs) ≡ flat_map (exported state) rs
lines_are state [] r all = refl
lines_are state (s ∷ rs) r all =
    ap (λ (l : List ℕ). l ++ flat_map (line_at state) (ids rs)) first ∙ ap (λ (l : List ℕ). exported state s ++ l) (lines_are state rs (rises-tail s.id (ids rs) r) (λ x e h. all x e (behind x e h)))
  where
    first : line_at state s.id ≡ exported state s
    first = ap (λ (o : Option Entity). exported state (record { id = s.id; entity = unwrap_or o no_entity }))
        (all s.id s.entity (ap (λ (b : Bool). cond b (Some s.entity) (entity_of rs s.id)) (eq-eqb s.id s.id refl)))

    behind : (x : ℕ) (e : Entity) → entity_of rs x ≡ Some e → cond (nat_eq x s.id) (Some s.entity) (entity_of rs x) ≡ Some e
    behind x e h =
        let there : has x (ids rs) ≡ true = has_ids rs x ∙ ap (λ (o : Option Entity). is_some o) h in
        let above : s.id < x = above_first s.id x (ids rs) r there in
        let other : nat_eq x s.id ≡ false = ne_eqb x s.id (λ q. absurd (omega arith)) in
        ap (λ (b : Bool). cond b (Some s.entity) (entity_of rs x)) other ∙ h

in_graph : (state : State) (x : ℕ) (e : Entity) → entity_of (reached_from_root state) x ≡ Some e → entity_of state.graph x ≡ Some e
in_graph state x e h = by (has x (reached state.graph (1 ∷ []))) (sym (entity_of_filter (λ (y : ℕ). has y (reached state.graph (1 ∷ []))) state.graph x) ∙ h)
  where
    by : (b : Bool) → cond b (entity_of state.graph x) None ≡ Some e → entity_of state.graph x ≡ Some e
    by true k = k
    by false k = absurd cc

-- where nothing is open, the lines of all that was looked at are to come
pub begins_telling : (state : State) (seen waiting : List ℕ) (count : ℕ) → IsRightGraph state.types state.next_id state.graph → IsWalking state.graph (starts state.graph) seen [] → count ≡ length seen
    → IsTelling state [] (record { stage = stages.Telling; asked = None; left = seen; waiting = waiting; count = count })
begins_telling state seen waiting count right w counted = record {
  told = ap (λ (xs : List ℕ). flat_map (line_at state) xs) all ∙ lines_are state (reached_from_root state) (records_rise state right) (in_graph state);
  count = counted ∙ (ap (λ (xs : List ℕ). length xs) all ∙ length-map (reached_from_root state) (λ (r : Record). r.id));
  kept = λ x h. sym (has_ids (reached_from_root state) x) ∙ subst (λ (xs : List ℕ). has x xs ≡ true) all h;
}
  where
    all : seen ≡ ids (reached_from_root state)
    all = all_reached state seen right w
