-- What one call of an export keeps.
use Rattle.std.proofs.Common.{◌≡◌, ℕ, true, false, List, [], ◌∷◌, ◌++◌, length, append_assoc, Option, Some, None, refl, sym, ap, ◌∙◌, subst}
use Rattle.std.specs.Prelude.{codes, nat_eq, unwrap_or}
use Rattle.std.specs.Fmt.{decimal}
use Rattle.std.specs.List.{flat_map}
use Rattle.std.proofs.lemmas.Bool.{eq-eqb, or_left, or_right}
use Rattle.graph_model.specs.Ids.{has, insert}
use Rattle.graph_model.specs.Graph.{Graph, edges, entity_of, lists}
use Rattle.graph_model.specs.declared.entity.Entity.{Entity}
use Rattle.graph_model.proofs.IdSets.{has_append}
use Rattle.type_desc.specs.declared.desc.TypeDesc.{TypeDesc}
use Rattle.entity_form.specs.declared.value.Object.{Object}
use Rattle.graph_export.proofs.Feedless.{decimal_no_feed, feedless_is, no_feed-append}
use Rattle.lazy_refs.specs.Forms.{IsObjectOf}
use Rattle.session_model.specs.WellFormed.{IsWellFormed}
use Rattle.session_model.specs.Answer.{State, export_turn, exported}
use Rattle.session_lines.specs.Lines.{IsLine}
use Rattle.session_lines.specs.Exports.{Exported, IsExporting, IsFresh, IsInStage, IsLineOf, IsTelling, IsUnseen, IsWalking, due, line_at, looked, no_entity, reached_from_root, starts}
use Rattle.session_lines.specs.declared.exporting.Stage.{Stage}
use Rattle.session_lines.specs.declared.exporting.Stage.TheVariants as stages
use Rattle.session_lines.proofs.ExportWalks.{open_is_exported, walks_now}

none_more : (xs : List ℕ) → xs ≡ xs ++ []
none_more [] = refl
none_more (x ∷ xs) = ap (λ (ys : List ℕ). x ∷ ys) (none_more xs)

pub in_stage : (stage : Stage) (state : State) (text : List ℕ) (p : Exported) → p.stage ≡ stage → IsExporting state text p → IsInStage stage state text p
in_stage stage state text p is e = subst (λ (s : Stage). IsInStage s state text p) is e.at

-- the last of a list is in it
last_there : (front : List ℕ) (id : ℕ) → has id (front ++ id ∷ []) ≡ true
last_there front id = has_append id front (id ∷ []) ∙ or_right (has id front) (has id (id ∷ [])) (or_left (nat_eq id id) false (eq-eqb id id refl))

-- a due id is exported
pub due_is_exported : (state : State) (text : List ℕ) (p : Exported) (id : ℕ) → IsExporting state text p → p.asked ≡ Some id → lists (reached_from_root state) id ≡ true
due_is_exported state text p id e asked = by p.stage refl
  where
    by : (s : Stage) → p.stage ≡ s → lists (reached_from_root state) id ≡ true
    by stages.Walking is = let t = in_stage stages.Walking state text p is e in
        let w : IsWalking state.graph (starts state.graph) p.left (p.waiting ++ id ∷ []) = subst (λ (o : Option ℕ). IsWalking state.graph (starts state.graph) p.left (p.waiting ++ due o)) asked t.1 in
        open_is_exported state p.left (p.waiting ++ id ∷ []) id e.graph w (or_right (has id p.left) (has id (p.waiting ++ id ∷ [])) (last_there p.waiting id))
    by stages.Telling is = let t : IsTelling state text p = in_stage stages.Telling state text p is e in
        t.kept id (subst (λ (o : Option ℕ). has id (due o ++ p.left) ≡ true) (sym asked) (or_left (nat_eq id id) (has id p.left) (eq-eqb id id refl)))

-- while it walks, the due id was not looked at
pub unseen_is_fresh : (p : Exported) (id : ℕ) → IsUnseen p.stage p.asked p.left → p.stage ≡ stages.Walking → p.asked ≡ Some id → has id p.left ≡ false
unseen_is_fresh p id unseen is asked = subst (λ (o : Option ℕ). IsFresh o p.left) asked (subst (λ (s : Stage). IsUnseen s p.asked p.left) is unseen)

-- where none is due, what waits is open
pub waits_open : (state : State) (text : List ℕ) (p : Exported) → p.stage ≡ stages.Walking → p.asked ≡ None → IsExporting state text p → (text ≡ []) × IsWalking state.graph (starts state.graph) p.left p.waiting
waits_open state text p is none e = let t = in_stage stages.Walking state text p is e in
    (t.0, subst (λ (xs : List ℕ). IsWalking state.graph (starts state.graph) p.left xs) (sym (none_more p.waiting)) (subst (λ (o : Option ℕ). IsWalking state.graph (starts state.graph) p.left (p.waiting ++ due o)) none t.1))

-- the next open id is due
pub asks_on : (state : State) (text front : List ℕ) (p : Exported) (id : ℕ) → p.stage ≡ stages.Walking → p.asked ≡ None → IsExporting state text p → has id p.left ≡ false
    → ((g : Graph) (from : List ℕ) → IsWalking g from p.left p.waiting → IsWalking g from p.left (front ++ id ∷ []))
    → IsExporting state text (record p { asked = Some id; waiting = front })
asks_on state text front p id is none e new next =
    let t = waits_open state text p is none e in let n = next state.graph (starts state.graph) t.1 in record {
      graph = e.graph;
      at = subst (λ (s : Stage). IsInStage s state text (record p { asked = Some id; waiting = front })) (sym is) (t.0, n, new);
    }

-- the due id was looked at
pub looks : (state : State) (text : List ℕ) (p new : Exported) (id : ℕ) (entity : Entity) → p.stage ≡ stages.Walking → p.asked ≡ Some id → IsExporting state text p → entity_of state.graph id ≡ Some entity
    → (has id p.left ≡ false → new ≡ looked id entity p) → (new.asked ≡ None) × IsExporting state text new
looks state text p new id entity is asked e at becomes = subst (λ (q : Exported). (q.asked ≡ None) × IsExporting state text q) (sym (becomes fresh)) (
  refl,
  record {
    graph = e.graph;
    at = subst (λ (s : Stage). IsInStage s state text (looked id entity p)) (sym is) (t.0, walking, tt);
  },
)
  where
    t : IsInStage stages.Walking state text p
    t = in_stage stages.Walking state text p is e

    fresh : has id p.left ≡ false
    fresh = subst (λ (o : Option ℕ). IsFresh o p.left) asked t.2

    walking : IsWalking state.graph (starts state.graph) (insert id p.left) ((p.waiting ++ edges entity) ++ [])
    walking = subst (λ (xs : List ℕ). IsWalking state.graph (starts state.graph) (insert id p.left) xs) (none_more (p.waiting ++ edges entity))
        (walks_now state.graph (starts state.graph) p.left p.waiting id entity fresh at (subst (λ (o : Option ℕ). IsWalking state.graph (starts state.graph) p.left (p.waiting ++ due o)) asked t.1))

-- the due id's line was told
pub tells : (state : State) (text bytes : List ℕ) (types : List TypeDesc) (p : Exported) (id : ℕ) (entity : Entity) (object : Object) → state.types ≡ types → p.stage ≡ stages.Telling → p.asked ≡ Some id → IsExporting state text p
    → entity_of state.graph id ≡ Some entity → IsObjectOf types entity object → IsLineOf types id object bytes → IsExporting state (text ++ bytes) (record p { asked = None })
tells state text bytes types p id entity object same is asked e at holds line = record {
  graph = e.graph;
  at = subst (λ (s : Stage). IsInStage s state (text ++ bytes) (record p { asked = None })) (sym is) telling;
}
  where
    t : IsTelling state text p
    t = in_stage stages.Telling state text p is e

    due_first : text ++ flat_map (line_at state) (id ∷ p.left) ≡ flat_map (exported state) (reached_from_root state)
    due_first = subst (λ (o : Option ℕ). text ++ flat_map (line_at state) (due o ++ p.left) ≡ flat_map (exported state) (reached_from_root state)) asked t.told

    bytes_are : bytes ≡ line_at state id
    bytes_are = line state entity same holds ∙ sym (ap (λ (o : Option Entity). exported state (record { id = id; entity = unwrap_or o no_entity })) at)

    telling : IsTelling state (text ++ bytes) (record p { asked = None })
    telling = record {
      told = ap (λ (l : List ℕ). (text ++ l) ++ flat_map (line_at state) p.left) bytes_are ∙ (append_assoc text (line_at state id) (flat_map (line_at state) p.left) ∙ due_first);
      count = t.count;
      kept = λ x h. t.kept x (subst (λ (o : Option ℕ). has x (due o ++ p.left) ≡ true) (sym asked) (or_right (nat_eq x id) (has x p.left) h));
    }

-- where none is left, the last line ends the text
pub ends : (state : State) (text bytes : List ℕ) (p : Exported) → p.stage ≡ stages.Telling → p.asked ≡ None → p.left ≡ [] → IsExporting state text p → bytes ≡ (codes "end " ++ decimal p.count) ++ 10 ∷ []
    → IsLine bytes × (text ++ bytes ≡ (export_turn state).text)
ends state text bytes p is none empty e last = (
  record { text = codes "end " ++ decimal p.count; bytes_is = last; no_feed = no_feed-append (codes "end ") (decimal p.count) (feedless_is (codes "end ") refl) (decimal_no_feed p.count) },
  ap (λ (b : List ℕ). text ++ b) (last ∙ ap (λ (n : ℕ). (codes "end " ++ decimal n) ++ 10 ∷ []) t.count)
      ∙ ap (λ (l : List ℕ). l ++ ((codes "end " ++ decimal (length (reached_from_root state))) ++ 10 ∷ [])) told,
)
  where
    t : IsTelling state text p
    t = in_stage stages.Telling state text p is e

    told : text ≡ flat_map (exported state) (reached_from_root state)
    told = none_more text ∙ subst (λ (xs : List ℕ). text ++ flat_map (line_at state) xs ≡ flat_map (exported state) (reached_from_root state)) empty
        (subst (λ (o : Option ℕ). text ++ flat_map (line_at state) (due o ++ p.left) ≡ flat_map (exported state) (reached_from_root state)) none t.told)

-- the id that is due while walking was not looked at
pub fresh_while_walking : (state : State) (text : List ℕ) (p : Exported) (id : ℕ) → p.stage ≡ stages.Walking → p.asked ≡ Some id → IsExporting state text p → has id p.left ≡ false
fresh_while_walking state text p id is asked e = subst (λ (o : Option ℕ). IsFresh o p.left) asked (in_stage stages.Walking state text p is e).2

-- no entity of a right graph is broken
pub none_broken : (state : State) (text : List ℕ) (types : List TypeDesc) (p : Exported) (id : ℕ) (entity : Entity) → state.types ≡ types → IsExporting state text p → entity_of state.graph id ≡ Some entity → ¬ (IsWellFormed types id entity)
    → ⊥
none_broken state text types p id entity same e at none = none (subst (λ (ts : List TypeDesc). IsWellFormed ts id entity) same (e.graph.forms id entity at))
