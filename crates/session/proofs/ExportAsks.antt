-- What a step of an export comes to: the ask, the line or the answer that is due.
use Rattle.std.proofs.Common.{◌≡◌, ℕ, Bool, true, List, [], ◌∷◌, ◌++◌, append_assoc, length, Some, None, refl, sym, ap, ◌∙◌, subst}
use Rattle.std.specs.Prelude.{codes, is_some}
use Rattle.std.specs.Fmt.{decimal}
use Rattle.std.specs.List.{flat_map}
use Rattle.std.proofs.lemmas.List.{append_cancel_left}
use Rattle.graph_model.specs.Graph.{Graph, entity_of, lists}
use Rattle.graph_model.specs.Served.{IsKept, Served, Storage}
use Rattle.graph_model.specs.declared.ask.Ask.TheVariants as asks
use Rattle.graph_model.specs.declared.ask.Reply.{Reply}
use Rattle.graph_model.specs.declared.entity.Entity.{Entity}
use Rattle.session_model.specs.Answer.{State, Turn, export_turn}
use Rattle.session_model.specs.Instances.{Instance, Instances, instance_at}
use Rattle.session_model.proofs.Allowing.{exported_is_kept}
use Rattle.session_lines.specs.declared.exporting.ExportStep.TheVariants as steps
use Rattle.session_lines.specs.declared.exporting.Stage.{Stage}
use Rattle.session_lines.specs.declared.exporting.Stage.TheVariants as stages
use Rattle.session_lines.specs.declared.memory.Memory.{Memory}
use Rattle.session_lines.specs.declared.outcome.Phase.TheVariants as phases
use Rattle.session_lines.specs.Due.{Answers, Awaits, Replied}
use Rattle.session_lines.specs.ExportEnds.{IsRestBehind}
use Rattle.session_lines.specs.Exports.{Exported, IsExporting, IsExportStep, IsGiven, IsTelling, IsTellingFor, TellsLine, due, line_at, reached_from_root}
use Rattle.session_lines.specs.Stands.{IsAtState}
use Rattle.session_lines.proofs.Asks.{stands_same}
use Rattle.session_lines.proofs.ExportSteps.{in_stage}

-- once the script has begun, the graph has the root where the root's object is saved
pub root_is_saved : (memory : Memory) (storage : Storage) (state : State) (i : Instance) → IsAtState memory storage state → Some i ≡ instance_at memory.registry.instances 1 → i.saved ≡ lists state.graph 1
root_is_saved memory storage state i at here = sym (at.stands.sound.each 1 i (ap (λ (hs : Instances). instance_at hs 1) (sym at.stands.instances) ∙ sym here)).saved

pub root_is_here : (memory : Memory) (storage : Storage) (state : State) → IsAtState memory storage state → state.started ≡ true → None ≡ instance_at memory.registry.instances 1 → ⊥
root_is_here memory storage state at started none =
    let there = at.stands.sound.root started in
    let never : None ≡ Some there.0 = none ∙ (ap (λ (hs : Instances). instance_at hs 1) at.stands.instances ∙ there.1) in
    cc

-- what was told is the front of the whole answer
rest_is : (state : State) (text : List ℕ) (p : Exported) → IsExporting state text p → (rest : List ℕ) × (text ++ rest ≡ (export_turn state).text)
rest_is state text p e = by p.stage refl
  where
    last : List ℕ
    last = (codes "end " ++ decimal (length (reached_from_root state))) ++ 10 ∷ []

    by : (s : Stage) → p.stage ≡ s → (rest : List ℕ) × (text ++ rest ≡ (export_turn state).text)
    by stages.Walking is = ((export_turn state).text, ap (λ (t : List ℕ). t ++ (export_turn state).text) (in_stage stages.Walking state text p is e).0)
    by stages.Telling is = let t : IsTelling state text p = in_stage stages.Telling state text p is e in
        (flat_map (line_at state) (due p.asked ++ p.left) ++ last, sym (append_assoc text (flat_map (line_at state) (due p.asked ++ p.left)) last) ∙ ap (λ (l : List ℕ). l ++ last) t.told)

telling_for : (text : List ℕ) (state : State) (memory : Memory) (storage : Storage) (turn : Turn) (p : Exported) → IsRestBehind text state memory storage turn → IsExporting state text p → IsTellingFor p memory storage turn
telling_for text state memory storage turn p r e = record {
  state = state;
  stands = r.stands;
  text = text;
  exporting = e;
  told = r.told;
  records = r.records;
  stores = r.stores;
  housekeeping = r.housekeeping;
  state_is = r.state_is;
}

-- an entity that is asked for is told next
pub looks_awaits : (is_next_type : List (List ℕ) → List ℕ → Bool) (text : List ℕ) (state : State) (memory : Memory) (storage : Storage) (turn : Turn) (p : Exported) (id : ℕ) → IsRestBehind text state memory storage turn
    → IsExportStep state text p (steps.Look id) → Awaits is_next_type (asks.Look id) (phases.Exporting p) memory storage turn
looks_awaits is_next_type text state memory storage turn p id r step = record {
  may = subst (λ (g : Graph). IsKept g storage.held id) (sym r.stands.stands.graph) (exported_is_kept state.graph storage.held id step.1);
  due = tt;
  suits = step.0;
  then_ = replied;
}
  where
    found : (new : Storage) (entity : Entity) → new.graph ≡ storage.graph → entity_of storage.graph id ≡ Some entity → IsGiven new.graph p (Some entity)
    found new entity same there x asked =
        let is : id ≡ x = (let a = sym step.0 ∙ asked in cc) in
        ap (λ (g : Graph). entity_of g x) same ∙ (ap (λ (y : ℕ). entity_of storage.graph y) (sym is) ∙ there)

    replied : (reply : Reply) (new : Storage) → Served storage (asks.Look id) reply new → Replied (phases.Exporting p) reply memory new turn
    replied reply new served = subst (λ (q : Reply). Replied (phases.Exporting p) q memory new turn) (sym served.reply_is) (record {
      telling = telling_for text state memory new turn p (record { stands = stands_same memory storage new state r.stands served.same; told = r.told; records = r.records; stores = r.stores; housekeeping = r.housekeeping; state_is = r.state_is }) step.2;
      given = found new served.entity served.same.others.graph served.found;
      asked = ap is_some step.0;
    })

-- a line is due next
pub line_tells : (text : List ℕ) (state : State) (memory : Memory) (storage : Storage) (turn : Turn) (p : Exported) (bytes : List ℕ) → IsRestBehind text state memory storage turn
    → IsExportStep state text p (steps.Line bytes) → TellsLine bytes p memory storage turn
line_tells text state memory storage turn p bytes r step = record {
  rest = rest.0;
  text = append_cancel_left text turn.text (bytes ++ rest.0) (r.told ∙ (sym rest.1 ∙ append_assoc text bytes rest.0));
  is_line = step.1;
  telling = telling_for (text ++ bytes) state memory storage (record turn { text = rest.0 }) p (record { stands = r.stands; told = rest.1; records = r.records; stores = r.stores; housekeeping = r.housekeeping; state_is = r.state_is }) step.2;
  asked = step.0;
}
  where
    rest : (rest : List ℕ) × ((text ++ bytes) ++ rest ≡ (export_turn state).text)
    rest = rest_is state (text ++ bytes) p step.2

-- the last line is all that is due
pub end_answers : (text : List ℕ) (state : State) (memory : Memory) (storage : Storage) (turn : Turn) (p : Exported) (bytes : List ℕ) → IsRestBehind text state memory storage turn
    → IsExportStep state text p (steps.End bytes) → Answers bytes memory storage turn
end_answers text state memory storage turn p bytes r step = record {
  text_is = append_cancel_left text turn.text bytes (r.told ∙ sym step.1);
  line = step.0;
  records = r.records;
  stores = r.stores;
  housekeeping = r.housekeeping;
  stands = subst (λ (s : State). IsAtState memory storage s) (sym r.state_is) r.stands;
}

-- ---- where an export goes on

pub rest_of_telling : (p : Exported) (memory : Memory) (storage : Storage) (turn : Turn) → (t : IsTellingFor p memory storage turn) → IsRestBehind t.text t.state memory storage turn
rest_of_telling p memory storage turn t = record { stands = t.stands; told = t.told; records = t.records; stores = t.stores; housekeeping = t.housekeeping; state_is = t.state_is }

-- at first nothing was told
pub rest_at_first : (memory : Memory) (storage : Storage) (state : State) → IsAtState memory storage state → IsRestBehind [] state memory storage (export_turn state)
rest_at_first memory storage state at = record { stands = at; told = refl; records = refl; stores = refl; housekeeping = refl; state_is = refl }
