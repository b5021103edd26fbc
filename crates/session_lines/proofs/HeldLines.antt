-- An exported entity is told as the line of the object whose values it holds, and it holds no other values.
use Rattle.std.proofs.Common.{◌≡◌, ℕ, List, [], ◌∷◌, ◌++◌, Some, Result, Ok, refl, sym, ◌∙◌}
use Rattle.graph_export.specs.Line.{line}
use Rattle.graph_model.specs.declared.entity.Record.{Record}
use Rattle.type_desc.specs.declared.desc.Kind.{Kind}
use Rattle.type_desc.specs.declared.desc.TypeDesc.{TypeDesc}
use Rattle.type_dictionary.specs.Latest.{desc_of}
use Rattle.entity_form.specs.Form.{Holds}
use Rattle.entity_form.specs.Values.{kinds_of}
use Rattle.entity_form.specs.declared.value.Object.{Object}
use Rattle.entity_form.specs.declared.value.Value.{Value}
use Rattle.entity_form.proofs.Forms.{holds_again}
use Rattle.session_model.specs.Answer.{State, exported}
use Rattle.session_lines.proofs.ExportLines.{told_line}

pub line_of_held : (state : State) (r : Record) (desc : TypeDesc) (object : Object) → desc_of state.types r.entity.type_id ≡ Some desc → object.type_id ≡ r.entity.type_id
    → Holds (kinds_of desc) r.entity.refs r.entity.plain object.values → exported state r ≡ line r.id object desc ++ 10 ∷ []
line_of_held state r desc object known of_type holds = sym (told_line state.types r.id r.entity desc object (line r.id object desc ++ 10 ∷ []) state known of_type holds refl refl)

pub held_once : (kinds : List Kind) (refs plain : List ℕ) (values others : List Value) → Holds kinds refs plain values → Holds kinds refs plain others → values ≡ others
held_once kinds refs plain values others a b =
    let same : ◌≡◌ {A = Result (List Value) ℕ} (Ok values) (Ok others) = sym (holds_again kinds 0 refs plain values a) ∙ holds_again kinds 0 refs plain others b in
    cc
