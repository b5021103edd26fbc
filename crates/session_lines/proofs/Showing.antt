-- The line `show`.
use Rattle.std.proofs.Common.{◌≡◌, ℕ, true, not, List, [], ◌∷◌, ◌++◌, Option, None, ap, ◌∙◌, sym, length}
use Rattle.std.specs.Prelude.{codes, unwrap_or}
use Rattle.std.proofs.lemmas.List.{length-map}
use Rattle.type_desc.specs.declared.desc.Kind.{Kind}
use Rattle.type_desc.specs.declared.desc.Member.{Member}
use Rattle.type_desc.specs.declared.desc.TypeDesc.{TypeDesc}
use Rattle.type_dictionary.specs.Latest.{desc_of}
use Rattle.entity_form.specs.Values.{kind_of}
use Rattle.graph_export.specs.Line.{line}
use Rattle.graph_export.proofs.Feedless.{line_no_feed}
use Rattle.graph_model.specs.Served.{Storage}
use Rattle.session_model.specs.Instances.{Instance}
use Rattle.session_model.specs.Answer.{State, answered, desc_of_instance, id_of, is_bound, named_instance, no_desc, no_name, show_turn}
use Rattle.session_lines.specs.declared.memory.Memory.{Memory}
use Rattle.session_lines.specs.declared.refusal.Refusal.TheVariants.{NoName}
use Rattle.session_lines.specs.Due.{Answers}
use Rattle.session_lines.specs.Places.{IsBoundTo, instance_named}
use Rattle.session_lines.specs.Shown.{IsDescOf, LacksDesc}
use Rattle.session_lines.specs.Stands.{Stands, IsAtState}
use Rattle.session_lines.proofs.Found.{Names, names_it, names_none}
use Rattle.session_lines.proofs.Judged.{judged_first, judged_next}
use Rattle.session_lines.proofs.Lines.{refused_no_feed}
use Rattle.session_lines.proofs.Told.{answers_turn}

pub shown_answers : (memory : Memory) (storage : Storage) (state : State) (name text : List ℕ) (id : ℕ) (i : Instance) (desc : TypeDesc) → IsAtState memory storage state
    → IsBoundTo memory.registry name id i → IsDescOf memory.types i desc → text ≡ line id i.object desc ++ 10 ∷ [] → Answers text memory storage (show_turn state name)
shown_answers memory storage state name text id i desc at named is told = answers_turn (line id i.object desc) text memory storage state (show_turn state name) (line_no_feed id i.object desc) told shown at
  where
    names : Names state name id i
    names = names_it memory storage state name id i at.stands named

    known : desc_of_instance state i ≡ desc
    known = ap (λ (types : List TypeDesc). unwrap_or (desc_of types i.object.type_id) no_desc) (sym at.stands.types) ∙ ap (λ (o : Option TypeDesc). unwrap_or o no_desc) is.known

    shown : show_turn state name ≡ answered state (line id i.object desc)
    shown = judged_next state (no_name (not (is_bound state name))) [] (answered state (line (id_of state name) (named_instance state name).object (desc_of_instance state (named_instance state name)))) (ap not names.bound)
        ∙ (ap (λ (x : ℕ). answered state (line x (named_instance state name).object (desc_of_instance state (named_instance state name)))) names.id_is
        ∙ (ap (λ (j : Instance). answered state (line id j.object (desc_of_instance state j))) names.instance_is
        ∙ ap (λ (d : TypeDesc). answered state (line id i.object d)) known))

-- each object of a script has a description
pub has_desc : (memory : Memory) (storage : Storage) (state : State) (name : List ℕ) (id : ℕ) (i : Instance) → Stands memory storage state → IsBoundTo memory.registry name id i → LacksDesc memory.types i → ⊥
has_desc memory storage state name id i s named lacks =
    let right = s.sound.each id i (names_it memory storage state name id i s named).here in
    lacks right.desc (record {
      known = ap (λ (types : List TypeDesc). desc_of types i.object.type_id) s.types ∙ right.known;
      as_many = sym (length-map right.desc.members (λ (m : Member). m.kind)) ∙ (ap (λ (ks : List Kind). length ks) (sym right.kinds) ∙ length-map i.object.values kind_of);
    })

-- a name that is not bound is refused
pub show_unbound : (text : List ℕ) (memory : Memory) (storage : Storage) (state : State) (name : List ℕ) → IsAtState memory storage state → state.started ≡ true → instance_named memory.registry name ≡ None
    → text ≡ codes "refused no-name" ++ 10 ∷ [] → Answers text memory storage (show_turn state name)
show_unbound text memory storage state name at started none told = answers_turn (codes "refused no-name") text memory storage state (show_turn state name) (refused_no_feed NoName) told
    (judged_first state (no_name (not (is_bound state name))) [] (answered state (line (id_of state name) (named_instance state name).object (desc_of_instance state (named_instance state name)))) (ap not (names_none memory storage state name at.stands started none))) at
