-- What is added is the one description that the text spells.
use Rattle.std.proofs.Common.{◌++◌, ◌∷◌, [], ap, ◌∙◌}
use Rattle.type_desc.specs.declared.desc.TypeDesc.{TypeDesc}
use Rattle.type_dictionary.proofs.RecordLists.{next_once}
use Rattle.type_dictionary.proofs.dictionary.Dictionary.add_record.Goals as goal

pub returns-clause-only : goal.returns-clause-only
returns-clause-only c = λ desc next.
    let same = next_once c.args.self.now c.args.text.now c.in_ok-desc.desc desc c.in_ok-desc.ensures.found next in
    c.in_ok-push.ensures.added ∙ ap (λ (d : TypeDesc). c.args.self.now ++ d ∷ []) same
