use Rattle.std.proofs.Common.{◌∙◌, List, subst, ◌∷◌}
use Rattle.object_registry.specs.Bindings.{SameNames, binding}
use Rattle.session_model.specs.Answer.{Binding}
use Rattle.session_lines.proofs.KnownObjects.{made_known}
use Rattle.session_lines.proofs.Named.{made_answers}
use Rattle.session_lines.proofs.Told.{says_refusal}
use Rattle.session_lines.proofs.naming.put_object.Goals as goal

pub returns-in_ok-numbered_line-in-Ok-clause-says : goal.returns-in_ok-numbered_line-in-Ok-clause-says
returns-in_ok-numbered_line-in-Ok-clause-says c = λ storage state turn stands is sound.
    made_answers c.args.memory.now c.bind.new.registry _ c.args.name.now c.in-Ok.object storage state turn stands (rw c.in-Ok.is at is) sound
    (subst (λ (names : List Binding). SameNames c.bind.new.registry.names (binding c.args.name.now c.args.memory.now.next_id ∷ names)) c.put_new.ensures.names c.in_ok-bind-in-Ok.ensures.names)
    (c.bind.ensures.instances ∙ c.in_ok-put_new-in-Ok.ensures.ok) c.in_ok-numbered_line-in-Ok.ensures

pub returns-in-Err-clause-says : goal.returns-in-Err-clause-says
returns-in-Err-clause-says c = λ storage state turn stands is sound. says_refusal c.in-Err.stop c.args.memory.now storage state turn stands (rw c.in-Err.is at is)

pub returns-in_err-bind-in-Ok-clause-known : goal.returns-in_err-bind-in-Ok-clause-known
returns-in_err-bind-in-Ok-clause-known c =
    made_known c.args.memory.now.types c.args.memory.now.registry.instances c.bind.new.registry.instances c.args.memory.now.next_id c.in-Ok.object
    (c.bind.ensures.instances ∙ c.in_ok-put_new-in-Ok.ensures.ok) (rw c.in-Ok.is at c.requires.typed)

pub returns-in_err-numbered_line-in-Ok-clause-known : goal.returns-in_err-numbered_line-in-Ok-clause-known
returns-in_err-numbered_line-in-Ok-clause-known c =
    made_known c.args.memory.now.types c.args.memory.now.registry.instances c.bind.new.registry.instances c.args.memory.now.next_id c.in-Ok.object
    (c.bind.ensures.instances ∙ c.in_ok-put_new-in-Ok.ensures.ok) (rw c.in-Ok.is at c.requires.typed)

pub returns-in_ok-numbered_line-in-Ok-clause-known : goal.returns-in_ok-numbered_line-in-Ok-clause-known
returns-in_ok-numbered_line-in-Ok-clause-known c =
    made_known c.args.memory.now.types c.args.memory.now.registry.instances c.bind.new.registry.instances c.args.memory.now.next_id c.in-Ok.object
    (c.bind.ensures.instances ∙ c.in_ok-put_new-in-Ok.ensures.ok) (rw c.in-Ok.is at c.requires.typed)
