use Rattle.session_lines.proofs.Named.{bound_answers}
use Rattle.session_lines.proofs.Told.{says_refusal}
use Rattle.session_lines.proofs.naming.bind_found.Goals as goal

pub returns-in_ok-line-in-Ok-clause-says : goal.returns-in_ok-line-in-Ok-clause-says
returns-in_ok-line-in-Ok-clause-says c = λ storage state turn stands is sound.
    bound_answers c.args.memory.now c.bind.new.registry _ c.args.name.now c.in-Ok.id storage state turn stands (rw c.in-Ok.is at is) sound c.in_ok-bind-in-Ok.ensures.names c.bind.ensures.instances c.in_ok-line-in-Ok.ensures

pub returns-in-Err-clause-says : goal.returns-in-Err-clause-says
returns-in-Err-clause-says c = λ storage state turn stands is sound. says_refusal c.in-Err.stop c.args.memory.now storage state turn stands (rw c.in-Err.is at is)
