use Rattle.session_lines.proofs.Changed.{apply_answers}
use Rattle.session_lines.proofs.KnownObjects.{known_changed}
use Rattle.session_lines.proofs.Told.{says_refusal}
use Rattle.session_lines.proofs.changing.apply.Goals as goal

pub returns-in-Err-clause-says : goal.returns-in-Err-clause-says
returns-in-Err-clause-says c = λ storage state turn stands is sound. says_refusal c.in-Err.stop c.args.memory.now storage state turn stands (rw c.in-Err.is at is)

pub returns-in_ok-line-in-Ok-clause-says : goal.returns-in_ok-line-in-Ok-clause-says
returns-in_ok-line-in-Ok-clause-says c = λ storage state turn stands is sound.
    apply_answers c.args.memory.now c.make_change.new.registry _ c.in-Ok.change storage state turn stands (rw c.in-Ok.is at is) sound c.in_ok-make_change-in-Ok.ensures.ok c.make_change.ensures.names c.in_ok-line-in-Ok.ensures

pub returns-in_err-line-in-Ok-clause-known : goal.returns-in_err-line-in-Ok-clause-known
returns-in_err-line-in-Ok-clause-known c =
    known_changed c.args.memory.now.types c.args.memory.now.registry c.in-Ok.change c.make_change.new.registry.instances (rw c.in-Ok.is at c.requires) c.in_ok-make_change-in-Ok.ensures.ok

pub returns-in_ok-line-in-Ok-clause-known : goal.returns-in_ok-line-in-Ok-clause-known
returns-in_ok-line-in-Ok-clause-known c =
    known_changed c.args.memory.now.types c.args.memory.now.registry c.in-Ok.change c.make_change.new.registry.instances (rw c.in-Ok.is at c.requires) c.in_ok-make_change-in-Ok.ensures.ok
