use Rattle.std.proofs.Common.{refl, sym, ◌∙◌}
use Rattle.session_lines.proofs.Named.{drop_reserved, drop_unbound, dropped_answers}
use Rattle.session_lines.proofs.naming.unbind.Goals as goal

pub returns-then-is_root_name-clause-says : goal.returns-then-is_root_name-clause-says
returns-then-is_root_name-clause-says c = λ storage state stands. drop_reserved _ c.args.memory.now storage state c.args.name.now stands (sym c.is_root_name.ensures ∙ c.if-is_root_name.true) refl

pub returns-in-None-clause-says : goal.returns-in-None-clause-says
returns-in-None-clause-says c = λ storage state stands. drop_unbound _ c.args.memory.now storage state c.args.name.now stands (sym c.is_root_name.ensures ∙ c.if-is_root_name.false) (sym c.in-None.ensures.found) refl

pub returns-in_ok-line-in-Some-clause-says : goal.returns-in_ok-line-in-Some-clause-says
returns-in_ok-line-in-Some-clause-says c = λ storage state stands. dropped_answers c.args.memory.now c.unbind.new.self _ c.args.name.now storage state stands (sym c.is_root_name.ensures ∙ c.if-is_root_name.false)
    _ (sym c.in-Some.ensures.found) c.unbind.ensures.names c.unbind.ensures.instances c.in_ok-line-in-Some.ensures
