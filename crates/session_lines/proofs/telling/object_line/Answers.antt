use Rattle.std.proofs.Common.{refl}
use Rattle.session_lines.proofs.Showing.{has_desc, show_unbound}
use Rattle.session_lines.proofs.telling.object_line.Goals as goal

pub returns-in-None : goal.returns-in-None
returns-in-None c = λ storage state stands started. absurd (has_desc c.args.memory.now storage state c.args.name.now _ _ stands.stands c.in-Some.ensures c.in-None.ensures)

pub returns-in_default : goal.returns-in_default
returns-in_default c = λ storage state stands started. show_unbound _ c.args.memory.now storage state c.args.name.now stands started c.in_default.ensures refl
