use Rattle.std.proofs.Common.{◌∙◌}
use Rattle.session.proofs.ExportAsks.{root_is_here, root_is_saved}
use Rattle.session.proofs.export_line.has_root.Goals as goal

pub returns-in-Some : goal.returns-in-Some
returns-in-Some c = λ storage state at started. c.is_saved.ensures ∙ root_is_saved c.args.memory.now storage state c.in-Some.root.now at c.in-Some.ensures.found

pub returns-in-None : goal.returns-in-None
returns-in-None c = λ storage state at started. absurd (root_is_here c.args.memory.now storage state at started c.in-None.ensures.found)
