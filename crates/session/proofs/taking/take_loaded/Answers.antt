use Rattle.std.proofs.Common.{subst}
use Rattle.graph_model.specs.declared.ask.Reply.{Reply}
use Rattle.session_lines.specs.Due.{Replied}
use Rattle.session_lines.specs.declared.outcome.Phase.TheVariants as phases
use Rattle.session.proofs.taking.take_loaded.Goals as goal

pub returns-clause-meets : goal.returns-clause-meets
returns-clause-meets c = λ is_next_type storage due replied.
    c.load_on.ensures.meets is_next_type storage due (subst (λ (r : Reply). Replied (phases.Looking c.args.loading c.args.purpose) r c.args.memory.now storage due) c.in-Found.is replied)
