use Rattle.std.proofs.Common.{subst}
use Rattle.session_lines.specs.Due.{Replied}
use Rattle.session_lines.specs.declared.outcome.Phase.{Phase}
use Rattle.session.proofs.taking.take_reply.Goals as goal

pub returns-in-Storing-clause-steady : goal.returns-in-Storing-clause-steady
returns-in-Storing-clause-steady c = c.take_stored.ensures.steady c.args.memory.now

pub returns-in-Collecting-clause-steady : goal.returns-in-Collecting-clause-steady
returns-in-Collecting-clause-steady c = c.take_count.ensures.steady c.args.memory.now

pub returns-in-Looking-clause-meets : goal.returns-in-Looking-clause-meets
returns-in-Looking-clause-meets c = λ is_next_type storage due admits replied.
    c.take_loaded.ensures.meets is_next_type storage due (subst (λ (p : Phase). Replied p c.args.reply c.args.memory.now storage due) c.in-Looking.is replied)
