use Rattle.std.proofs.Common.{◌∙◌}
use Rattle.session.proofs.SteadySteps.{none_broken_without}
use Rattle.session.proofs.export_line.export_behind.Goals as goal

pub returns-clause-steady : goal.returns-clause-steady
returns-clause-steady c = c.outcome_of_step.ensures.steady c.args.memory.now c.in_ok-step.ensures.asks

pub returns-clause-whole : goal.returns-clause-whole
returns-clause-whole c = c.outcome_of_step.ensures.broken ∙ none_broken_without c.args.memory.now.types _ _ c.in_ok-step.ensures.broken
