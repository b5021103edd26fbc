use Rattle.std.proofs.Common.{◌<◌, ℕ, Some, refl, subst, sym}
use Rattle.session_lines.specs.Broken.{IsBrokenAt, taken_for}
use Rattle.session_lines.specs.Steps.{export_steps}
use Rattle.session.proofs.SteadySteps.{some_small}
use Rattle.session.proofs.export_line.export_on.Goals as goal

pub returns-clause-steady : goal.returns-clause-steady
returns-clause-steady c = c.outcome_of_step.ensures.steady c.args.memory.now c.in_ok-step.ensures.asks

pub returns-clause-broken : goal.returns-clause-broken
returns-clause-broken c = subst (IsBrokenAt c.args.memory.now.types (taken_for c.args.export.asked (Some c.args.entity))) (sym c.outcome_of_step.ensures.broken) c.in_ok-step.ensures.broken

pub returns-clause-nearer : goal.returns-clause-nearer
returns-clause-nearer c = λ g listed. subst (λ (n : ℕ). n < export_steps c.args.export g) (sym (c.outcome_of_step.ensures.few g))
    (c.in_ok-step.ensures.nearer g (some_small c.args.export.asked c.requires) refl listed)
