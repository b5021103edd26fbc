use Rattle.std.proofs.Common.{subst}
use Rattle.session_lines.specs.Steady.{IsSteadyOutcome}
use Rattle.session_lines.specs.declared.outcome.Outcome.TheVariants as outcomes
use Rattle.session.proofs.SteadySteps.{looks_up, takes_reply}
use Rattle.session.proofs.session.behind.Goals as goal

pub returns-in-Ask-clause-fits : goal.returns-in-Ask-clause-fits
returns-in-Ask-clause-fits c = λ memory steady reply is.
    let s : IsSteadyOutcome memory (outcomes.Ask c.in-Ask.ask c.in-Ask.phase) = subst (IsSteadyOutcome memory) c.in-Ask.is steady in
    takes_reply c.in-Ask.ask c.in-Ask.phase reply s.0 is

pub returns-in-Ask-clause-asks : goal.returns-in-Ask-clause-asks
returns-in-Ask-clause-asks c = λ memory steady.
    let s : IsSteadyOutcome memory (outcomes.Ask c.in-Ask.ask c.in-Ask.phase) = subst (IsSteadyOutcome memory) c.in-Ask.is steady in
    looks_up memory c.in-Ask.ask c.in-Ask.phase s.0 s.1
