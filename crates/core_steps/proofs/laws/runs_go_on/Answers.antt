-- Each clause is a lemma.
use Rattle.core_steps.proofs.Actors.{no_steps, run_more, run_then}
use Rattle.core_steps.proofs.laws.runs_go_on.Goals as goal
use Rattle.std.proofs.Common.{Some}

pub returns-clause-step : goal.returns-clause-step
returns-clause-step c b ss d s e = run_then (Some b) ss s d e

pub returns-clause-actor : goal.returns-clause-actor
returns-clause-actor c = run_more

pub returns-clause-unused : goal.returns-clause-unused
returns-clause-unused c = no_steps
