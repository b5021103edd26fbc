-- Each clause is a lemma.
use Rattle.core_steps.proofs.Actors.{good_actor}
use Rattle.core_steps.proofs.GoodSteps.{good_run, good_step}
use Rattle.core_steps.proofs.Starts.{good_start}
use Rattle.core_steps.proofs.laws.cores_stay_good.Goals as goal

pub returns-clause-start : goal.returns-clause-start
returns-clause-start c = good_start

pub returns-clause-step : goal.returns-clause-step
returns-clause-step c = good_step

pub returns-clause-run : goal.returns-clause-run
returns-clause-run c = good_run

pub returns-clause-actor : goal.returns-clause-actor
returns-clause-actor c = good_actor
