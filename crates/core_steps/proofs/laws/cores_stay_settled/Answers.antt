-- Each clause is a lemma.
use Rattle.core_steps.proofs.Settled.{settled_actor, settled_own, settled_step}
use Rattle.core_steps.proofs.laws.cores_stay_settled.Goals as goal

pub returns-clause-own : goal.returns-clause-own
returns-clause-own c = settled_own

pub returns-clause-step : goal.returns-clause-step
returns-clause-step c = settled_step

pub returns-clause-actor : goal.returns-clause-actor
returns-clause-actor c = settled_actor
