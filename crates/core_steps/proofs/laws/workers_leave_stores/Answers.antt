-- Each clause is a lemma.
use Rattle.core_steps.proofs.Quiet.{worker_quiet}
use Rattle.core_steps.proofs.Workers.{book_worker, permits_worker, pins_worker, place_worker}
use Rattle.core_steps.proofs.laws.workers_leave_stores.Goals as goal

pub returns-clause-permits : goal.returns-clause-permits
returns-clause-permits c = permits_worker

pub returns-clause-place : goal.returns-clause-place
returns-clause-place c = place_worker

pub returns-clause-book : goal.returns-clause-book
returns-clause-book c = book_worker

pub returns-clause-pins : goal.returns-clause-pins
returns-clause-pins c = pins_worker

pub returns-clause-quiet : goal.returns-clause-quiet
returns-clause-quiet c = worker_quiet
