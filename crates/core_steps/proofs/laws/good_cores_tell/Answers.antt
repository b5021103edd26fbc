-- Each clause is a lemma.
use Rattle.core_steps.proofs.Readers.{live_entity, holdable_marked, pending_bound, pinned_marked}
use Rattle.core_steps.proofs.laws.good_cores_tell.Goals as goal

pub returns-clause-pending : goal.returns-clause-pending
returns-clause-pending c = pending_bound

pub returns-clause-pinned : goal.returns-clause-pinned
returns-clause-pinned c = pinned_marked

pub returns-clause-may_hold : goal.returns-clause-may_hold
returns-clause-may_hold c = holdable_marked

pub returns-clause-live : goal.returns-clause-live
returns-clause-live c = live_entity
