-- Each clause is a lemma.
use Rattle.core_steps.proofs.Exact.{holds_run, quiet_cycle}
use Rattle.core_steps.proofs.Settled.{tables_exact}
use Rattle.core_steps.proofs.laws.quiet_cycles_leave_the_reached.Goals as goal

pub returns-clause-cycle : goal.returns-clause-cycle
returns-clause-cycle c = quiet_cycle

pub returns-clause-settled : goal.returns-clause-settled
returns-clause-settled c = tables_exact

pub returns-clause-stays : goal.returns-clause-stays
returns-clause-stays c = holds_run
