-- Each clause is a lemma.
use Rattle.session_model.proofs.Allowing.{exported_is_kept, kept_count}
use Rattle.session_model.proofs.laws.counts_are_exact.Goals as goal

pub returns-clause-collect : goal.returns-clause-collect
returns-clause-collect c = kept_count

pub returns-clause-export : goal.returns-clause-export
returns-clause-export c = exported_is_kept
