-- The clause is a lemma.
use Rattle.session_model.proofs.Asking.{ask_stays_allowed}
use Rattle.session_model.proofs.laws.asks_see_sets.Goals as goal

pub returns : goal.returns
returns c = record { allowed = ask_stays_allowed }
