-- Each clause is a lemma.
use Rattle.session_model.proofs.Staying.{next_never_falls}
use Rattle.session_model.proofs.Turning.{turn_next}
use Rattle.session_model.proofs.laws.next_ids_never_fall.Goals as goal

pub returns-clause-command : goal.returns-clause-command
returns-clause-command c = next_never_falls

pub returns-clause-turn : goal.returns-clause-turn
returns-clause-turn c = turn_next
