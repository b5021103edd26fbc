-- Each clause is a lemma.
use Rattle.session_model.proofs.Holding.{held_is_saved, held_kept, held_loaded, held_stored}
use Rattle.session_model.proofs.Staying.{most_hold_same}
use Rattle.session_model.proofs.laws.held_ids_follow.Goals as goal

pub returns-clause-exact : goal.returns-clause-exact
returns-clause-exact c = held_is_saved

pub returns-clause-stored : goal.returns-clause-stored
returns-clause-stored c = held_stored

pub returns-clause-loaded : goal.returns-clause-loaded
returns-clause-loaded c = held_loaded

pub returns-clause-forgotten : goal.returns-clause-forgotten
returns-clause-forgotten c = held_kept

pub returns-clause-others : goal.returns-clause-others
returns-clause-others c = most_hold_same
