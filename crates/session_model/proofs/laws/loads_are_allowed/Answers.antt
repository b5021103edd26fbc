-- Each clause is a lemma.
use Rattle.session_model.proofs.Allowing.{loaded_is_kept, loaded_may_be_held, loaded_names, named_to_load, root_to_load}
use Rattle.session_model.proofs.laws.loads_are_allowed.Goals as goal

pub returns-clause-kept : goal.returns-clause-kept
returns-clause-kept c = loaded_is_kept

pub returns-clause-held : goal.returns-clause-held
returns-clause-held c = loaded_may_be_held

pub returns-clause-names : goal.returns-clause-names
returns-clause-names c = loaded_names

pub returns-clause-root : goal.returns-clause-root
returns-clause-root c = root_to_load

pub returns-clause-named : goal.returns-clause-named
returns-clause-named c = named_to_load
