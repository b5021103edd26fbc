-- Each clause is a lemma at what one of the storers gathers.
use Rattle.session_model.specs.Instances.{gathered_lazily, gathered_eagerly}
use Rattle.session_model.proofs.Gathering.{lazily, eagerly, gathered_is_valid, gathered_is_some}
use Rattle.session_model.proofs.laws.stores_are_valid.Goals as goal

pub returns-clause-lazily : goal.returns-clause-lazily
returns-clause-lazily c = λ state x most next sound small bound after.
    gathered_is_valid state sound x (gathered_lazily state.instances x) (lazily state.instances x) most next small bound after

pub returns-clause-eagerly : goal.returns-clause-eagerly
returns-clause-eagerly c = λ state x most next sound small bound after.
    gathered_is_valid state sound x (gathered_eagerly state.instances x) (eagerly state.instances x) most next small bound after

pub returns-clause-lazily_some : goal.returns-clause-lazily_some
returns-clause-lazily_some c = λ hs x here. gathered_is_some hs x (gathered_lazily hs x) (lazily hs x) here

pub returns-clause-eagerly_some : goal.returns-clause-eagerly_some
returns-clause-eagerly_some c = λ hs x here. gathered_is_some hs x (gathered_eagerly hs x) (eagerly hs x) here
