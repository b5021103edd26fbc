-- Each clause is a lemma.
use Rattle.session_model.proofs.Reached.{reached-rises, reached-walks, walks-reached}
use Rattle.session_model.proofs.laws.walks_are_exact.Goals as goal

pub returns-clause-exact : goal.returns-clause-exact
returns-clause-exact c = λ g starts x. (reached-walks g starts x, walks-reached g starts x)

pub returns-clause-order : goal.returns-clause-order
returns-clause-order c = reached-rises
