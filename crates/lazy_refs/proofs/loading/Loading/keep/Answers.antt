use Rattle.std.proofs.lemmas.Result.{on_ok_weaker}
use Rattle.lazy_refs.proofs.loading.Loading.keep.Goals as goal

pub returns-in-NoType-clause-takes : goal.returns-in-NoType-clause-takes
returns-in-NoType-clause-takes c = on_ok_weaker c.refuse.result (λ t. rw c.in-NoType.is (t c.args.registry.now.instances)) c.refuse.ensures.takes

pub returns-in-WrongKind-clause-takes : goal.returns-in-WrongKind-clause-takes
returns-in-WrongKind-clause-takes c = on_ok_weaker c.refuse-in-WrongKind.result (λ t. rw c.in-WrongKind.is (t c.args.registry.now.instances)) c.refuse-in-WrongKind.ensures.takes
