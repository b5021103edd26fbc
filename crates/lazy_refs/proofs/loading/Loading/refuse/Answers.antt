use Rattle.std.proofs.Common.{refl, ◌∙◌}
use Rattle.object_registry.proofs.Numbers.{insert_key-new}
use Rattle.lazy_refs.proofs.Turning.{takes_from, takes_refused}
use Rattle.lazy_refs.proofs.loading.Loading.refuse.Goals as goal

pub returns-clause-takes : goal.returns-clause-takes
returns-clause-takes c = λ instances. takes_from instances _ _ _ _ c.self.view_is (takes_refused instances c.args.reason _ _ refl
    (λ new. c.in_ok-insert.ensures.keys ∙ insert_key-new c.self.inside.asked c.self.inside.done.keys new) refl refl c.lesser-self-inside.ensures)
