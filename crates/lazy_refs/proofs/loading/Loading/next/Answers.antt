use Rattle.std.proofs.Common.{subst}
use Rattle.std.specs.Prelude.{Option}
use Rattle.graph_model.specs.declared.entity.Entity.{Entity}
use Rattle.lazy_refs.specs.Steps.{IsGiven}
use Rattle.lazy_refs.proofs.Advancing.{asked_next, done_next, undone_next}
use Rattle.lazy_refs.proofs.Ending.{stepped}
use Rattle.lazy_refs.proofs.Shapes.{broken_at_asked}
use Rattle.lazy_refs.proofs.Turning.{if_ok}
use Rattle.lazy_refs.proofs.Typing.{typed_step}
use Rattle.lazy_refs.proofs.loading.Loading.next.Goals as goal

pub returns-in-Some-clause-step : goal.returns-in-Some-clause-step
returns-in-Some-clause-step c = λ g start loading given.
    let at = subst (λ (o : Option Entity). IsGiven g c.args.self.now o) c.in-Some.is given in
    if_ok _ _ c.take.result (λ step t. stepped c.args.types.now c.args.table.now c.args.registry.now.instances g start c.in-Some.entity c.args.self.now c.take.new.self step loading at t) c.take.ensures.step

pub returns-in-Some-clause-done : goal.returns-in-Some-clause-done
returns-in-Some-clause-done c = rw c.in-Some.is
    (if_ok _ _ c.take.result (λ step t. done_next c.args.types.now c.args.table.now c.args.registry.now.instances c.in-Some.entity c.args.self.now c.take.new.self step t) c.take.ensures.step)

pub returns-in-Some-clause-asks : goal.returns-in-Some-clause-asks
returns-in-Some-clause-asks c =
    if_ok _ _ c.take.result (λ step t. asked_next c.args.types.now c.args.table.now c.args.registry.now.instances c.in-Some.entity c.args.self.now c.take.new.self step t) c.take.ensures.step

pub returns-in-Some-clause-typed : goal.returns-in-Some-clause-typed
returns-in-Some-clause-typed c = if_ok _ _ c.take.result
    (λ step t. typed_step c.args.types.now c.args.table.now c.args.registry.now.instances c.in-Some.entity c.args.self.now c.take.new.self step t c.requires.typed) c.take.ensures.step

pub returns-in-Some-clause-broken : goal.returns-in-Some-clause-broken
returns-in-Some-clause-broken c = rw c.in-Some.is
    (if_ok _ _ c.take.result (λ step t. broken_at_asked c.args.types.now c.args.table.now c.args.registry.now.instances c.in-Some.entity c.args.self.now c.take.new.self step t) c.take.ensures.step)

pub returns-in-Some-clause-undone : goal.returns-in-Some-clause-undone
returns-in-Some-clause-undone c = λ undone.
    if_ok _ _ c.take.result (λ step t. undone_next c.args.types.now c.args.table.now c.args.registry.now.instances c.in-Some.entity c.args.self.now c.take.new.self step t) c.take.ensures.step
