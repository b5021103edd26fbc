use Rattle.std.proofs.lemmas.Result.{IfOk-weaker}
use Rattle.session.proofs.LoadAsks.{failure_met, is_failed}
use Rattle.session.proofs.LoadCounts.{failure_steps}
use Rattle.session.proofs.SteadySteps.{failure_broken, failure_steady}
use Rattle.session.proofs.loading.end.Goals as goal

pub hold-requires-clause-typed : goal.hold-requires-clause-typed
hold-requires-clause-typed c = rw c.in-Ready.is at c.requires.typed

pub returns-in-Ready-clause-broken : goal.returns-in-Ready-clause-broken
returns-in-Ready-clause-broken c = rw c.in-Ready.is c.hold.ensures.whole

pub returns-in-Ready-clause-meets : goal.returns-in-Ready-clause-meets
returns-in-Ready-clause-meets c = λ is_next_type storage due ends. let e = rw c.in-Ready.is at ends in c.hold.ensures.meets is_next_type storage due (record { loaded_for = e.loaded_for; ready = e.end_is })

pub returns-in-Ready-clause-steps : goal.returns-in-Ready-clause-steps
returns-in-Ready-clause-steps c = λ g. rw c.in-Ready.is (c.hold.ensures.steps g)

pub refuse-requires : goal.refuse-requires
refuse-requires c = is_failed c.args.step c.requires.last c.in_default.not-Ready

pub returns-in_default-clause-known : goal.returns-in_default-clause-known
returns-in_default-clause-known c = IfOk-weaker c.refuse.result _ _ (λ outcome is. c.requires.known) c.refuse.ensures

pub returns-in_default-clause-steady : goal.returns-in_default-clause-steady
returns-in_default-clause-steady c = IfOk-weaker c.refuse.result _ _ (λ outcome is. failure_steady c.args.memory.now c.args.step outcome is) c.refuse.ensures

pub returns-in_default-clause-broken : goal.returns-in_default-clause-broken
returns-in_default-clause-broken c = IfOk-weaker c.refuse.result _ _ (λ outcome is. failure_broken c.args.step outcome is) c.refuse.ensures

pub returns-in_default-clause-meets : goal.returns-in_default-clause-meets
returns-in_default-clause-meets c = λ is_next_type storage due ends.
    IfOk-weaker c.refuse.result _ _ (λ outcome is. failure_met is_next_type c.args.purpose c.args.step outcome c.args.memory.now storage due ends is) c.refuse.ensures

pub returns-in_default-clause-steps : goal.returns-in_default-clause-steps
returns-in_default-clause-steps c = λ g. IfOk-weaker c.refuse.result _ _ (λ outcome is. failure_steps c.args.step c.args.purpose g outcome is) c.refuse.ensures
