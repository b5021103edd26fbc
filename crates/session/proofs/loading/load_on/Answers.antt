use Rattle.std.proofs.Common.{Some, subst, sym}
use Rattle.std.proofs.lemmas.Result.{IfOk-weaker}
use Rattle.session_lines.specs.Broken.{IsBrokenAt, taken_for}
use Rattle.session.proofs.LoadCounts.{if_below, steps_fall}
use Rattle.session.proofs.LoadTurns.{entity_given, takes_next, walk_goes_on}
use Rattle.session.proofs.SteadySteps.{broken_next}
use Rattle.session.proofs.loading.load_on.Goals as goal

pub next-requires : goal.next-requires
next-requires c = record { mappings = c.requires.loading.mappings; typed = c.requires.loading.typed }

pub take_step-requires-clause-steady : goal.take_step-requires-clause-steady
take_step-requires-clause-steady c = record {
  mappings = c.in_ok-step.ensures.mappings;
  typed = c.in_ok-step.ensures.typed;
  asks = c.in_ok-step.ensures.asks;
  undone = c.in_ok-step.ensures.undone c.requires.loading.undone;
  steady = c.requires.purpose;
}

pub returns-clause-broken : goal.returns-clause-broken
returns-clause-broken c = IfOk-weaker c.take_step.result _ _ (λ outcome is. subst (IsBrokenAt c.args.memory.now.types (taken_for (Some c.args.loading.asked) (Some c.args.entity))) (sym is)
    (broken_next c.args.memory.now.types c.args.loading c.args.entity c.in_ok-step.step c.in_ok-step.ensures.broken)) c.take_step.ensures.broken

pub returns-clause-meets : goal.returns-clause-meets
returns-clause-meets c = λ is_next_type storage due t. c.take_step.ensures.meets is_next_type storage due
    (takes_next c.args.memory.now storage due c.args.purpose c.args.loading c.next.new.self c.args.entity c.in_ok-step.step t
    (c.in_ok-step.ensures.step t.loading_for.state.graph t.loading_for.start (walk_goes_on c.args.memory.now storage due c.args.purpose c.args.loading c.args.entity t)
    (entity_given c.args.memory.now storage due c.args.purpose c.args.loading c.args.entity t))
    c.in_ok-step.ensures.broken c.in_ok-step.ensures.mappings)

pub returns-clause-nearer : goal.returns-clause-nearer
returns-clause-nearer c = λ g there. if_below c.take_step.result g _ _
    (steps_fall c.args.purpose c.args.loading c.next.new.self c.args.entity c.in_ok-step.step g c.in_ok-step.ensures.done c.requires.loading.undone there)
    (c.take_step.ensures.steps g)
