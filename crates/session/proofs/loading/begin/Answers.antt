use Rattle.std.proofs.Common.{◌∙◌, refl, subst, sym}
use Rattle.std.proofs.lemmas.Result.{IfOk-weaker}
use Rattle.lazy_refs.specs.Advances.{IsUndone}
use Rattle.session.proofs.LoadCounts.{if_within, steps_within, whole_first}
use Rattle.session.proofs.LoadTurns.{takes_first}
use Rattle.session.proofs.SteadySteps.{none_broken_first}
use Rattle.session.proofs.loading.begin.Goals as goal

pub next-requires : goal.next-requires
next-requires c = record { mappings = c.start-loading.ensures.mappings _ _; typed = c.start-loading.ensures.typed _ }

pub take_step-requires-clause-steady : goal.take_step-requires-clause-steady
take_step-requires-clause-steady c = record {
  mappings = c.in_ok-step.ensures.mappings;
  typed = c.in_ok-step.ensures.typed;
  asks = c.in_ok-step.ensures.asks;
  undone = c.in_ok-step.ensures.undone (subst IsUndone (sym c.start-loading.ensures.begun) refl);
  steady = c.requires.steady;
}

pub returns-clause-whole : goal.returns-clause-whole
returns-clause-whole c = IfOk-weaker c.take_step.result _ _ (λ outcome is. is ∙ none_broken_first c.args.memory.now.types c.start-loading.result c.in_ok-step.step c.in_ok-step.ensures.broken) c.take_step.ensures.broken

pub returns-clause-meets : goal.returns-clause-meets
returns-clause-meets c = λ is_next_type storage state due at loads. c.take_step.ensures.meets is_next_type storage due
    (takes_first c.args.memory.now storage state due c.args.purpose c.args.id c.next.new.self c.in_ok-step.step at loads
    (c.in_ok-step.ensures.step state.graph c.args.id (c.start-loading.ensures.loading _ _ _ state.graph at.stands.sound.graph.order) tt)
    (whole_first c.args.memory.now.types c.start-loading.result c.in_ok-step.step c.in_ok-step.ensures.broken) c.in_ok-step.ensures.mappings)

pub returns-clause-few : goal.returns-clause-few
returns-clause-few c = λ g. if_within c.take_step.result g _ _ (steps_within c.in_ok-step.step c.next.new.self c.args.purpose g) (c.take_step.ensures.steps g)
