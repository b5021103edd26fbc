use Rattle.std.proofs.Common.{◌∙◌, ◌<◌, ◌^◌, ℕ, arith, refl, subst, sym}
use Rattle.std.proofs.lemmas.Result.{IfOk-weaker}
use Rattle.lazy_refs.specs.declared.step.LoadStep.{LoadStep}
use Rattle.lazy_refs.specs.declared.step.LoadStep.TheVariants as steps
use Rattle.session_lines.specs.Steady.{IsSteadyStep}
use Rattle.session.proofs.LoadAsks.{ends_by, is_last, look_awaits}
use Rattle.session.proofs.LoadCounts.{last_are_steps}
use Rattle.session.proofs.SteadySteps.{typed_end}
use Rattle.session.proofs.loading.take_step.Goals as goal

pub returns-in-Want-clause-steady : goal.returns-in-Want-clause-steady
returns-in-Want-clause-steady c =
    let s : IsSteadyStep c.args.memory.now c.args.loading (steps.Want c.in-Want.id) c.args.purpose = subst (λ (step : LoadStep). IsSteadyStep c.args.memory.now c.args.loading step c.args.purpose) c.in-Want.is c.requires.steady in
    let small : c.in-Want.id < 2 ^ 64 = omega arith in
    (s.asks, (record { mappings = s.mappings; typed = s.typed; undone = s.undone; small = subst (λ (n : ℕ). n < 2 ^ 64) (sym s.asks) small }, s.steady))

pub returns-in-Want-clause-broken : goal.returns-in-Want-clause-broken
returns-in-Want-clause-broken c = rw c.in-Want.is refl

pub returns-in-Want-clause-meets : goal.returns-in-Want-clause-meets
returns-in-Want-clause-meets c = λ is_next_type storage due takes. look_awaits is_next_type c.args.purpose c.args.loading c.in-Want.id c.args.memory.now storage due (rw c.in-Want.is at takes)

pub returns-in-Want-clause-steps : goal.returns-in-Want-clause-steps
returns-in-Want-clause-steps c = λ g. rw c.in-Want.is refl

pub end-requires : goal.end-requires
end-requires c = record {
  last = is_last c.args.step c.in_default.not-Want;
  known = c.requires.known;
  typed = typed_end c.args.memory.now.types c.args.loading c.args.step c.requires.steady.typed;
  steady = c.requires.steady.steady;
}

pub returns-in_default-clause-meets : goal.returns-in_default-clause-meets
returns-in_default-clause-meets c = λ is_next_type storage due takes. c.end.ensures.meets is_next_type storage due
    (ends_by c.args.purpose c.args.loading c.args.step c.args.memory.now storage due (is_last c.args.step c.in_default.not-Want) takes)

pub returns-in_default-clause-steps : goal.returns-in_default-clause-steps
returns-in_default-clause-steps c = λ g. IfOk-weaker c.end.result _ _ (λ outcome is. is ∙ last_are_steps c.args.step c.args.loading c.args.purpose g (is_last c.args.step c.in_default.not-Want)) (c.end.ensures.steps g)
