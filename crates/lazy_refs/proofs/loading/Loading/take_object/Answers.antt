use Rattle.lazy_refs.specs.Mappings.{seen}
use Rattle.lazy_refs.proofs.Turning.{if_ok, turns_as_far}
use Rattle.lazy_refs.proofs.loading.Loading.take_object.Goals as goal

pub returns-in-Ok-clause-step : goal.returns-in-Ok-clause-step
returns-in-Ok-clause-step c = if_ok _ _ c.turn.result (λ step t. record {
  outcome = c.in-Ok.outcome;
  becomes = c.in-Ok.ensures.outcome;
  turns = turns_as_far c.args.registry.now.instances (seen c.in-Ok.outcome) c.args.self.now c.convert.new.self c.turn.new.self step c.in-Ok.ensures.progress t;
}) c.turn.ensures.step
