use Rattle.core_machine.proofs.StepCalls.{call_goes_on}
use Rattle.core_machine.proofs.machine.step.Goals as goal

pub returns-clause-good : goal.returns-clause-good
returns-clause-good c =
    (call_goes_on c.args.core.now c.step_shard.new.core c.args.wanted.now c.step_shard.result c.requires.good c.step_shard.ensures.yes c.step_shard.ensures.stays c.step_shard.ensures.err).good

pub returns-clause-channels : goal.returns-clause-channels
returns-clause-channels c =
    (call_goes_on c.args.core.now c.step_shard.new.core c.args.wanted.now c.step_shard.result c.requires.good c.step_shard.ensures.yes c.step_shard.ensures.stays c.step_shard.ensures.err).channels

pub returns-clause-actors : goal.returns-clause-actors
returns-clause-actors c =
    (call_goes_on c.args.core.now c.step_shard.new.core c.args.wanted.now c.step_shard.result c.requires.good c.step_shard.ensures.yes c.step_shard.ensures.stays c.step_shard.ensures.err).actors
