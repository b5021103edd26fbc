use Rattle.std.proofs.Common.{◌≡◌, sym, true, arith}
use Rattle.std.proofs.lemmas.Grind.{common_steps}
use Rattle.core_steps.specs.Core.{held}
use Rattle.core_steps.specs.Steps.{permits}
use Rattle.core_machine.proofs.StepCalls.{hand_credit, made_on_channel}
use Rattle.core_machine.proofs.machine.channel_made.Goals as goal

pub channel_step-requires-clause-credit : goal.channel_step-requires-clause-credit
channel_step-requires-clause-credit c =
    rw c.in_ok-pair.ensures.of_hand (hand_credit c.args.core.now c.args.wanted.now.actor c.in-Some-get.hand.now c.requires.good (sym c.in-Some-get.ensures))

pub returns : goal.returns
returns c =
    let core = c.args.core.now in
    let wanted = c.args.wanted.now in
    let may : permits core.book (held core.channels) wanted.actor wanted.event ≡ true = grind (arith, common_steps) in
    made_on_channel core wanted c.in-Some-get.hand.now (sym c.in-Some-get.ensures) may c.channel_step.result c.in-Some.channel.now c.in_ok-pair.pair.0 c.in_ok-pair.pair.1
    c.in_ok-place.place (sym c.in-Some.ensures) c.in_ok-place.ensures c.in_ok-pair.ensures.of_channel c.in_ok-pair.ensures.of_hand c.channel_step.ensures.exact
