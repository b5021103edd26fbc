use Rattle.std.proofs.Common.{◌≡◌, sym, true, arith}
use Rattle.std.proofs.lemmas.Grind.{common_steps}
use Rattle.core_steps.specs.Core.{held}
use Rattle.core_steps.specs.Steps.{permits}
use Rattle.core_machine.proofs.StepCalls.{pending_small, more_begun, made_on_monitor}
use Rattle.core_machine.proofs.machine.monitor_made.Goals as goal

pub monitor_step-requires-clause-pending : goal.monitor_step-requires-clause-pending
monitor_step-requires-clause-pending c =
    rw c.in_ok-monitor.ensures.of_monitor (pending_small c.args.core.now c.requires.good c.requires.channels c.requires.actors)

pub monitor_step-requires-clause-opened : goal.monitor_step-requires-clause-opened
monitor_step-requires-clause-opened c =
    rw (c.in_ok-monitor.ensures.of_monitor, c.in_ok-monitor.ensures.of_hand)
    (more_begun c.args.core.now c.args.wanted.now.actor c.in-Some.hand.now c.requires.good (sym c.in-Some.ensures))

pub returns : goal.returns
returns c =
    let core = c.args.core.now in
    let wanted = c.args.wanted.now in
    let may : permits core.book (held core.channels) wanted.actor wanted.event ≡ true = grind (arith, common_steps) in
    made_on_monitor core wanted c.in-Some.hand.now (sym c.in-Some.ensures) may c.monitor_step.result c.in_ok-monitor.monitor c.in_ok-monitor.hand
    c.requires.here c.in_ok-monitor.ensures.of_monitor c.in_ok-monitor.ensures.of_hand c.monitor_step.ensures.exact
