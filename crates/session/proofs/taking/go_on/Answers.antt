use Rattle.std.proofs.Common.{◌<◌, IfOk, subst, sym}
use Rattle.session_model.specs.Answer.{Turn}
use Rattle.session_lines.specs.Due.{Meets}
use Rattle.session_lines.specs.Loads.{ComesAfterLoading, ComesAfterStart}
use Rattle.session_lines.specs.Steps.{outcome_steps, purpose_steps}
use Rattle.session_lines.specs.declared.outcome.Purpose.{Purpose}
use Rattle.session.proofs.taking.go_on.Goals as goal

pub returns-in-Start-clause-meets : goal.returns-in-Start-clause-meets
returns-in-Start-clause-meets c = λ is_next_type storage due admits goes_on.
    let start : ComesAfterStart c.in-Start.command c.args.memory.now storage due = subst (λ (p : Purpose). ComesAfterLoading p c.args.memory.now storage due) c.in-Start.is goes_on in
    subst (λ (t : Turn). IfOk c.carry_out.result (λ outcome. Meets is_next_type outcome c.carry_out.new.memory storage t)) (sym start.turn_is)
    (c.carry_out.ensures.meets is_next_type storage start.state admits start.stands (λ needs. start.started))

pub returns-in-Start-clause-nearer : goal.returns-in-Start-clause-nearer
returns-in-Start-clause-nearer c = λ g.
    subst (λ (p : Purpose). IfOk c.carry_out.result (λ outcome. outcome_steps outcome g < purpose_steps p g)) (sym c.in-Start.is) (c.carry_out.ensures.few g)
