use Rattle.std.proofs.Common.{◌≡◌, IfOk, Some, ap, ◌∙◌, subst, sym}
use Rattle.session_model.specs.Answer.{Turn}
use Rattle.session_model.specs.Commands.{command_of}
use Rattle.script_text.specs.Meaning.{meant}
use Rattle.session_lines.specs.Due.{Meets}
use Rattle.session_lines.specs.Limits.{most_bytes}
use Rattle.session.proofs.ReadLines.{bad_line, is_read, turn_read}
use Rattle.session.proofs.taking.take_line.Goals as goal

pub take_command-requires-clause-read : goal.take_command-requires-clause-read
take_command-requires-clause-read c = is_read c.as_slice.result.now c.in-Ok.command c.in-Ok.ensures.found

pub returns-in-Ok-clause-meets : goal.returns-in-Ok-clause-meets
returns-in-Ok-clause-meets c = λ is_next_type storage due admits begins.
    let found : command_of c.args.text.now ≡ Some (meant c.in-Ok.command) = ap command_of (sym c.as_slice.ensures) ∙ c.in-Ok.ensures.found in
    subst (λ (t : Turn). IfOk c.take_command.result (λ outcome. Meets is_next_type outcome c.take_command.new.memory storage t))
    (sym (begins.due_is ∙ turn_read most_bytes begins.state c.args.text.now (Some (meant c.in-Ok.command)) found))
    (c.take_command.ensures.meets is_next_type storage begins.state admits begins.stands)

pub returns-in_ok-refusal_line-in-Err-BadLine-clause-meets : goal.returns-in_ok-refusal_line-in-Err-BadLine-clause-meets
returns-in_ok-refusal_line-in-Err-BadLine-clause-meets c =
    let fault = rw (c.in-Err-BadLine.field-0-is, c.as_slice.ensures) at c.in-Err-BadLine.ensures.fault in
    λ is_next_type storage due admits begins.
    bad_line c.args.text.now c.in_ok-refusal_line-in-Err-BadLine.field-0 c.args.memory.now storage due begins fault.0 c.in_ok-refusal_line-in-Err-BadLine.ensures
