use Rattle.std.proofs.Common.{◌≡◌, Err, sym, ap, ◌∙◌}
use Rattle.type_desc.proofs.Readers.{ok_is}
use Rattle.script_text.specs.Lines.{line_at}
use Rattle.script_text.proofs.LineReaders.{read_is_spelled, spelled_is_read, stuck_inside, stuck_is_no_line, stuck_at_longest}
use Rattle.script_text.proofs.line.read_line.Goals as goal

stuck : (c : goal.In-Err-Stuck) → line_at c.args.line.now ≡ Err c.in-Err-Stuck.left
stuck c = rw c.in-Err-Stuck.field-0-is at c.in-Err-Stuck.ensures

pub overflow_sub-result : goal.overflow_sub-result
overflow_sub-result c = stuck_inside c.args.line.now c.in-Err-Stuck.left (stuck c)

pub returns-in-Ok-clause-found : goal.returns-in-Ok-clause-found
returns-in-Ok-clause-found c = read_is_spelled c.args.line.now _ c.in-Ok.ensures

pub returns-in-Ok-clause-only : goal.returns-in-Ok-clause-only
returns-in-Ok-clause-only c = λ command is.
    let same = ok_is _ _ (sym c.in-Ok.ensures ∙ spelled_is_read c.args.line.now command is) in
    ap (λ p. p.0) same

pub returns-in-Err-Stuck-clause-only : goal.returns-in-Err-Stuck-clause-only
returns-in-Err-Stuck-clause-only c = λ command is. absurd (stuck_is_no_line c.args.line.now c.in-Err-Stuck.left (stuck c) (command, is))

pub returns-in-Err-Stuck-clause-fault : goal.returns-in-Err-Stuck-clause-fault
returns-in-Err-Stuck-clause-fault c =
    (stuck_is_no_line c.args.line.now c.in-Err-Stuck.left (stuck c), stuck_at_longest c.args.line.now c.in-Err-Stuck.left (stuck c))
