use Rattle.std.proofs.Common.{◌≡◌, ◌∙◌, ap, drop, take, length, ◌-◌}
use Rattle.std.specs.Str.{valid_up_to}
use Rattle.std.proofs.lemmas.List.{take_rest}
use Rattle.script_text.proofs.RestSteps.{rest_taken, rest_refused, cut_len-le}
use Rattle.script_text.proofs.utf8.rest_of_line.Goals as goal

pub overflow_sub-left : goal.overflow_sub-left
overflow_sub-left c = rw c.cut_len.ensures (cut_len-le (take (length c.args.bytes.now - c.valid_up_to.result) (drop c.valid_up_to.result c.args.bytes.now)))

pub returns-in_ok-new-in-Ok : goal.returns-in_ok-new-in-Ok
returns-in_ok-new-in-Ok c = rest_taken c.args.bytes.now c.in_ok-new-in-Ok.field-0 c.in-Ok.ensures.cases.1 (c.in_ok-new-in-Ok.ensures ∙ c.in-Ok.ensures.cases.0)

pub returns-in-Err : goal.returns-in-Err
returns-in-Err c =
    let bytes = c.args.bytes.now in
    let tail = take (length bytes - c.valid_up_to.result) (drop c.valid_up_to.result bytes) in
    let tail_is : tail ≡ drop (valid_up_to c.in-Err.fault) bytes = take_rest bytes c.valid_up_to.result ∙ ap (λ n. drop n bytes) c.valid_up_to.ensures in
    rest_refused bytes tail (valid_up_to c.in-Err.fault) (length tail - c.cut_len.result)
    c.in-Err.ensures.cases.0 c.in-Err.ensures.valid_len tail_is (ap (λ n. length tail - n) c.cut_len.ensures)
