use Rattle.std.proofs.Common.{arith, ◌+◌, ◌-◌, ◌*◌, get_or, drop}
use Rattle.script_text.proofs.DigitValues.{value_grows, value_next}
use Rattle.script_text.proofs.command.below.Goals as goal

pub returns-then-value-length-clause-none : goal.returns-then-value-length-clause-none
returns-then-value-length-clause-none c =
    let digits = c.args.digits.now in
    let i = c.loop-digit.digit-index in
    let value = c.loop-digit.value in
    omega (arith, c.loop-digit.invariant.value, value_next value i digits c.loop-digit-test.true, value_grows (10 * value + (get_or digits i 0 - 48)) (drop (i + 1) digits), c.if-value-length.true, c.from.ensures)
