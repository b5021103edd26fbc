use Rattle.std.proofs.Common.{◌≡◌, ◌<◌, ◌^◌, drop}
use Rattle.session_model.specs.Commands.{digits_value}
use Rattle.script_text.proofs.DigitValues.{value_after}
use Rattle.script_text.proofs.command.below.Given as goal

abbrev pub invariant-loop-digit : goal.invariant-loop-digit
invariant-loop-digit l =
    record { value : value_after l.value (drop l.digit-index l.digits) ≡ digits_value l.digits; small : l.value < 2 ^ 64; below : 0 < l.digit-index → l.value < l.length }
