use Rattle.script_text.proofs.GivenValues.{too_great}
use Rattle.script_text.proofs.given.positive.Goals as goal

pub returns-in-None : goal.returns-in-None
returns-in-None c = too_great c.args.digits.now (c.is_digits.ensures.0 c.if-not-is_digits.false) c.in-None.ensures.none
