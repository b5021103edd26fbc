use Rattle.script_text.proofs.GivenValues.{too_small}
use Rattle.script_text.proofs.given.negative.Goals as goal

pub returns-in-None : goal.returns-in-None
returns-in-None c = too_small c.args.digits.now (c.is_digits.ensures.0 c.if-not-is_digits.false) c.in-None.ensures.none
