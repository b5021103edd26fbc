-- Each image that may be left now might have been left before.
use Rattle.log_rollback.proofs.HeldStill.{held_of_less}
use Rattle.log_rollback.proofs.laws.less_left_holds_the_same.Goals as goal

pub returns : goal.returns
returns c = held_of_less
