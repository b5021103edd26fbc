-- The images show the same at the store that all have in common.
use Rattle.store_opening.proofs.HeldAfter.{alike_after, types_after}
use Rattle.store_opening.proofs.laws.taking_back_keeps_what_is_held.Goals as goal

pub returns : goal.returns
returns c old new what is after = c.images_hold_one.ensures.alike old new what is (alike_after old new what is after) (types_after old new what is after)
