-- Each cause is a step of what images hold that fails.
use Rattle.store_opening.proofs.NothingHeld.{damage_holds_nothing}
use Rattle.store_opening.proofs.laws.damages_hold_nothing.Goals as goal

pub returns : goal.returns
returns c images =
    let law = c.faults_hold_nothing.ensures in
    damage_holds_nothing images (law.log images) (law.agreement images) (law.types images) (law.chunks images) (law.missing images) (law.form images)
