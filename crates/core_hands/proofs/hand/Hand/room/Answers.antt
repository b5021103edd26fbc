use Rattle.std.proofs.Common.{◌≤◌, length, refl, arith}
use Rattle.core_hands.proofs.Transit.{length_transit}
use Rattle.core_hands.proofs.hand.Hand.room.Goals as goal

pub returns : goal.returns
returns c =
    let within : c.self.inside.in_transit ≤ length c.self.inside.transit.items = omega arith in
    let count = length_transit c.self.inside.in_transit c.self.inside.transit.items within in
    rw (← c.self.view_is, count) (record { rest = refl; within = c.self.invariant.1 })
