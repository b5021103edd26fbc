-- What a hand has once it gave a channel its part.
use Rattle.std.specs.Prelude.{◌≡◌, ℕ, ◌+◌, ◌≤◌}
use Rattle.core_steps.specs.Core.{Hand}
use Rattle.core_hands.specs.OpenStores.{with_part}

-- the channel has its part, and the hand gave at most one credit for each record of it
pub record HasGiven (number count : ℕ) (old new : Hand) : Type 0 where
  pub rest : new ≡ record old { opened = with_part number old.opened; credit = new.credit }
  pub most : new.credit ≤ old.credit
  pub least : old.credit ≤ new.credit + count
