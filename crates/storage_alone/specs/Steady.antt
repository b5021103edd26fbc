-- A storage between two asks, whether or not its disks tell what they hold.
use Rattle.std.specs.Prelude.{◌≡◌, ℕ, ◌<◌, ◌≤◌, ◌^◌, false, List, length, slice_get, Option, Some, None, IfSome}
use Rattle.graph_model.specs.declared.entity.Record.{Record}
use Rattle.core_steps.specs.declared.unit.Ending.TheVariants.{Sound}
use Rattle.channel.specs.declared.phase.Stage.TheVariants.{Idle}
use Rattle.channel.specs.State.{ChannelState}
use Rattle.channel.specs.Core.{last_part}
use Rattle.recovery.specs.Alone.{AloneState}
use Rattle.recovery.specs.Images.{types_header}

-- channel j of n: no call was refused, nothing was tried in vain, it marks and sweeps nothing, and its log of types has its header; its last part and the last that was confirmed
-- have these numbers, and these records are ready
pub record IsChannelAt {D : Type 0} (n j last confirmed : ℕ) (ready : Option (List Record)) (c : ChannelState D) : Type 0 where
  pub number : c.number ≡ j
  pub channels : c.channels ≡ n
  pub sound : c.ending ≡ Sound
  pub unfailed : c.failed ≡ false
  pub untried : c.tried ≡ None
  pub idle : (cycle : ℕ) × (c.phase ≡ Idle cycle)
  pub dictionary : IfSome c.types (λ log. log.header ≡ types_header n)
  pub last_is : last_part c ≡ last
  pub confirmed_is : c.files.confirmed ≡ confirmed
  pub ready_is : c.prepared ≡ ready

-- after m stores it has its part of the last one, confirmed, and none is ready
abbrev pub IsSteadyChannel : {D : Type 0} → (n j m : ℕ) → ChannelState D → Type 0
IsSteadyChannel n j m c = IsChannelAt n j m m None c

-- no store is open and no credit is out, and each channel has its part of the last store, confirmed; on channel j this is ready
pub record IsBetweenStores {D : Type 0} (ready : ℕ → Option (List Record)) (s : AloneState D) : Type 0 where
  pub some : 0 < length s.channels
  pub few : length s.channels ≤ 64
  pub channels : (j : ℕ) (c : ChannelState D) → slice_get s.channels j ≡ Some c → IsChannelAt (length s.channels) j s.monitor.stores_ended s.monitor.stores_ended (ready j) c
  pub flags : length s.monitor.begun ≡ length s.channels
  pub none_open : s.hand.opened ≡ None
  pub all_ended : s.monitor.stores_begun ≡ s.monitor.stores_ended
  pub most : s.monitor.stores_ended ≤ 2 ^ 63
  pub no_credit : s.hand.credit ≡ 0
  pub none_pending : s.monitor.pending ≡ 0

-- between two asks nothing is ready
abbrev pub IsSteady : {D : Type 0} → AloneState D → Type 0
IsSteady s = IsBetweenStores (λ j. None) s
