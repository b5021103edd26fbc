-- Why a storage refuses an ask, and what its disks did meanwhile.
use Rattle.std.specs.Prelude.{◌≡◌, ◌⊎◌, ℕ, ◌≤◌, ◌^◌, true, length, slice_get, Some, Result, Ok, Err}
use Rattle.call_counts.specs.Counts.{Rose}
use Rattle.graph_model.specs.declared.ask.StorageFault.{StorageFault}
use Rattle.graph_model.specs.declared.ask.StorageFault.TheVariants.{NoMemory, Fault, Full, Broken}
use Rattle.core_steps.specs.declared.unit.Ending.{Ending}
use Rattle.core_steps.specs.declared.unit.Ending.TheVariants as ending
use Rattle.channel.specs.Core.{is_full}
use Rattle.channel.specs.State.{ChannelState}
use Rattle.channel.specs.declared.fault.ChannelFault.{ChannelFault}
use Rattle.channel.specs.declared.fault.ChannelFault.TheVariants as refused
use Rattle.recovery.specs.Alone.{AloneState}

-- some channel's last refused call ended so
pub record SomeEnds {D : Type 0} (end : Ending) (s : AloneState D) : Type 0 where
  pub number : ℕ
  pub channel : ChannelState D
  pub is_there : slice_get s.channels number ≡ Some channel
  pub ends : channel.ending ≡ end

-- a channel whose ending is `Full` with this number has a log that takes no further record, or the last file number; or its store's number is too great
pub record SomeIsFull {D : Type 0} (full : ℕ) (s : AloneState D) : Type 0 where
  pub number : ℕ
  pub channel : ChannelState D
  pub is_there : slice_get s.channels number ≡ Some channel
  pub ends : channel.ending ≡ ending.Full full
  pub why : (is_full channel ≡ true) ⊎ (full ≡ 2 ^ 63)

-- some channel ended as the fault says; want of memory leaves no ending
abbrev pub EndsSo : {D : Type 0} → StorageFault → AloneState D → Type 0
EndsSo NoMemory s = Unit {0}
EndsSo Fault s = SomeEnds ending.Fault s
EndsSo (Full number) s = SomeIsFull number s
EndsSo (Broken id) s = SomeEnds (ending.Broken id) s

-- the fault is that a disk holds something else than was written to it
abbrev pub IsBroken : StorageFault → Type 0
IsBroken NoMemory = ⊥
IsBroken Fault = ⊥
IsBroken (Full number) = ⊥
IsBroken (Broken id) = Unit {0}

-- where the ask was served, and where memory ran out for it
abbrev pub OnServed : {A : Type 0} → Result A StorageFault → Type 0 → Type 0
OnServed (Ok a) P = P
OnServed (Err NoMemory) P = P
OnServed (Err Fault) P = Unit {0}
OnServed (Err (Full number)) P = Unit {0}
OnServed (Err (Broken id)) P = Unit {0}

module _ {D : Type 0} (faults : D → ℕ) where
  -- as many channels, and of none did the count of faults fall
  pub record NoneFell (old new : AloneState D) : Type 0 where
    pub many : length new.channels ≡ length old.channels
    pub counts : (j : ℕ) (c d : ChannelState D) → slice_get old.channels j ≡ Some c → slice_get new.channels j ≡ Some d → faults c.files.disk ≤ faults d.files.disk

  -- of some channel it rose
  pub record SomeRose (old new : AloneState D) : Type 0 where
    pub number : ℕ
    pub before : ChannelState D
    pub behind : ChannelState D
    pub was_there : slice_get old.channels number ≡ Some before
    pub is_there : slice_get new.channels number ≡ Some behind
    pub rose : Rose (faults before.files.disk) (faults behind.files.disk)

  -- of no channel did it change
  abbrev pub IsCalm : AloneState D → AloneState D → Type 0
  IsCalm old new = (j : ℕ) (c d : ChannelState D) → slice_get old.channels j ≡ Some c → slice_get new.channels j ≡ Some d → faults d.files.disk ≡ faults c.files.disk

-- how a channel's refusal is told to who asks
abbrev pub fault_of : ChannelFault → StorageFault
fault_of refused.Fault = Fault
fault_of (refused.Full number) = Full number
fault_of (refused.Gone id) = Broken id
fault_of (refused.Changed id) = Broken id
