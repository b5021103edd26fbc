-- What is wrong with the payloads of a transactions log, and with which record, from 1.
use Rattle.std.specs.Prelude.{◌≡◌, ℕ, ◌+◌, ◌<◌, false, List, ◌∷◌, ◌++◌, length, drop, slice_index, Some, Ok, IsErr}
use Rattle.gated_log.specs.Log.{IsNoLog, is_whole}
use Rattle.gated_log.specs.declared.opening.LogFault.{LogFault}
use Rattle.gated_log.specs.declared.opening.LogFault.TheVariants as log
use Rattle.tx_entry.specs.Entries.{entry_of}
use Rattle.tx_entry.specs.declared.entry.Entry.{Entry}
use Rattle.transactions_file.specs.Inventory.{State, allowed, inventory_of}
use Rattle.disk_opening.specs.declared.logs.ChannelLogFault.{ChannelLogFault}
use Rattle.disk_opening.specs.declared.logs.ChannelLogFault.TheVariants.{Fault, Header, Log}

-- the records in front of this one are entries, each allowed where it stands
pub record HasRightFront (payloads : List (List ℕ)) (at : ℕ) (state : State) (payload : List ℕ) : Type 0 where
  pub front : List (List ℕ)
  pub behind : List (List ℕ)
  pub split : payloads ≡ front ++ payload ∷ behind
  pub number : at ≡ length front + 1
  pub inventory : inventory_of front ≡ Some state

-- the first record that is wrong is no entry
pub record IsEntryFault (payloads : List (List ℕ)) (at : ℕ) : Type 0 where
  pub state : State
  pub payload : List ℕ
  pub front : HasRightFront payloads at state payload
  pub wrong : IsErr (entry_of payload)

-- the first record that is wrong is an entry that is not allowed there
pub record IsOrderFault (payloads : List (List ℕ)) (at : ℕ) : Type 0 where
  pub state : State
  pub payload : List ℕ
  pub entry : Entry
  pub front : HasRightFront payloads at state payload
  pub spelled : entry_of payload ≡ Ok entry
  pub wrong : allowed state entry ≡ false

-- what a fault of the log is to who reads its entries
abbrev pub channel_log_fault : LogFault → ChannelLogFault
channel_log_fault log.Fault = Fault
channel_log_fault log.Header = Header
channel_log_fault (log.Cut at) = Log at

-- the gate at this place is open and no whole record follows, so the file is no log of this header
pub record IsCutAt (header file : List ℕ) (at : ℕ) : Type 0 where
  pub long : 9 < length file
  pub open_ : slice_index file at ≡ 1
  pub cut : is_whole (drop (at + 1) file) ≡ false
  pub none : IsNoLog header file
