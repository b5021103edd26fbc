-- What a unit, which is a channel or the monitor with all that belongs to it, tells of itself.
use Rattle.std.specs.Prelude.{◌≡◌, ℕ, ◌≤◌, Bool, true, false, List, Option}
use Rattle.call_counts.specs.Counts.{Rose}
use Rattle.graph_model.specs.declared.entity.Record.{Record}
use Rattle.core_steps.specs.declared.unit.Ending.{Ending}
use Rattle.core_steps.specs.Rows.{Part}

-- what a channel that failed tried last: its part of the store of a number, with the store's next id, or a type record
pub data Tried : Type 0 where
  TriedPart : ℕ → ℕ → Tried
  TriedType : List ℕ → Tried

pub record Told : Type 0 where
  -- the channel or the monitor of the core; None where the unit does not tell
  pub part : Option Part
  pub ending : Ending
  -- how often its disk failed, which stands still at 2^64 - 1; 0 for a monitor
  pub faults : ℕ
  -- whether it failed, and makes no further disk call
  pub failed : Bool
  -- whether one of its logs is above its limit, or the last data file number is in use
  pub full : Bool
  -- the next id of its log, and the channels of the log's last store, bit j for channel j; 0 for a monitor
  pub next_id : ℕ
  pub log_channels : ℕ
  -- the records that are prepared as its part of the next store
  pub prepared : Option (List Record)
  -- the type records that are kept on it; none where the unit does not tell
  pub types : List (List ℕ)
  pub tried : Option Tried

-- what is prepared, kept and tried on a unit, which no worker changes
pub record Listed : Type 0 where
  pub prepared : Option (List Record)
  pub types : List (List ℕ)
  pub tried : Option Tried

abbrev pub listed : Told → Listed
listed t = record { prepared = t.prepared; types = t.types; tried = t.tried }

-- what any call does to a unit, whether or not it tells: its count does not fall, what is full stays full, and it fails only where the count rose
pub record GoesOn (old new : Told) : Type 0 where
  pub faults : old.faults ≤ new.faults
  pub full : old.full ≡ true → new.full ≡ true
  pub failed : new.failed ≡ true → old.failed ≡ false → Rose old.faults new.faults
