-- The transactions logs of all channels, as they were read.
use Rattle.std.specs.Prelude.{◌≡◌, ℕ, IsTrue, List, slice_get, Some}
use Rattle.gated_log.specs.Log.{payloads_of}
use Rattle.gated_log.specs.Reading.{IsReading}
use Rattle.channel_files.specs.Chunks.{ranges_of}
use Rattle.channel.specs.Images.{HasLog, Image, log_header, state_of}
use Rattle.recovery.specs.Images.{image_at}
use Rattle.store_agreement.specs.declared.agreement.Last.{Last}
use Rattle.disk_opening.specs.declared.logs.ChannelLog.{ChannelLog}

-- the log of channel j of n, read to its end
pub record IsLogOpen (n j : ℕ) (l : ChannelLog) : Type 0 where
  pub file : l.opening.file ≡ 0
  pub header : l.opening.header ≡ log_header n j
  pub ended : IsTrue l.opening.ended

-- what it says is what the image's log says
pub record IsLogRead (n j : ℕ) (image : Image) (l : ChannelLog) : Type 0 where
  pub reading : IsReading l.opening (image 0)
  pub has : HasLog n j image
  pub inventory : l.inventory.state ≡ state_of image
  pub ranges : l.ranges ≡ ranges_of (payloads_of (image 0))

-- so it is with each channel of n
abbrev pub AreLogsOpen : ℕ → List ChannelLog → Type 0
AreLogsOpen n logs = (j : ℕ) (l : ChannelLog) → slice_get logs j ≡ Some l → IsLogOpen n j l

abbrev pub AreLogsRead : ℕ → List Image → List ChannelLog → Type 0
AreLogsRead n images logs = (j : ℕ) (l : ChannelLog) → slice_get logs j ≡ Some l → IsLogRead n j (image_at images j) l

-- how a log ends
abbrev pub last_in : ChannelLog → Last
last_in l = record { number = l.inventory.state.last; last_entry = l.inventory.state.entry }
