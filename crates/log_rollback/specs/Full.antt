-- Where a Truncation is due, and where the log takes none.
use Rattle.std.specs.Prelude.{◌≡◌, ℕ, ◌+◌, ◌-◌, ◌^◌, ◌<◌, List, length}
use Rattle.gated_log.specs.Log.{length_of, payloads_of}
use Rattle.channel.specs.Images.{Image, state_of}
use Rattle.recovery.specs.Images.{image_at}

-- the log of channel j has the store behind m and, of so many bytes, is above its limit
pub record IsFullAt (m : ℕ) (images : List Image) (j bytes : ℕ) : Type 0 where
  pub within : j < length images
  pub ahead : (state_of (image_at images j)).last ≡ m + 1
  pub long : bytes ≡ length_of (payloads_of (image_at images j 0))
  pub over : 2 ^ 40 - 64 < bytes

-- of the first such channel
pub record IsFirstFull (m : ℕ) (images : List Image) (bytes : ℕ) : Type 0 where
  pub channel : ℕ
  pub full : IsFullAt m images channel bytes
  pub front : (i more : ℕ) → i < channel → ¬ (IsFullAt m images i more)
