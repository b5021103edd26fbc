-- A log and its file.
use Rattle.std.specs.Prelude.{◌≡◌, ℕ, List, length}
use Rattle.gated_log.specs.Log.{payloads_of, length_of, IsLogOf}
use Rattle.gated_log.specs.State.{LogState}

-- the file reads as this log
pub record IsOf (log : LogState) (bytes : List ℕ) : Type 0 where
  pub is : IsLogOf log.header (payloads_of bytes) bytes
  pub long : log.length ≡ length_of (payloads_of bytes)
  pub count : log.count ≡ length (payloads_of bytes)
