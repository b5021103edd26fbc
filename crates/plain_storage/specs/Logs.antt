-- Files that are logs.
use Rattle.std.specs.Prelude.{◌≡◌, ◌⊎◌, ℕ, ◌-◌, ◌^◌, ◌<◌, ◌≤◌, List, [], length}
use Rattle.gated_log.specs.Log.{IsLogOf, length_of, payloads_of}
use Rattle.gated_log.specs.Of.{IsOf}
use Rattle.gated_log.specs.State.{LogState}

-- the file is the log with this header and these payloads, or is too short to have one
abbrev pub IsLogFile : List ℕ → List (List ℕ) → List ℕ → Type 0
IsLogFile header payloads file = ((length file ≤ 9) × (payloads ≡ [])) ⊎ IsLogOf header payloads file

-- this file reads as this log
pub record IsOpen (file : ℕ) (header : List ℕ) (log : LogState) (reads : List ℕ) : Type 0 where
  pub file_is : log.file ≡ file
  pub header_is : log.header ≡ header
  pub is : IsOf log reads

-- the image's log is over its limit: nothing is added to it
abbrev pub IsOverLimit : List ℕ → Type 0
IsOverLimit image = 2 ^ 40 - 64 < length_of (payloads_of image)

-- a log of the two files is over its limit
abbrev pub HasFullLog : (ℕ → List ℕ) → Type 0
HasFullLog reads = IsOverLimit (reads 0) ⊎ IsOverLimit (reads 1)
